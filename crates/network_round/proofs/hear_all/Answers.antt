-- `hear_all` goes by the places: the sites before place k have been.
use mathlib.Core.Path.{sym, ◌∙◌}
use Prim.Native.Nat.{◌+◌, ◌≤◌, ◌<◌}
use native.Mathlib.Omega.{arith}
use lib.ListN.{length, drop}
use Rattle.protocol.specs.Round.{site_calls, sites_in_order}
use Rattle.network_layout.specs.InWords.{network_in}
use Rattle.network_layout.proofs.Performs.{sites_count}
use Rattle.network_hearing.proofs.WalkLaws.{all_left, none_left, each_first, each_then, each_none}
use Rattle.network_round.proofs.RoundLaws.{site_few, site_next, order_done}
use Rattle.network_round.proofs.hear_all.Goals as goal

pub site_count-sites-requires : goal.site_count-sites-requires
site_count-sites-requires c = c.requires.walking.net.sized

pub loop-k-init : goal.loop-k-init
loop-k-init c = all_left c.requires.walking

-- at one place
pub hear-requires : goal.hear-requires
hear-requires c =
    let w = c.args.state.now in
    let net = c.requires.walking.net in
    let k = c.loop-k.k in
    let order = sites_in_order (network_in w) in
    let there : k < length (network_in w).sites = omega (arith, sites_count w, c.site_count-sites.ensures, c.loop-k-test.true) in
    let next = site_next w net c.args.places c.requires.places_are k c.site_at.result there c.site_at.ensures in
    record {
      walking = each_first site_calls (drop k order) c.loop-k.invariant c.site_at.result (drop (k + 1) order) next;
      few = site_few w net c.args.places c.requires.places_are k c.site_at.result there c.site_at.ensures;
    }

pub loop-k-preserved : goal.loop-k-preserved
loop-k-preserved c =
    let w = c.args.state.now in
    let net = c.requires.walking.net in
    let k = c.loop-k.k in
    let order = sites_in_order (network_in w) in
    let there : k < length (network_in w).sites = omega (arith, sites_count w, c.site_count-sites.ensures, c.loop-k-test.true) in
    let next = site_next w net c.args.places c.requires.places_are k c.site_at.result there c.site_at.ensures in
    each_then site_calls (drop k order) c.loop-k.invariant c.site_at.result (drop (k + 1) order) next c.hear.new.state c.hear.ensures

pub shape_of-state : goal.shape_of-state
shape_of-state c = c.loop-k.invariant.walking.net.sized ∙ sym c.requires.walking.net.sized

pub returns : goal.returns
returns c =
    let w = c.args.state.now in
    let k = c.loop-k.k in
    let all : length (network_in w).sites ≤ k = omega (arith, sites_count w, c.site_count-sites.ensures, c.loop-k-test.false) in
    none_left (each_none site_calls (drop k (sites_in_order (network_in w))) (order_done w c.requires.walking.net k all) c.loop-k.invariant)
