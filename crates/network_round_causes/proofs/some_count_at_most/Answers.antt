-- `some_count_at_most` asks each site in turn: none below i has the largest count.
use mathlib.Core.Path.{◌≡◌, refl, sym, ap, ◌∙◌}
use mathlib.Core.Bool.{false}
use Prim.Native.Nat.{◌-◌}
use native.Mathlib.Omega.{arith}
use lib.ListN.{length}
use Rattle.lists.specs.Lists.{some_below}
use Rattle.lists.proofs.Some.{some_below_at, some_below_next}
use Rattle.protocol.specs.Network.{Network}
use Rattle.protocol.specs.Steps.{count_at_most}
use Rattle.network_layout.specs.InWords.{network_in}
use Rattle.network_layout.proofs.Performs.{sites_count}
use Rattle.network_layout.proofs.OnNetwork.{at_site}
use Rattle.network_round_causes.proofs.some_count_at_most.Goals as goal

pub site_count-requires : goal.site_count-requires
site_count-requires c = c.requires.sized

pub loop-i-init : goal.loop-i-init
loop-i-init c = (omega arith, refl)

pub count_at_most-requires : goal.count_at_most-requires
count_at_most-requires c =
    let net : Network = network_in c.args.state.now in
    let sites_are : c.wide-sites.result ≡ length net.sites = omega (arith, sites_count c.args.state.now, c.wide-sites.ensures, c.site_count.ensures) in
    let S = c in
    at_site S.args.state.now S.requires c.loop-i.i c.loop-i.i refl (omega (arith, sites_are, c.loop-i-test.true))

pub returns-then-count_at_most : goal.returns-then-count_at_most
returns-then-count_at_most c =
    let net : Network = network_in c.args.state.now in
    let sites_are : c.wide-sites.result ≡ length net.sites = omega (arith, sites_count c.args.state.now, c.wide-sites.ensures, c.site_count.ensures) in
    sym (some_below_at (count_at_most net) (length net.sites) c.loop-i.i (omega (arith, sites_are, c.loop-i-test.true)) (sym c.count_at_most.ensures ∙ c.if-count_at_most.true))

pub loop-i-preserved : goal.loop-i-preserved
loop-i-preserved c =
    let net : Network = network_in c.args.state.now in
    (omega (arith, c.loop-i-test.true), some_below_next (count_at_most net) c.loop-i.i c.loop-i.invariant.1 (sym c.count_at_most.ensures ∙ c.if-count_at_most.false))

pub returns : goal.returns
returns c =
    let net : Network = network_in c.args.state.now in
    let sites_are : c.wide-sites.result ≡ length net.sites = omega (arith, sites_count c.args.state.now, c.wide-sites.ensures, c.site_count.ensures) in
    let all : length net.sites ≡ c.loop-i.i = omega (arith, sites_are, c.loop-i-test.false, c.loop-i.invariant.0) in
    sym (ap (some_below (count_at_most net)) all ∙ c.loop-i.invariant.1)
