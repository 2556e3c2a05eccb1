-- `greatest_epoch` looks at one site after another.
use mathlib.Core.Path.{◌≡◌, refl, sym, ap, ◌∙◌}
use Prim.Native.Nat.{◌-◌, max}
use native.Mathlib.Omega.{arith}
use lib.ListN.{length}
use Rattle.timestamp_order.specs.Timestamp.{Stamp}
use Rattle.protocol.specs.Network.{Network, site_stamps}
use Rattle.protocol.proofs.Point.{stamps_many, stamps_at}
use Rattle.network_layout.specs.InWords.{network_in}
use Rattle.network_layout.proofs.Performs.{sites_count}
use Rattle.network_layout.proofs.OnNetwork.{at_site}
use Rattle.network_round_causes.proofs.CauseLaws.{epoch_next, epoch_done}
use Rattle.network_round_causes.proofs.greatest_epoch.Goals as goal

pub site_count-requires : goal.site_count-requires
site_count-requires c = c.requires.sized

pub loop-i-init : goal.loop-i-init
loop-i-init c = omega arith

pub epoch_at-requires : goal.epoch_at-requires
epoch_at-requires c =
    let net : Network = network_in c.args.state.now in
    let sites_are : c.wide-sites.result ≡ length net.sites = omega (arith, sites_count c.args.state.now, c.wide-sites.ensures, c.site_count.ensures) in
    let S = c in
    at_site S.args.state.now S.requires c.loop-i.i c.loop-i.i refl (omega (arith, sites_are, c.loop-i-test.true))

pub loop-i-preserved : goal.loop-i-preserved
loop-i-preserved c =
    let net : Network = network_in c.args.state.now in
    let sites_are : c.wide-sites.result ≡ length net.sites = omega (arith, sites_count c.args.state.now, c.wide-sites.ensures, c.site_count.ensures) in
    let epoch = c.epoch_at.ensures ∙ sym (ap (λ (t : Stamp). t.epoch) (stamps_at net c.loop-i.i)) in
    epoch_next (site_stamps net) c.loop-i.i c.loop-i.most c.loop-i.invariant c.greater-most.result (omega (arith, stamps_many net, sites_are, c.loop-i-test.true))
    (c.greater-most.ensures ∙ ap (max c.loop-i.most) epoch)

pub returns : goal.returns
returns c =
    let net : Network = network_in c.args.state.now in
    let sites_are : c.wide-sites.result ≡ length net.sites = omega (arith, sites_count c.args.state.now, c.wide-sites.ensures, c.site_count.ensures) in
    epoch_done (site_stamps net) c.loop-i.i c.loop-i.most c.loop-i.invariant (omega (arith, stamps_many net, sites_are, c.loop-i-test.false))
