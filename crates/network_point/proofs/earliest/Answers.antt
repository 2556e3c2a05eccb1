-- `earliest` looks at one site after another.
use mathlib.Core.Path.{◌≡◌, refl}
use mathlib.Core.List.{List}
use Prim.Native.Nat.{ℕ, ◌≤◌, ◌<◌, ◌-◌}
use native.Mathlib.Omega.{arith}
use lib.ListN.{length}
use Rattle.network_layout.specs.InWords.{network_in}
use Rattle.network_layout.specs.Layout.{site_count}
use Rattle.network_layout.specs.At.{AtNetwork}
use Rattle.network_layout.proofs.Assembled.{range_parts, parts_of}
use Rattle.network_layout.proofs.Performs.{sites_count}
use Rattle.network_layout.proofs.OnNetwork.{ranged_on, at_site}
use Rattle.network_point.proofs.PointLaws.{first_site, last_site}
use borrow.Author.Rules.{rules}
use Rattle.network_point.proofs.earliest.Goals as goal

pub bounds-state-0 : goal.bounds-state-0
bounds-state-0 c = let sized = c.requires.net.sized in search rules

some_sites : (w : List ℕ) → AtNetwork w → 1 ≤ site_count w
unfolding parts_of
some_sites w net = (range_parts w (ranged_on w net)).some_sites

pub loop-i-init : goal.loop-i-init
loop-i-init c =
    let w = c.args.state.now in
    (omega (arith, some_sites w c.requires.net), first_site (network_in w) (omega (arith, some_sites w c.requires.net, sites_count w)))

pub earlier_of-best-requires : goal.earlier_of-best-requires
earlier_of-best-requires c =
    record {
      next = at_site c.args.state.now c.requires.net c.loop-i.i c.loop-i.i refl (omega (arith, sites_count c.args.state.now, c.loop-i-test.true));
      so_far = c.loop-i.invariant.1;
      places_are = c.requires.places_are;
    }

pub loop-i-preserved : goal.loop-i-preserved
loop-i-preserved c = (omega arith, c.earlier_of-best.ensures)

pub returns : goal.returns
returns c =
    let w = c.args.state.now in
    let n = network_in w in
    let all : c.loop-i.i ≡ length n.sites = omega (arith, sites_count c.args.state.now, c.loop-i-test.false, c.loop-i.invariant.0) in
    let low : c.loop-i.best < c.loop-i.i = c.loop-i.invariant.1.low in
    record { site = at_site w c.requires.net c.loop-i.best c.loop-i.best refl (omega arith); is = last_site n c.loop-i.i c.loop-i.best c.loop-i.invariant.1 (omega arith) }
