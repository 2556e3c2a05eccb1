-- `names` names one record after another.
use mathlib.Core.Path.{◌≡◌, refl}
use mathlib.Core.Bool.{not}
use Prim.Native.Nat.{ℕ, ◌-◌}
use native.Mathlib.Omega.{arith}
use lib.ListN.{length, length-replicate}
use Rattle.limits.specs.Limits.{records_most}
use Rattle.lists.proofs.Renumber.{count_most}
use Rattle.protocol.specs.Collect.{is_past}
use Rattle.network_layout.specs.InWords.{network_in}
use Rattle.network_layout.proofs.Performs.{records_count, records_few}
use Rattle.network_layout.proofs.OnNetwork.{ranged_on, at_record}
use Rattle.network_point.proofs.PointLaws.{none_named, named_next}
use borrow.Author.Rules.{rules}
use Rattle.network_point.proofs.names.Goals as goal

pub record_count-made-requires : goal.record_count-made-requires
record_count-made-requires c = let sized = c.requires.net.sized in search rules

pub loop-k-init : goal.loop-k-init
loop-k-init c = (omega arith, none_named (is_past (network_in c.args.state.now)) _ (length-replicate {A = ℕ} records_most 0))

pub is_past-goes-requires : goal.is_past-goes-requires
is_past-goes-requires c =
    record {
      there = at_record c.args.state.now c.requires.net c.loop-k.k c.loop-k.k refl (omega (arith, records_count c.args.state.now, c.record_count-made.ensures, c.loop-k-test.true));
      point = c.earliest-point.ensures;
      places_are = c.requires.places_are;
    }

pub name-kept-requires : goal.name-kept-requires
name-kept-requires c =
    let w = c.args.state.now in
    let there = at_record w c.requires.net c.loop-k.k c.loop-k.k refl (omega (arith, records_count c.args.state.now, c.record_count-made.ensures, c.loop-k-test.true)) in
    record { few = there.few; low = omega (arith, c.loop-k.invariant.1.count, count_most (λ i. not (is_past (network_in w) i)) c.loop-k.k) }

pub loop-k-preserved : goal.loop-k-preserved
loop-k-preserved c =
    let w = c.args.state.now in
    let there = at_record w c.requires.net c.loop-k.k c.loop-k.k refl (omega (arith, records_count c.args.state.now, c.record_count-made.ensures, c.loop-k-test.true)) in
    (omega (arith, c.loop-k-test.true), named_next (is_past (network_in w)) c.loop-k.names c.name-kept.new.names c.loop-k.k c.loop-k.kept c.loop-k.invariant.1 there.few c.is_past-goes.result c.name-kept.result c.is_past-goes.ensures c.name-kept.ensures)

pub returns : goal.returns
returns c =
    let w = c.args.state.now in
    let all : c.loop-k.k ≡ length (network_in w).history = omega (arith, records_count c.args.state.now, c.record_count-made.ensures, c.loop-k-test.false, c.loop-k.invariant.0) in
    record { few = records_few w (ranged_on w c.requires.net); each = λ k l. c.loop-k.invariant.1.each k (omega (arith, all)) }
