-- `note_record` notes the record for one operation after another.
use mathlib.Core.Path.{◌≡◌, refl, ap, ◌∙◌}
use mathlib.Core.List.{List}
use Prim.Native.Nat.{ℕ, ◌<◌, ◌-◌}
use native.Mathlib.Omega.{arith}
use lib.ListN.{length, get_or}
use Rattle.lists.proofs.Folds.{fold_next, fold_done}
use Rattle.site_operations.specs.Operations.{Op, no_op, written_item}
use Rattle.records.specs.Records.{Record}
use Rattle.records.proofs.Laws.{op_there}
use Rattle.protocol.specs.Network.{Network, nth_record}
use Rattle.network_layout.specs.InWords.{network_in}
use Rattle.network_noting.specs.Noting.{note_item}
use Rattle.network_noting.proofs.NotingLaws.{replaces_itself}
use Rattle.network_noting.proofs.note_record.Goals as goal

-- the operations of the record that was read
meant_ops : (n : Network) (k r : ℕ) (q : Record) → q ≡ nth_record n k → k ≡ r → q.ops ≡ (nth_record n r).ops
meant_ops n k r q e f = ap (λ (s : Record). s.ops) e ∙ ap (λ (m : ℕ). (nth_record n m).ops) f

pub record_at-w-requires : goal.record_at-w-requires
record_at-w-requires c = c.requires.has

pub loop-a-init : goal.loop-a-init
loop-a-init c =
    let A = c.args in
    (omega arith, refl, refl, replaces_itself A.latest (network_in A.state.now) A.r)

pub written_item-requires : goal.written_item-requires
written_item-requires c = record { there = omega (arith, c.loop-a-test.true, c.count-n.ensures.1) }

pub note_write-met-requires : goal.note_write-met-requires
note_write-met-requires c = record { note = c.requires; met = c.loop-a.invariant.3 }

pub loop-a-preserved : goal.loop-a-preserved
loop-a-preserved c =
    let A = c.args in
    let n = network_in A.state.now in
    let i = c.loop-a.a in
    let ops = (nth_record n A.r).ops in
    let same = meant_ops n A.r A.r _ c.record_at-w.ensures.meant refl in
    let there : i < length ops = omega (arith, c.count-n.ensures.0 ∙ ap length same, c.loop-a-test.true) in
    let written : c.written_item.result ≡ written_item (get_or ops i no_op)
    = c.written_item.ensures
    ∙ ap written_item (op_there _ _ c.record_at-w.ensures.meant i (omega (arith, c.count-n.ensures.0, c.loop-a-test.true)))
    ∙ ap (λ (os : List Op). written_item (get_or os i no_op)) (ap (λ (k : ℕ). (nth_record n k).ops) refl) in
    let told : c.note_write-met.new.table ≡ note_item A.latest n A.r c.loop-a.table (written_item (get_or ops i no_op))
    = c.note_write-met.ensures.0 ∙ ap (note_item A.latest n A.r c.loop-a.table) written in (
      omega arith,
      c.note_write-met.auto.table ∙ c.loop-a.invariant.1,
      fold_next _ _ _ ops i c.loop-a.invariant.2 no_op _ there told,
      c.note_write-met.ensures.1,
    )

pub shape_of-table : goal.shape_of-table
shape_of-table c = c.loop-a.invariant.1

pub returns : goal.returns
returns c =
    let n = network_in c.args.state.now in
    let ops = (nth_record n c.args.r).ops in
    let same = meant_ops n c.args.r c.args.r _ c.record_at-w.ensures.meant refl in
    fold_done _ _ _ ops c.loop-a.a c.loop-a.invariant.2 (omega (arith, c.count-n.ensures.0 ∙ ap length same, c.loop-a-test.false))
