-- `last_write` goes over the operations: `value` is the last written of those below i.
use mathlib.Core.Path.{◌≡◌, refl, sym, ap, ap₂, ◌∙◌}
use mathlib.Core.Bool.{cond}
use mathlib.Core.List.{List}
use Prim.Native.Nat.{◌<◌, ◌-◌}
use native.Mathlib.Omega.{arith}
use lib.IntN.{ℤ, pos}
use lib.ListN.{length, get_or}
use lib.Seq.{take_all}
use mir.Val.{to_z}
use mir.Syntax.{w32}
use Rattle.site_operations.specs.Operations.{Op, writes_item, no_op}
use Rattle.record_codes.specs.Codes.{places_in}
use Rattle.records.specs.InWords.{record_in}
use Rattle.records.proofs.Laws.{op_at_lem}
use Rattle.network_fold.proofs.FoldLaws.{last_or, written_next}
use Rattle.network_fold.proofs.last_write.Goals as goal

pub loop-i-init : goal.loop-i-init
loop-i-init c = (omega arith, refl)

pub later_write-value-requires : goal.later_write-value-requires
later_write-value-requires c = record { there = omega (arith, c.count-n.ensures.1) }

pub loop-i-preserved : goal.loop-i-preserved
loop-i-preserved c =
    let A = c.args in
    let w = A.w.now in
    let i = c.loop-i.i in
    let in-it : i < length (record_in w).ops = omega (arith, c.count-n.ensures.0, c.loop-i-test.true) in
    let o = get_or (places_in w) i no_op in
    let told : to_z w32 c.later_write-value.result ≡ cond (writes_item A.item o) o.value (to_z w32 c.loop-i.value) = c.later_write-value.ensures in
    (omega arith, told ∙ ap₂ (λ (q : Op) (v : ℤ). cond (writes_item A.item q) q.value v) (sym (op_at_lem w i in-it)) c.loop-i.invariant.1 ∙ written_next A.item i (record_in w).ops in-it)

pub returns : goal.returns
returns c =
    let A = c.args in
    let os = (record_in A.w.now).ops in
    c.loop-i.invariant.1 ∙ ap (λ (qs : List Op). last_or A.item qs (pos 0)) (take_all c.loop-i.i os (omega (arith, c.count-n.ensures.0, c.loop-i-test.false)))
