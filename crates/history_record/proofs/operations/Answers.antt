-- `operations` places one operation after another: the first i of them are placed.
use mathlib.Core.Path.{refl, sym, ap, subst, ◌∙◌}
use mathlib.Core.List.{List}
use Prim.Native.Nat.{◌-◌}
use native.Mathlib.Omega.{arith}
use lib.ListN.{get_or}
use lib.Seq.{take_all}
use mir.Val.{to_z, of_z, SFits}
use mir.Syntax.{w32}
use Rattle.site_operations.specs.Operations.{Op, no_op}
use Rattle.history_file.proofs.Held.{ops_of, ops_length, op_at_lem, passed_on}
use Rattle.history_record.specs.Placed.{Operated, Placed}
use Rattle.history_record.proofs.PlacedLaws.{placed_more}
use Rattle.history_record.proofs.operations.Goals as goal

pub loop-i-init : goal.loop-i-init
loop-i-init c = (omega arith, record { kinds_are = refl; items_are = refl; values_are = refl })

pub loop-i-preserved : goal.loop-i-preserved
loop-i-preserved c =
    let l = c.loop-i in
    let A = c.args in
    let os = ops_of A.b.now A.n in
    let o = c.operation_at-o in
    let fits : SFits w32 o.result.value = record { sfits = c.struct_told-1.given.1.1.0.1 } in
    let one = sym (op_at_lem A.b.now A.n l.i c.loop-i-test.true) in
    let operated : Operated (get_or os l.i no_op) o.result.kind o.result.item (to_z w32 (of_z w32 o.result.value))
    = record { kind_is = o.ensures.kind_is ∙ ap (λ (x : Op). x.kind) one; item_is = o.ensures.item_is ∙ ap (λ (x : Op). x.item) one; value_is = passed_on o.result.value _ fits (o.ensures.value_is ∙ ap (λ (x : Op). x.value) one) } in
    (omega arith, placed_more os l.i (omega (arith, ops_length A.b.now A.n)) (omega arith) o.result.kind o.result.item _ operated l.kinds l.items l.values l.invariant.1)

pub returns : goal.returns
returns c =
    let l = c.loop-i in
    let A = c.args in
    subst (λ (os : List Op). Placed os l.kinds l.items l.values) (take_all l.i (ops_of A.b.now A.n) (omega (arith, ops_length A.b.now A.n))) l.invariant.1
