-- `operations` prints operation after operation: the first i are printed.
use mathlib.Core.Path.{refl, ap, ◌∙◌}
use Prim.Native.Nat.{◌+◌}
use native.Mathlib.Omega.{arith}
use lib.IntN.{pos}
use lib.ListN.{get_or}
use mir.Syntax.{w32}
use mir.ValLaws.{to_z-of_z}
use Rattle.script_notation.specs.Parse.{first_operations}
use Rattle.script_notation.specs.Print.{spaced, op_text, ops_text}
use Rattle.script_notation.proofs.Putting.{put_none, put_then, put_as, put_end, spaced_next}
use Rattle.script_notation.proofs.Parsing.{ops_next, ops_least}
use Rattle.script_printing.proofs.operations.Goals as goal

pub loop-i-init : goal.loop-i-init
unfolding spaced
loop-i-init c = (omega arith, c.shorter-n.ensures, refl, put_none c.args.out.now c.args.at)

pub operation-end-requires : goal.operation-end-requires
operation-end-requires c = omega (arith, put_end c.loop-i.invariant.3, c.loop-i.invariant.1, c.loop-i.invariant.2, c.requires.room)

pub loop-i-preserved : goal.loop-i-preserved
loop-i-preserved c =
    let A = c.args in
    let l = c.loop-i in
    let ks = A.kinds.now in
    let is = A.items.now in
    let vs = A.values.now in
    let v = get_or vs l.i (pos 0) in
    let next = ops_next ks is vs l.i (omega (arith, l.invariant.1, c.requires.kinds_sized)) (omega (arith, l.invariant.1, c.requires.items_sized)) (omega (arith, l.invariant.1, c.requires.values_sized)) _ (to_z-of_z w32 v (record { sfits = c.v-1.given })) in (
      omega arith,
      l.invariant.1,
      c.operation-end.auto.out ∙ l.invariant.2,
      put_as (omega arith) (spaced_next op_text (first_operations l.i ks is vs) (first_operations (l.i + 1) ks is vs) _ next) (put_then (omega (arith, c.requires.room, l.invariant.1)) l.invariant.3 c.operation-end.ensures),
    )

pub shape_of-out : goal.shape_of-out
shape_of-out c = c.loop-i.invariant.2

pub returns : goal.returns
returns c =
    let A = c.args in
    let l = c.loop-i in
    put_as (omega (arith, l.invariant.1)) (ap ops_text (ops_least A.kinds.now A.items.now A.values.now l.i A.count 8 (omega (arith, l.invariant.1)) c.requires.kinds_sized c.requires.items_sized c.requires.values_sized)) l.invariant.3
