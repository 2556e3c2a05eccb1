-- `values` prints value after value: the first i are printed.
use mathlib.Core.Path.{◌≡◌, refl, ap, ◌∙◌}
use Prim.Native.Nat.{ℕ, ◌+◌, min}
use native.Mathlib.Omega.{arith}
use lib.IntN.{pos}
use Rattle.decimal.specs.Decimal.{signed_digits}
use lib.ListN.{length, take, get_or}
use mir.Syntax.{w32}
use mir.ValLaws.{to_z-of_z}
use Rattle.lists.proofs.Lists.{take_min}
use Rattle.script_notation.specs.Print.{spaced, values_text}
use Rattle.script_notation.proofs.Putting.{put_none, put_then, put_as, put_end, spaced_next}
use Rattle.script_notation.proofs.Walks.{take_next}
use Rattle.script_printing.proofs.values.Goals as goal

pub loop-i-init : goal.loop-i-init
unfolding spaced
loop-i-init c = (omega arith, c.shorter-n.ensures, refl, put_none c.args.out.now c.args.at)

pub offset_bounds-list-i : goal.offset_bounds-list-i
offset_bounds-list-i c = omega arith

pub bounds-list-i : goal.bounds-list-i
bounds-list-i c = omega arith

pub value-end-requires : goal.value-end-requires
value-end-requires c = omega (arith, put_end c.loop-i.invariant.3, c.loop-i.invariant.1, c.loop-i.invariant.2)

pub overflow_add-i : goal.overflow_add-i
overflow_add-i c = omega arith

pub loop-i-smaller : goal.loop-i-smaller
loop-i-smaller c = omega arith

pub loop-i-preserved : goal.loop-i-preserved
loop-i-preserved c =
    let A = c.args in
    let l = c.loop-i in
    let v = get_or A.list.now l.i (pos 0) in (
      omega arith,
      l.invariant.1,
      c.value-end.auto.out ∙ l.invariant.2,
      put_as (omega arith) (spaced_next signed_digits (take l.i A.list.now) (take (l.i + 1) A.list.now) _ (take_next A.list.now l.i (pos 0) _ (omega arith) (to_z-of_z w32 v (record { sfits = c.v-1.given })))) (put_then (omega arith) l.invariant.3 c.value-end.ensures),
    )

pub shape_of-out : goal.shape_of-out
shape_of-out c = c.loop-i.invariant.2

pub returns : goal.returns
returns c =
    let A = c.args in
    let e : c.loop-i.i ≡ min A.count (length A.list.now) = omega (arith, c.loop-i.invariant.1) in
    put_as (omega arith) (ap values_text (ap (λ (k : ℕ). take k A.list.now) e ∙ take_min A.count A.list.now)) c.loop-i.invariant.3
