-- `spell` prints the last digit of what is left, and divides by ten. The measure is what is left.
use mathlib.Core.Path.{ap, ◌∙◌}
use Prim.Native.Nat.{ℕ, ◌+◌}
use native.Mathlib.Omega.{arith}
use native.Mathlib.Nat.{mod-lt}
use lib.ListN.{length-set}
use Rattle.decimal.proofs.Digits.{digits_some}
use Rattle.decimal_printing.proofs.Spelling.{spelt_none, spelt_length, spelt_inside, spelt_some, spelt_more, spelt_done}
use Rattle.decimal_printing.proofs.spell.Goals as goal

pub overflow_add-end : goal.overflow_add-end
overflow_add-end c =
    omega (arith, c.requires, c.size.ensures)

pub overflow_sub-i : goal.overflow_sub-i
overflow_sub-i c =
    omega (arith, c.size.ensures, digits_some c.args.n)

pub loop-m-init : goal.loop-m-init
loop-m-init c =
    let A = c.args in
    spelt_none A.out.now A.at A.n c.size.result c.size.ensures

pub overflow_cast-out : goal.overflow_cast-out
overflow_cast-out c = omega (arith, mod-lt c.loop-m.m {m = 10} (omega arith))

pub overflow_add-out : goal.overflow_add-out
overflow_add-out c = omega (arith, mod-lt c.loop-m.m {m = 10} (omega arith))

pub bounds-out-i : goal.bounds-out-i
bounds-out-i c =
    spelt_inside c.args.out.now c.loop-m.out c.args.at c.args.n c.loop-m.m c.loop-m.i c.requires c.loop-m.invariant

pub overflow_sub-i-in-loop-m : goal.overflow_sub-i-in-loop-m
overflow_sub-i-in-loop-m c =
    spelt_some c.args.out.now c.loop-m.out c.args.at c.args.n c.loop-m.m c.loop-m.i c.requires c.loop-m.invariant c.loop-m-test.true

pub loop-m-smaller : goal.loop-m-smaller
loop-m-smaller c = omega (arith, c.loop-m-test.true)

pub loop-m-preserved : goal.loop-m-preserved
loop-m-preserved c =
    spelt_more c.args.out.now c.loop-m.out c.args.at c.args.n c.loop-m.m c.loop-m.i c.requires c.loop-m.invariant c.loop-m-test.true

pub overflow_cast-out-2 : goal.overflow_cast-out-2
overflow_cast-out-2 c = omega (arith, c.loop-m-test.false)

pub overflow_add-out-2 : goal.overflow_add-out-2
overflow_add-out-2 c = omega (arith, c.loop-m-test.false)

pub bounds-out-i-2 : goal.bounds-out-i-2
bounds-out-i-2 c =
    spelt_inside c.args.out.now c.loop-m.out c.args.at c.args.n c.loop-m.m c.loop-m.i c.requires c.loop-m.invariant

pub shape_of-out : goal.shape_of-out
shape_of-out c =
    length-set c.loop-m.out c.loop-m.i (48 + c.loop-m.m) ∙ spelt_length c.args.out.now c.loop-m.out c.args.at c.args.n c.loop-m.m c.loop-m.i c.requires c.loop-m.invariant

pub returns : goal.returns
returns c =
    spelt_done c.args.out.now c.loop-m.out c.args.at c.args.n c.loop-m.m c.loop-m.i c.requires c.loop-m.invariant c.loop-m-test.false _ (ap (λ (k : ℕ). c.args.at + k) c.size.ensures)
