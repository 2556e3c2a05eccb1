-- `zeros` leaves at the first byte that is not 0.
use mathlib.Core.Path.{refl, sym}
use Prim.Native.Nat.{ℕ, ◌-◌}
use native.Mathlib.Omega.{arith}
use lib.ListN.{get_or}
use lib.Dec.{eqb}
use borrow.Author.Tests.{eq-eqb, ne_eqb}
use Rattle.lists.proofs.Every.{every_false, every_next, every_done}
use Rattle.history_numbers.proofs.zeros.Goals as goal

pub loop-i-init : goal.loop-i-init
loop-i-init c = (omega arith, refl)

pub returns-then-b-i-ne0 : goal.returns-then-b-i-ne0
returns-then-b-i-ne0 c =
    let b = c.args.b.now in
    let i = c.loop-i.i in
    sym (every_false (λ (x : ℕ). eqb x 0) b i 0 c.loop-i.invariant.1 c.loop-i-test.true (ne_eqb (get_or b i 0) 0 c.if-b-i-ne0.true))

pub loop-i-preserved : goal.loop-i-preserved
loop-i-preserved c =
    let b = c.args.b.now in
    let i = c.loop-i.i in
    (omega arith, every_next (λ (x : ℕ). eqb x 0) b i 0 c.loop-i.invariant.1 c.loop-i-test.true (eq-eqb (get_or b i 0) 0 c.if-b-i-ne0.false))

pub returns : goal.returns
returns c = sym (every_done (λ (x : ℕ). eqb x 0) c.args.b.now c.loop-i.i 0 c.loop-i.invariant.1 c.loop-i-test.false)
