-- `all_zero` leaves at the first word that is not 0.
use mathlib.Core.Path.{refl, sym}
use Prim.Native.Nat.{◌-◌}
use native.Mathlib.Omega.{arith}
use lib.ListN.{get_or}
use borrow.Author.Tests.{eq-eqb, ne_eqb}
use Rattle.lists.proofs.Every.{every_false, every_next, every_done}
use Rattle.network_shape.specs.Tested.{is_zero_word}
use Rattle.network_shape.proofs.all_zero.Goals as goal

pub loop-i-init : goal.loop-i-init
loop-i-init c = (omega arith, refl)

pub returns-then-w-i-ne0 : goal.returns-then-w-i-ne0
returns-then-w-i-ne0 c =
    let w = c.args.w.now in
    let i = c.loop-i.i in
    sym (every_false is_zero_word w i 0 c.loop-i.invariant.1 c.loop-i-test.true (ne_eqb (get_or w i 0) 0 c.if-w-i-ne0.true))

pub loop-i-preserved : goal.loop-i-preserved
loop-i-preserved c =
    let w = c.args.w.now in
    let i = c.loop-i.i in
    (omega arith, every_next is_zero_word w i 0 c.loop-i.invariant.1 c.loop-i-test.true (eq-eqb (get_or w i 0) 0 c.if-w-i-ne0.false))

pub returns : goal.returns
returns c = sym (every_done is_zero_word c.args.w.now c.loop-i.i 0 c.loop-i.invariant.1 c.loop-i-test.false)
