-- `put_signed` prints a minus sign before the digits of a number below zero.
use mathlib.Core.Path.{sym, ap, ◌∙◌}
use Prim.Native.Nat.{◌+◌}
use native.Mathlib.Omega.{arith}
use lib.ListN.{length, length-set}
use borrow.Author.Tests.{leb-true}
use Rattle.decimal.specs.Decimal.{digits, signed_digits}
use Rattle.decimal.proofs.Digits.{digits_short}
use Rattle.decimal.proofs.Signs.{plus_magnitude, plus_digits}
use Rattle.decimal.proofs.Printing.{printed_short, printed_in, printed_as}
use Rattle.decimal_printing.proofs.put_signed.Goals as goal

pub returns-then-not-has_room : goal.returns-then-not-has_room
returns-then-not-has_room c = let A = c.args in printed_short 11 A.out.now A.at (signed_digits A.v) (sym c.has_room.ensures ∙ c.if-not-has_room.true)

pub spell-requires : goal.spell-requires
spell-requires c = let A = c.args in omega (arith, digits_short c.unsigned_abs-m.result (omega arith), leb-true (A.at + 11) (length A.out.now) (sym c.has_room.ensures ∙ c.if-not-has_room.false))

pub returns-then-v-ge0 : goal.returns-then-v-ge0
returns-then-v-ge0 c =
    let A = c.args in
    let room = sym c.has_room.ensures ∙ c.if-not-has_room.false in
    printed_in 11 A.out.now A.at (signed_digits A.v) room c.spell.new.out c.spell.result
    (printed_as (ap digits (c.unsigned_abs-m.ensures.value ∙ plus_magnitude A.v c.ranges.v) ∙ sym (plus_digits A.v c.ranges.v c.if-v-ge0.true)) c.spell.ensures)

pub bounds-out-at : goal.bounds-out-at
bounds-out-at c = let A = c.args in omega (arith, leb-true (A.at + 11) (length A.out.now) (sym c.has_room.ensures ∙ c.if-not-has_room.false))

pub overflow_add-at : goal.overflow_add-at
overflow_add-at c = let A = c.args in record { fits = omega (arith, c.well_formed.0.0, leb-true (A.at + 11) (length A.out.now) (sym c.has_room.ensures ∙ c.if-not-has_room.false)) }

pub spell-requires-2 : goal.spell-requires-2
spell-requires-2 c = let A = c.args in omega (arith, length-set A.out.now A.at 45, digits_short c.unsigned_abs-m.result (omega arith), leb-true (A.at + 11) (length A.out.now) (sym c.has_room.ensures ∙ c.if-not-has_room.false))
