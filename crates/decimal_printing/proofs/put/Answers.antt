-- `put` spells a number where there is room.
use mathlib.Core.Path.{sym, ◌∙◌}
use Prim.Native.Nat.{◌+◌}
use native.Mathlib.Omega.{arith}
use lib.ListN.{length}
use borrow.Author.Tests.{leb-true}
use Rattle.decimal.specs.Decimal.{digits}
use Rattle.decimal.proofs.Digits.{digits_short}
use Rattle.decimal.proofs.Printing.{printed_short, printed_in}
use Rattle.decimal_printing.proofs.put.Goals as goal

pub returns-then-not-has_room : goal.returns-then-not-has_room
returns-then-not-has_room c = let A = c.args in printed_short 10 A.out.now A.at (digits A.n) (sym c.has_room.ensures ∙ c.if-not-has_room.true)

pub spell-requires : goal.spell-requires
spell-requires c = let A = c.args in omega (arith, digits_short A.n c.ranges.n.fits, leb-true (A.at + 10) (length A.out.now) (sym c.has_room.ensures ∙ c.if-not-has_room.false))

pub returns : goal.returns
returns c = let A = c.args in printed_in 10 A.out.now A.at (digits A.n) (sym c.has_room.ensures ∙ c.if-not-has_room.false) c.spell.new.out c.spell.result c.spell.ensures
