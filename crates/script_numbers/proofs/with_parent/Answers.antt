-- `with_parent` prints the number and, of an accepted schedule, the parent.
use mathlib.Core.Path.{◌≡◌, sym}
use mathlib.Core.List.{◌∷◌, ◌++◌, append-nil}
use Prim.Native.Nat.{ℕ}
use native.Mathlib.Omega.{arith}
use borrow.Author.Tests.{eq-eqb, ne_eqb}
use Rattle.decimal.specs.Decimal.{digits}
use Rattle.script_notation.specs.Fields.{space}
use Rattle.script_notation.proofs.Putting.{put_as, put_then}
use Rattle.script_numbers.specs.Numbers.{parent_text}
use Rattle.script_numbers.proofs.with_parent.Goals as goal

refused_text : (n p : ℕ) → (n ≡ 0 → ⊥) → digits n ≡ parent_text n p
refused_text n p e = rw (ne_eqb n 0 e) (sym (append-nil (digits n)))

accepted_text_lem : (n p : ℕ) → n ≡ 0 → digits n ++ (space ∷ digits p) ≡ parent_text n p
accepted_text_lem n p e = rw (eq-eqb n 0 e)

pub returns-then-n-ne0 : goal.returns-then-n-ne0
returns-then-n-ne0 c = let A = c.args in put_as (omega arith) (refused_text A.n A.parent c.if-n-ne0.true) c.number-end.ensures

pub returns : goal.returns
returns c =
    let A = c.args in
    let first = c.number-end.ensures in
    put_as (omega arith) (accepted_text_lem A.n A.parent c.if-n-ne0.false) (put_then (omega arith) first c.behind_byte.ensures)
