-- `operation` prints a space, the letter with the item, and the value behind an equals sign.
use mathlib.Core.Path.{◌≡◌, ap, ◌∙◌}
use mathlib.Core.List.{◌∷◌, ◌++◌}
use Prim.Native.Nat.{ℕ}
use native.Mathlib.Omega.{arith}
use lib.ListN.{length, set, length-set}
use lib.IntN.{ℤ}
use mir.Syntax.{w32}
use mir.ValLaws.{to_z-of_z}
use Rattle.decimal.specs.Decimal.{digits, signed_digits}
use Rattle.script_notation.proofs.Putting.{put_byte, put_then, put_as, put_end}
use Rattle.script_printing.proofs.operation.Goals as goal

pub behind_byte-end-requires : goal.behind_byte-end-requires
behind_byte-end-requires c = let A = c.args in omega (arith, c.requires, length-set A.out.now A.at 32)

pub value-requires : goal.value-requires
value-requires c = let A = c.args in omega (arith, c.requires, length-set A.out.now A.at 32, put_end c.behind_byte-end.ensures, c.behind_byte-end.auto.out)

pub shape_of-out : goal.shape_of-out
shape_of-out c = let A = c.args in c.value.auto.out ∙ c.behind_byte-end.auto.out ∙ length-set A.out.now A.at 32

pub returns : goal.returns
returns c =
    let A = c.args in
    let size : length (set A.out.now A.at 32) ≡ length A.out.now = length-set A.out.now A.at 32 in
    let printed = put_as {n = 12} (omega arith) (ap (λ (z : ℤ). 61 ∷ signed_digits z) (to_z-of_z w32 A.v c.ranges.v)) c.value.ensures in
    put_as (omega arith) (ap (λ (b : ℕ). 32 ∷ (b ∷ (digits A.item ++ (61 ∷ signed_digits A.v)))) c.letter.ensures) (put_then (omega arith) (put_byte A.out.now A.at 32 (omega arith)) (put_then (omega arith) c.behind_byte-end.ensures printed))
