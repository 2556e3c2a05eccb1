-- The numbers of a schedule's answer.
use Rattle.std.specs.Prelude.{cond, List, [], ◌∷◌, ◌++◌, ℕ, eqb}
use Rattle.decimal.specs.Decimal.{digits}
use Rattle.script_notation.specs.Fields.{space}

-- a schedule's number and, of one that is accepted, the parent behind a space
abbrev pub parent_text : ℕ → ℕ → List ℕ
parent_text number parent = digits number ++ cond (eqb number 0) (space ∷ digits parent) []
