-- Refusals: the number of a cause that holds, and of several the first.
use Rattle.std.specs.Prelude.{Bool, cond, ◌||◌, List, [], ◌∷◌, ℕ, eqb, ltb}

-- a cause that holds has its number, any other 0; a step's number is the first of its causes that hold
abbrev pub number_if : Bool → ℕ → ℕ
number_if b k = cond b k 0

-- the first number that is not 0, or 0
abbrev pub first_number : List ℕ → ℕ
first_number [] = 0
first_number (n ∷ ns) = cond (eqb n 0) (first_number ns) n

-- k is not low to high
abbrev pub outside : ℕ → ℕ → ℕ → Bool
outside low high k = ltb k low || ltb high k
