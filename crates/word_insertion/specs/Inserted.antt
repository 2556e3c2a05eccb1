-- A list with an element put in at a place.
use Rattle.std.specs.Prelude.{List, ◌∷◌, ◌++◌, ℕ, length, take, drop}

-- those from the place on stand one further, and the last falls out
abbrev pub inserted : List ℕ → ℕ → ℕ → List ℕ
inserted w at v = take (length w) (take at w ++ (v ∷ drop at w))
