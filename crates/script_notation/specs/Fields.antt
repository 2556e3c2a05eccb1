-- The fields of a line: what stands between its spaces.
use Rattle.std.specs.Prelude.{cond, List, [], ◌∷◌, ℕ, suc, length, drop, eqb, leb}

-- the byte between two fields
abbrev pub space : ℕ
space = 32

-- the position of the first byte b, or the length where there is none
unfoldable pub position : ℕ → List ℕ → ℕ
position b [] = 0
position b (x ∷ xs) = cond (eqb x b) 0 (suc (position b xs))

-- a byte more in front of the first field
abbrev pub in_front : ℕ → List (List ℕ) → List (List ℕ)
in_front x [] = (x ∷ []) ∷ []
in_front x (f ∷ fs) = (x ∷ f) ∷ fs

-- an empty field stands before, behind and between spaces that are not one between two fields; no field is read from it
unfoldable pub fields : List ℕ → List (List ℕ)
fields [] = [] ∷ []
fields (x ∷ xs) = cond (eqb x space) ([] ∷ fields xs) (in_front x (fields xs))

-- the fields of a line from a position on; none where the position is behind the line's end
abbrev pub fields_from : List ℕ → ℕ → List (List ℕ)
fields_from text from = cond (leb from (length text)) (fields (drop from text)) []
