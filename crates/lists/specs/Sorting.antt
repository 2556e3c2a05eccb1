-- A stable sort, by a test of whether the first of two may stand before the second.
use Rattle.std.specs.Prelude.{Bool, cond, List, [], ◌∷◌, ℕ, length}
use Rattle.lists.specs.Lists.{before_first}

-- an element put before the first that it may stand before
abbrev pub insert : {A : Type 0} → (A → A → Bool) → A → List A → List A
insert before x [] = x ∷ []
insert before x (y ∷ ys) = cond (before x y) (x ∷ (y ∷ ys)) (y ∷ insert before x ys)

-- the place at which it is put
abbrev pub place_in : {A : Type 0} → (A → A → Bool) → A → List A → ℕ
place_in before x ys = length (before_first (before x) ys)

abbrev pub sorted : {A : Type 0} → (A → A → Bool) → List A → List A
sorted before [] = []
sorted before (x ∷ xs) = insert before x (sorted before xs)

-- of two the one that may stand before the other
abbrev pub former : {A : Type 0} → (A → A → Bool) → A → A → A
former before x y = cond (before x y) x y
