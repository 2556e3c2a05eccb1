-- Tests over the elements of a list and their numbers, those that pass one, how often a number stands in it, a value changed by each; and places of which the first are used.
use Rattle.std.specs.Prelude.{◌≡◌, Bool, true, false, cond, ◌&&◌, ◌||◌, List, [], ◌∷◌, ◌++◌, ℕ, zero, suc, ◌+◌, ◌-◌, ◌≤◌, length, get_or, drop, replicate, eqb}
use Rattle.std.specs.List.{list_all, list_any}
use Rattle.std.proofs.Math.Option.{Option, none, some}

abbrev pub is_empty : {A : Type 0} → List A → Bool
is_empty [] = true
is_empty (x ∷ xs) = false

-- each element passes the test
abbrev pub every : {A : Type 0} → (A → Bool) → List A → Bool
every p xs = list_all p xs

-- each element passes the test of its number, counted from i on
abbrev pub every_from : {A : Type 0} → (ℕ → A → Bool) → ℕ → List A → Bool
every_from p i [] = true
every_from p i (x ∷ xs) = p i x && every_from p (suc i) xs

-- some element passes the test
abbrev pub any : {A : Type 0} → (A → Bool) → List A → Bool
any p xs = list_any p xs

-- some number below k passes the test
abbrev pub some_below : (ℕ → Bool) → ℕ → Bool
some_below f zero = false
some_below f (suc k) = f k || some_below f k

-- the elements that pass the test
abbrev pub keep : {A : Type 0} → (A → Bool) → List A → List A
keep p [] = []
keep p (x ∷ xs) = cond (p x) (x ∷ keep p xs) (keep p xs)

-- the elements whose numbers pass the test, counted from k on
abbrev pub keep_from : {A : Type 0} → (ℕ → Bool) → ℕ → List A → List A
keep_from p k [] = []
keep_from p k (x ∷ xs) = cond (p k) (x ∷ keep_from p (suc k) xs) (keep_from p (suc k) xs)

-- how many numbers below k pass the test
abbrev pub count_below : (ℕ → Bool) → ℕ → ℕ
count_below p zero = 0
count_below p (suc k) = count_below p k + cond (p k) 1 0

-- the elements before the first that passes the test
abbrev pub before_first : {A : Type 0} → (A → Bool) → List A → List A
before_first p [] = []
before_first p (x ∷ xs) = cond (p x) [] (x ∷ before_first p xs)

-- the first where there is one, else the second
abbrev pub or_else : {A : Type 0} → Option A → Option A → Option A
or_else none other = other
or_else (some x) other = some x

-- the last element that passes the test, where there is one
abbrev pub last_of : {A : Type 0} → (A → Bool) → List A → Option A
last_of p [] = none
last_of p (x ∷ xs) = or_else (last_of p xs) (cond (p x) (some x) none)

-- n numbers from k on
abbrev pub up_to : ℕ → ℕ → List ℕ
up_to k zero = []
up_to k (suc n) = k ∷ up_to (suc k) n

-- how often a number stands in a list
abbrev pub occurrences : ℕ → List ℕ → ℕ
occurrences k [] = 0
occurrences k (x ∷ xs) = cond (eqb x k) 1 0 + occurrences k xs

-- a value changed by one element after another
abbrev pub fold : {A B : Type 0} → (B → A → B) → B → List A → B
fold f b [] = b
fold f b (x ∷ xs) = fold f (f b x) xs

-- n elements from place i on, d past the end
abbrev pub spell : {A : Type 0} → A → ℕ → ℕ → List A → List A
spell d i zero l = []
spell d i (suc n) l = get_or l i d ∷ spell d (suc i) n l

-- some elements, and z in the places past them
abbrev pub padded : {A : Type 0} → ℕ → A → List A → List A
padded places z vs = vs ++ replicate (places - length vs) z

-- of so many places the first `count` are used, and the rest are z
pub record Filled {A : Type 0} (z : A) (places count : ℕ) (vs : List A) : Type 0 where
  pub fits : count ≤ places
  pub sized : length vs ≡ places
  pub rest_is : drop count vs ≡ replicate (places - count) z
