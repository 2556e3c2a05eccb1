-- What holds of each element of a list, and of each with those after it; by places, of those that pass a test, and of numbers in turn too.
use mathlib.Core.Path.{◌≡◌, refl, sym, ap, ap₂, ◌∙◌}
use mathlib.Core.Bool.{Bool, true, false, not, cond, ◌||◌, false≢true}
use mathlib.Core.List.{List, [], ◌∷◌, ◌++◌, map}
use Prim.Native.Nat.{ℕ, zero, suc, ◌+◌, ◌≤◌, ◌<◌}
use native.Mathlib.Omega.{arith}
use lib.ListN.{length, get_or}
use Rattle.lists.specs.Lists.{any, keep, up_to}

-- ---- what holds of each element, and of each with those after it
abbrev pub Each : {A : Type 0} → (A → Type 0) → List A → Type 0
Each P [] = Unit {0}
Each P (x ∷ xs) = P x × Each P xs

abbrev pub Chain : {A : Type 0} → (A → A → Type 0) → List A → Type 0
Chain R [] = Unit {0}
Chain R (x ∷ xs) = Each (R x) xs × Chain R xs

module _ {A : Type 0} where
  pub each_all : (P : A → Type 0) → ((x : A) → P x) → (xs : List A) → Each P xs
  each_all P f [] = tt
  each_all P f (x ∷ xs) = (f x, each_all P f xs)

  pub chain_all : (R : A → A → Type 0) → ((x y : A) → R x y) → (xs : List A) → Chain R xs
  chain_all R f [] = tt
  chain_all R f (x ∷ xs) = (each_all (R x) (f x) xs, chain_all R f xs)

  pub each_implied : (P Q : A → Type 0) → ((x : A) → P x → Q x) → (xs : List A) → Each P xs → Each Q xs
  each_implied P Q f [] h = tt
  each_implied P Q f (x ∷ xs) h = (f x h.0, each_implied P Q f xs h.1)

  pub chain_implied : (R S : A → A → Type 0) → ((x y : A) → R x y → S x y) → (xs : List A) → Chain R xs → Chain S xs
  chain_implied R S f [] h = tt
  chain_implied R S f (x ∷ xs) h = (each_implied (R x) (S x) (f x) xs h.0, chain_implied R S f xs h.1)

  -- ---- by their places
  pub each_at : (P : A → Type 0) (xs : List A) (d : A) → Each P xs → (a : ℕ) → a < length xs → P (get_or xs a d)
  each_at P [] d h a l = absurd (omega arith)
  each_at P (x ∷ xs) d h zero l = h.0
  each_at P (x ∷ xs) d h (suc a) l = each_at P xs d h.1 a (omega arith)

  pub each_by : (P : A → Type 0) (xs : List A) (d : A) → ((a : ℕ) → a < length xs → P (get_or xs a d)) → Each P xs
  each_by P [] d f = tt
  each_by P (x ∷ xs) d f = (f 0 (omega arith), each_by P xs d (λ a l. f (suc a) (omega arith)))

  pub chain_at : (R : A → A → Type 0) (xs : List A) (d : A) → Chain R xs → (a b : ℕ) → a < b → b < length xs → R (get_or xs a d) (get_or xs b d)
  chain_at R [] d h a b l m = absurd (omega arith)
  chain_at R (x ∷ xs) d h zero zero l m = absurd (omega arith)
  chain_at R (x ∷ xs) d h zero (suc b) l m = each_at (R x) xs d h.0 b (omega arith)
  chain_at R (x ∷ xs) d h (suc a) zero l m = absurd (omega arith)
  chain_at R (x ∷ xs) d h (suc a) (suc b) l m = chain_at R xs d h.1 a b (omega arith) (omega arith)

  pub chain_by : (R : A → A → Type 0) (xs : List A) (d : A) → ((a b : ℕ) → a < b → b < length xs → R (get_or xs a d) (get_or xs b d)) → Chain R xs
  chain_by R [] d f = tt
  chain_by R (x ∷ xs) d f = (each_by (R x) xs d (λ a l. f 0 (suc a) (omega arith) (omega arith)), chain_by R xs d (λ a b l m. f (suc a) (suc b) (omega arith) (omega arith)))

  -- ---- of those that pass a test
  module _ (p : A → Bool) where
    pub each_keep : (P : A → Type 0) (xs : List A) → Each (λ x. p x ≡ true → P x) xs → Each P (keep p xs)
    each_keep P [] h = tt
    each_keep P (x ∷ xs) h = go (p x) refl (each_keep P xs h.1)
      where
        go : (b : Bool) → p x ≡ b → Each P (keep p xs) → Each P (cond b (x ∷ keep p xs) (keep p xs))
        go true e r = (h.0 e, r)
        go false e r = r

    pub chain_keep : (R : A → A → Type 0) (xs : List A) → Chain (λ x y. p x ≡ true → p y ≡ true → R x y) xs → Chain R (keep p xs)
    chain_keep R [] h = tt
    chain_keep R (x ∷ xs) h = go (p x) refl (chain_keep R xs h.1)
      where
        go : (b : Bool) → p x ≡ b → Chain R (keep p xs) → Chain R (cond b (x ∷ keep p xs) (keep p xs))
        go true e r = (each_keep (R x) xs (each_implied (λ y. p x ≡ true → p y ≡ true → R x y) (λ y. p y ≡ true → R x y) (λ y f. f e) xs h.0), r)
        go false e r = r

    pub keep_none : (xs : List A) → Each (λ x. p x ≡ false) xs → keep p xs ≡ []
    keep_none [] h = refl
    keep_none (x ∷ xs) h = rw h.0 (keep_none xs h.1)

    pub keep_all : (xs : List A) → Each (λ x. p x ≡ true) xs → keep p xs ≡ xs
    keep_all [] h = refl
    keep_all (x ∷ xs) h = rw h.0 (ap {B = List A} (λ ys. x ∷ ys) (keep_all xs h.1))

    pub keep_turn : (q : A → Bool) (xs : List A) → keep p (keep q xs) ≡ keep q (keep p xs)
    keep_turn q [] = refl
    keep_turn q (x ∷ xs) = go (p x) refl (q x) refl (keep_turn q xs)
      where
        go : (b : Bool) → p x ≡ b → (c : Bool) → q x ≡ c → keep p (keep q xs) ≡ keep q (keep p xs) → keep p (keep q (x ∷ xs)) ≡ keep q (keep p (x ∷ xs))
        go true e true f r = simp (e, f, r)
        go true e false f r = simp (e, f, r)
        go false e true f r = simp (e, f, r)
        go false e false f r = simp (e, f, r)

-- ---- of the numbers from k on
pub each_up_to : (P : ℕ → Type 0) (k m : ℕ) → ((x : ℕ) → k ≤ x → x < k + m → P x) → Each P (up_to k m)
each_up_to P k zero f = tt
each_up_to P k (suc m) f = (f k (omega arith) (omega arith), each_up_to P (suc k) m (λ x l h. f x (omega arith) (omega arith)))

pub numbers_rise : (k m : ℕ) → Chain (λ x y. x < y) (up_to k m)
numbers_rise k zero = tt
numbers_rise k (suc m) = (each_up_to (λ y. k < y) (suc k) m (λ y l h. l), numbers_rise (suc k) m)

pub map_keep : {A B : Type 0} (f : A → B) (p : B → Bool) (xs : List A) → map f (keep (λ x. p (f x)) xs) ≡ keep p (map f xs)
map_keep f p [] = refl
map_keep {B = B} f p (x ∷ xs) = go (p (f x)) (map_keep f p xs)
  where
    go : (b : Bool) → map f (keep (λ y. p (f y)) xs) ≡ keep p (map f xs)
        → map f (cond b (x ∷ keep (λ y. p (f y)) xs) (keep (λ y. p (f y)) xs)) ≡ cond b (f x ∷ keep p (map f xs)) (keep p (map f xs))
    go true r = ap {B = List B} (λ l. f x ∷ l) r
    go false r = r

-- those that pass a test, of two lists one behind the other
cond_more : {A : Type 0} (b : Bool) (x : A) (xs ys : List A) → cond b (x ∷ (xs ++ ys)) (xs ++ ys) ≡ cond b (x ∷ xs) xs ++ ys
cond_more true x xs ys = refl
cond_more false x xs ys = refl

pub keep_more : {A : Type 0} (p : A → Bool) (xs ys : List A) → keep p (xs ++ ys) ≡ keep p xs ++ keep p ys
keep_more p [] ys = refl
keep_more {A = A} p (x ∷ xs) ys = ap (λ (zs : List A). cond (p x) (x ∷ zs) zs) (keep_more p xs ys) ∙ cond_more (p x) x (keep p xs) (keep p ys)

-- where none that fails stands before one that passes, first those that pass, then the others
pub chain_split : {A : Type 0} (p : A → Bool) (xs : List A) → Chain (λ x y. p y ≡ true → p x ≡ true) xs → xs ≡ keep p xs ++ keep (λ x. not (p x)) xs
chain_split p [] h = refl
chain_split {A = A} p (x ∷ xs) h = go (p x) refl (chain_split p xs h.1)
  where
    fails : p x ≡ false → (y : A) → (p y ≡ true → p x ≡ true) → (b : Bool) → p y ≡ b → p y ≡ false
    fails e y f true q = absurd (false≢true (sym e ∙ f q))
    fails e y f false q = q

    go : (b : Bool) → p x ≡ b → xs ≡ keep p xs ++ keep (λ y. not (p y)) xs → x ∷ xs ≡ cond b (x ∷ keep p xs) (keep p xs) ++ cond (not b) (x ∷ keep (λ y. not (p y)) xs) (keep (λ y. not (p y)) xs)
    go true e r = ap {B = List A} (λ l. x ∷ l) r
    go false e r =
        let none : keep p xs ≡ [] = keep_none p xs (each_implied (λ y. p y ≡ true → p x ≡ true) (λ y. p y ≡ false) (λ y f. fails e y f (p y) refl) xs h.0) in
        rw none (ap {B = List A} (λ l. x ∷ l) (rw none at r))

-- two functions that agree on the elements
pub map_same : {A B : Type 0} (f g : A → B) (xs : List A) → Each (λ x. f x ≡ g x) xs → map f xs ≡ map g xs
map_same f g [] h = refl
map_same {B = B} f g (x ∷ xs) h = ap₂ {C = List B} (λ y ys. y ∷ ys) h.0 (map_same f g xs h.1)

-- two tests that do
pub any_same : {A : Type 0} (p q : A → Bool) (xs : List A) → Each (λ x. p x ≡ q x) xs → any p xs ≡ any q xs
any_same p q [] h = refl
any_same p q (x ∷ xs) h = ap₂ (λ (a b : Bool). a || b) h.0 (any_same p q xs h.1)

-- none passes a test
pub none_each : {A : Type 0} (p : A → Bool) (xs : List A) → Each (λ x. p x ≡ false) xs → any p xs ≡ false
none_each p [] h = refl
none_each p (x ∷ xs) h = rw h.0 (none_each p xs h.1)

-- none of what a function gives does
pub map_none : {A B : Type 0} (f : A → B) (p : B → Bool) (xs : List A) → Each (λ x. p (f x) ≡ false) xs → any p (map f xs) ≡ false
map_none f p [] h = refl
map_none f p (x ∷ xs) h = rw h.0 (map_none f p xs h.1)
