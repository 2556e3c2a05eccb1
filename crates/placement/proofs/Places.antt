-- The order of sites by lines: each step takes the first site that is next, every parent stands before its child, and where each site is placed a line rises.
use mathlib.Core.Path.{◌≡◌, refl, sym, ap, ◌∙◌}
use mathlib.Core.Bool.{Bool, true, false, not, cond, ◌&&◌, ◌||◌, false≢true, true≢false}
use mathlib.Core.List.{List, [], ◌∷◌, map}
use Prim.Native.Nat.{ℕ, zero, suc, ◌+◌, ◌≤◌, ◌<◌}
use native.Mathlib.Omega.{arith}
use lib.ListN.{length, get_or, length-map, get_or-eq_default}
use lib.Dec.{eqb, ltb}
use borrow.Author.Tests.{eqb-true, eqb-false, eq-eqb, ltb-true, lt-ltb}
use Rattle.limits.specs.Limits.{sites_most}
use Rattle.lists.specs.Lists.{before_first, up_to}
use Rattle.lists.specs.Numbers.{number_if}
use Rattle.lists.proofs.Every.{and_true}
use Rattle.lists.proofs.Some.{some_at, none_below}
use Rattle.lists.proofs.Numbers.{none_first, none_holds, flip_true, flip_false}
use Rattle.placement.specs.Placement.{Item, items_number, is_line}
use Rattle.placement.specs.Places.{is_placed, waits, is_next, first_from, order_from, site_order, place_in, places_of, place_of, cyclic, placement_number, LinesRise}
use Rattle.placement.proofs.Laws.{line_sites}

-- ---- the first of n numbers that passes a test
module _ (p : ℕ → Bool) where
  pub first_passes : (c n : ℕ) → first_from p c n < c + n → p (first_from p c n) ≡ true
  first_passes c zero h = absurd (omega arith)
  first_passes c (suc n) h = go (p c) refl h (first_passes (suc c) n)
    where
      go : (b : Bool) → p c ≡ b → cond b c (first_from p (suc c) n) < c + suc n → (first_from p (suc c) n < suc c + n → p (first_from p (suc c) n) ≡ true) → p (cond b c (first_from p (suc c) n)) ≡ true
      go true e f rest = e
      go false e f rest = rest (omega arith)

  -- none before it does
  pub first_lower : (c n k : ℕ) → c ≤ k → k < first_from p c n → p k ≡ false
  first_lower c zero k a h = absurd (omega arith)
  first_lower c (suc n) k a h = go (p c) refl h (eqb c k) refl (first_lower (suc c) n k)
    where
      go : (t : Bool) → p c ≡ t → k < cond t c (first_from p (suc c) n) → (s : Bool) → eqb c k ≡ s → (suc c ≤ k → k < first_from p (suc c) n → p k ≡ false) → p k ≡ false
      go true e f s g rest = absurd (omega arith)
      go false e f true g rest = ap p (sym (eqb-true c k g)) ∙ e
      go false e f false g rest = let other = eqb-false c k g in rest (omega arith) f

  -- one that does, and none before it, is the first
  pub first_is : (c n k : ℕ) → c ≤ k → k < c + n → p k ≡ true → ((j : ℕ) → c ≤ j → j < k → p j ≡ false) → first_from p c n ≡ k
  first_is c zero k a h t lower = absurd (omega arith)
  first_is c (suc n) k a h t lower = go (eqb c k) refl (first_is (suc c) n k)
    where
      go : (b : Bool) → eqb c k ≡ b → (suc c ≤ k → k < suc c + n → p k ≡ true → ((j : ℕ) → suc c ≤ j → j < k → p j ≡ false) → first_from p (suc c) n ≡ k) → cond (p c) c (first_from p (suc c) n) ≡ k
      go true e rest = let same : c ≡ k = eqb-true c k e in rw (ap p same ∙ t) same
      go false e rest =
          let other = eqb-false c k e in
          rw (lower c (omega arith) (omega arith)) (rest (omega arith) (omega arith) t (λ j l m. lower j (omega arith) m))

-- ---- where a number stands in a list: how many stand before it
abbrev pub stands_at : List ℕ → ℕ → ℕ
stands_at o k = length (before_first (λ d. eqb d k) o)

pub stands : (o : List ℕ) (k : ℕ) → is_placed o k ≡ true → (stands_at o k < length o) × (get_or o (stands_at o k) 0 ≡ k)
stands [] k e = absurd (false≢true e)
stands (x ∷ xs) k e = go (eqb x k) refl e (stands xs k)
  where
    go : (b : Bool) → eqb x k ≡ b → (b || is_placed xs k) ≡ true → (is_placed xs k ≡ true → (stands_at xs k < length xs) × (get_or xs (stands_at xs k) 0 ≡ k))
        → let at = length (cond b [] (x ∷ before_first (λ d. eqb d k) xs)) in (at < suc (length xs)) × (get_or (x ∷ xs) at 0 ≡ k)
    go true t f rest = (omega arith, eqb-true x k t)
    go false t f rest = let r = rest f in (omega (arith, r.0), r.1)

-- ---- numbers in turn, from a on
module _ (q : ℕ) where
  pub numbers_placed : (a k : ℕ) → a ≤ q → q < a + k → is_placed (up_to a k) q ≡ true
  numbers_placed a zero h l = absurd (omega arith)
  numbers_placed a (suc k) h l = go (eqb a q) refl (numbers_placed (suc a) k)
    where
      go : (b : Bool) → eqb a q ≡ b → (suc a ≤ q → q < suc a + k → is_placed (up_to (suc a) k) q ≡ true) → (b || is_placed (up_to (suc a) k) q) ≡ true
      go true e rest = refl
      go false e rest = let other = eqb-false a q e in rest (omega arith) (omega arith)

  pub numbers_within : (a k : ℕ) → is_placed (up_to a k) q ≡ true → (a ≤ q) × (q < a + k)
  numbers_within a zero e = absurd (false≢true e)
  numbers_within a (suc k) e = go (eqb a q) refl e (numbers_within (suc a) k)
    where
      go : (b : Bool) → eqb a q ≡ b → (b || is_placed (up_to (suc a) k) q) ≡ true → (is_placed (up_to (suc a) k) q ≡ true → (suc a ≤ q) × (q < suc a + k)) → (a ≤ q) × (q < a + suc k)
      go true f h rest = (omega (arith, eqb-true a q f), omega (arith, eqb-true a q f))
      go false f h rest = let r = rest h in (omega (arith, r.0), omega (arith, r.1))

pub place_stands : (o : List ℕ) (k : ℕ) → is_placed o k ≡ true → place_in o k ≡ stands_at o k
place_stands o k e = rw e

-- ---- each step of an order takes the first site that is next
module _ (n : ℕ) (line : ℕ → ℕ → Bool) where
  pub next_parts : (placed : List ℕ) (c : ℕ) → is_next n line placed c ≡ true → (is_placed placed c ≡ false) × (waits n line placed c ≡ false)
  next_parts placed c e =
      let q = and_true (not (is_placed placed c)) (not (waits n line placed c)) e in
      (flip_true _ (is_placed placed c) refl q.0, flip_true _ (waits n line placed c) refl q.1)

  abbrev pub next_of : List ℕ → ℕ
  next_of placed = first_from (is_next n line placed) 0 n

  abbrev pub Steps : List ℕ → List ℕ → Type 0
  Steps placed [] = Unit {0}
  Steps placed (c ∷ cs) = (c < n) × (is_next n line placed c ≡ true) × ((j : ℕ) → j < c → is_next n line placed j ≡ false) × Steps (c ∷ placed) cs

  pub order_steps : (placed : List ℕ) (k : ℕ) → Steps placed (order_from n line placed k)
  unfolding order_from
  order_steps placed zero = tt
  order_steps placed (suc k) = go (ltb (next_of placed) n) refl (order_steps (next_of placed ∷ placed) k)
    where
      go : (b : Bool) → ltb (next_of placed) n ≡ b → Steps (next_of placed ∷ placed) (order_from n line (next_of placed ∷ placed) k) → Steps placed (cond b (next_of placed ∷ order_from n line (next_of placed ∷ placed) k) [])
      go true e rest =
          let near : next_of placed < n = ltb-true (next_of placed) n e in
          (near, first_passes (is_next n line placed) 0 n (omega arith), (λ j l. first_lower (is_next n line placed) 0 n j (omega arith) l), rest)
      go false e rest = tt

  -- nothing else goes by such steps
  pub steps_order : (placed cs : List ℕ) → Steps placed cs → order_from n line placed (length cs) ≡ cs
  unfolding order_from
  steps_order placed [] s = refl
  steps_order placed (c ∷ cs) s =
      let first : next_of placed ≡ c = first_is (is_next n line placed) 0 n c (omega arith) (omega (arith, s.0)) s.1 (λ j l m. s.2 j m) in
      rw (first, lt-ltb c n s.0) (ap {B = List ℕ} (λ r. c ∷ r) (steps_order (c ∷ placed) cs s.3))

  pub order_length : (placed : List ℕ) (k : ℕ) → length (order_from n line placed k) ≤ k
  unfolding order_from
  order_length placed zero = omega arith
  order_length placed (suc k) = go (ltb (next_of placed) n) (order_length (next_of placed ∷ placed) k)
    where
      go : (b : Bool) → length (order_from n line (next_of placed ∷ placed) k) ≤ k → length (cond b (next_of placed ∷ order_from n line (next_of placed ∷ placed) k) []) ≤ suc k
      go true h = omega arith
      go false h = omega arith

  -- ---- a parent that is not placed before stands earlier in the list
  module _ (p c : ℕ) (parent : p < n) (goes : line p c ≡ true) where
    pub parent_placed : (placed : List ℕ) → waits n line placed c ≡ false → is_placed placed p ≡ true
    parent_placed placed e =
        flip_false _ (is_placed placed p) refl
        (ap (λ (b : Bool). b && not (is_placed placed p)) (sym goes) ∙ none_below (λ q. line q c && not (is_placed placed q)) n p e parent)

    pub parent_first : (placed cs : List ℕ) → Steps placed cs → is_placed placed p ≡ false → is_placed cs c ≡ true → (is_placed cs p ≡ true) × (stands_at cs p < stands_at cs c)
    parent_first placed [] s out e = absurd (false≢true e)
    parent_first placed (d ∷ ds) s out e = go (eqb d c) refl (eqb d p) refl e (parent_first (d ∷ placed) ds s.3)
      where
        go : (a : Bool) → eqb d c ≡ a → (b : Bool) → eqb d p ≡ b → (a || is_placed ds c) ≡ true → (is_placed (d ∷ placed) p ≡ false → is_placed ds c ≡ true → (is_placed ds p ≡ true) × (stands_at ds p < stands_at ds c))
            → ((b || is_placed ds p) ≡ true) × (length (cond b [] (d ∷ before_first (λ k. eqb k p) ds)) < length (cond a [] (d ∷ before_first (λ k. eqb k c) ds)))
        go true f b g h rest =
            let ready : waits n line placed c ≡ false = ap (waits n line placed) (sym (eqb-true d c f)) ∙ (next_parts placed d s.1).1 in
            absurd (false≢true (sym out ∙ parent_placed placed ready))
        go false f true g h rest = (refl, omega arith)
        go false f false g h rest = let r = rest (rw g out) h in (r.0, omega (arith, r.1))

-- ---- the table of places
pub numbers_length : (k n : ℕ) → length (up_to k n) ≡ n
numbers_length k zero = refl
numbers_length k (suc n) = ap suc (numbers_length (suc k) n)

pub table_at : {A : Type 0} (f : ℕ → A) (k n i : ℕ) (d : A) → i < n → get_or (map f (up_to k n)) i d ≡ f (k + i)
table_at f k zero i d h = absurd (omega arith)
table_at f k (suc n) zero d h = let first : k ≡ k + 0 = omega arith in ap f first
table_at f k (suc n) (suc i) d h = let next : suc k + i ≡ k + suc i = omega arith in table_at f (suc k) n i d (omega arith) ∙ ap f next

module _ (xs : List Item) where
  abbrev pub eight : List ℕ
  eight = site_order sites_most (is_line xs)

  pub places_length : length (places_of xs) ≡ sites_most
  unfolding places_of
  places_length = length-map (up_to 0 sites_most) (place_in eight) ∙ numbers_length 0 sites_most

  pub entry_at : (k d : ℕ) → k < sites_most → get_or (places_of xs) k d ≡ place_in eight k
  unfolding places_of
  entry_at k d h = let number : 0 + k ≡ k = omega arith in table_at (place_in eight) 0 sites_most k d h ∙ ap (place_in eight) number

  pub place_at_lem : (k : ℕ) → k < sites_most → place_of xs k ≡ place_in eight k
  unfolding place_of
  place_at_lem k h = entry_at k k h

  pub place_past : (k : ℕ) → sites_most ≤ k → place_of xs k ≡ k
  unfolding place_of
  place_past k h = get_or-eq_default (places_of xs) k {n = k} (omega (arith, places_length))

  -- ---- where no site is left over
  module _ (fine : cyclic xs ≡ false) where
    pub all_placed : (k : ℕ) → k < sites_most → is_placed eight k ≡ true
    unfolding cyclic place_of
    all_placed k h = go (is_placed eight k) refl
      where
        go : (b : Bool) → is_placed eight k ≡ b → is_placed eight k ≡ true
        go true e = e
        go false e =
            let out : place_of xs k ≡ sites_most = place_at_lem k h ∙ rw e in
            absurd (true≢false (sym (some_at (λ q. eqb q sites_most) (places_of xs) k k (omega (arith, places_length)) (eq-eqb (place_of xs k) sites_most out)) ∙ fine))

    pub place_is : (k : ℕ) → k < sites_most → place_of xs k ≡ stands_at eight k
    place_is k h = place_at_lem k h ∙ place_stands eight k (all_placed k h)

    pub place_small : (k : ℕ) → k < sites_most → place_of xs k < sites_most
    place_small k h = omega (arith, place_is k h, (stands eight k (all_placed k h)).0, order_length sites_most (is_line xs) [] sites_most)

    pub line_rises : (p c : ℕ) → p < sites_most → c < sites_most → is_line xs p c ≡ true → place_of xs p < place_of xs c
    line_rises p c h l goes =
        let r = parent_first sites_most (is_line xs) p c h goes [] eight (order_steps sites_most (is_line xs) [] sites_most) refl (all_placed c l) in
        omega (arith, place_is p h, place_is c l, r.1)

-- ---- of a placement that set-up does not refuse
pub placement_parts : (sites : ℕ) (xs : List Item) → placement_number sites xs ≡ 0 → (items_number sites xs ≡ 0) × (cyclic xs ≡ false)
unfolding placement_number
placement_parts sites xs e =
    let r = none_first (items_number sites xs) (number_if (cyclic xs) 5 ∷ []) e in
    (r.0, (none_holds (cyclic xs) 4 [] r.1).0)

pub place_below : (sites : ℕ) (xs : List Item) → sites ≤ sites_most → placement_number sites xs ≡ 0 → (k : ℕ) → k < sites_most → place_of xs k < sites_most
place_below sites xs h e k l = place_small xs (placement_parts sites xs e).1 k l

pub lines_rise : LinesRise
lines_rise sites xs p c h e goes =
    let q = placement_parts sites xs e in
    let ends = line_sites sites xs p c q.0 goes in
    line_rises xs q.1 p c (omega arith) (omega arith) goes
