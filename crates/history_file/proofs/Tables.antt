-- Tables of places: the numbers, tables that hold each place once, and the table of a placement.
use mathlib.Core.Path.{◌≡◌, refl, sym, ap, ap₂, ◌∙◌}
use mathlib.Core.Bool.{Bool, true, false, cond}
use mathlib.Core.List.{List, [], ◌∷◌, map}
use Prim.Native.Nat.{ℕ, zero, suc, ◌+◌, ◌≤◌, ◌<◌}
use native.Mathlib.Omega.{arith}
use lib.ListN.{length, get_or, take, drop, length-map, length-take}
use lib.Seq.{get_or-take, length-take-le}
use lib.Dec.{eqb, ltb}
use borrow.Author.Tests.{eq-eqb, eqb-true, ltb-true, ltb-false}
use Rattle.words.specs.Words.{part}
use Rattle.limits.specs.Limits.{sites_most}
use Rattle.lists.specs.Lists.{up_to, occurrences}
use Rattle.lists.proofs.Every.{and_true, every_at, every_all}
use Rattle.lists.proofs.Some.{some_at}
use Rattle.lists.proofs.Chains.{Each, each_by}
use Rattle.timestamp_order.specs.Order.{rank, by_number}
use Rattle.place_table.proofs.Ranks.{rank_inside, rank_past}
use Rattle.placement.specs.Placement.{Item}
use Rattle.placement.specs.Places.{is_placed, places_of, place_of, InGroup}
use Rattle.placement.proofs.Places.{numbers_length, table_at, places_length, stands_at, stands as first-at}
use Rattle.placement.proofs.Cycles.{Twice, twice}
use Rattle.history_file.specs.Bytes.{byte, same}
use Rattle.history_file.specs.File.{is_numbers}
use Rattle.history_file.specs.Reading.{sites_read, has_table, start_read, places_read, holds_each}
use Rattle.history_file.specs.Promises.{eight}

-- ---- the same list
pub same_lists : (xs ys : List ℕ) → same xs ys ≡ true → ys ≡ xs
same_lists [] [] e = refl
same_lists [] (y ∷ ys) e = absurd (let z : ◌≡◌ {A = ℕ} 0 1 = cc in omega arith)
same_lists (x ∷ xs) [] e = absurd (let z : ◌≡◌ {A = ℕ} 0 1 = cc in omega arith)
same_lists (x ∷ xs) (y ∷ ys) e =
    let q = and_true (eqb x y) (same xs ys) e in
    ap₂ {C = List ℕ} (λ a l. a ∷ l) (sym (eqb-true x y q.0)) (same_lists xs ys q.1)

same_self : (xs : List ℕ) → same xs xs ≡ true
same_self [] = refl
same_self (x ∷ xs) = rw (eq-eqb x x refl) (same_self xs)

-- ---- in a byte each
pub bytes_back : (ps : List ℕ) → Each (λ (q : ℕ). q < 256) ps → map byte ps ≡ ps
bytes_back [] a = refl
bytes_back (q ∷ ps) a = ap₂ {C = List ℕ} (λ x l. x ∷ l) (let low = a.0 in let z : byte q ≡ q = omega arith in z) (bytes_back ps a.1)

-- ---- the numbers
pub number_at : (k n i d : ℕ) → i < n → get_or (up_to k n) i d ≡ k + i
number_at k zero i d h = absurd (omega arith)
number_at k (suc n) zero d h = omega arith
number_at k (suc n) (suc i) d h = number_at (suc k) n i d (omega arith) ∙ (let next : suc k + i ≡ k + suc i = omega arith in next)

pub numbers_are : (ps : List ℕ) → is_numbers ps ≡ true → up_to 0 (length ps) ≡ ps
numbers_are ps e = same_lists ps (up_to 0 (length ps)) e

pub numbers_same : (n : ℕ) → is_numbers (up_to 0 n) ≡ true
numbers_same n = ap (λ (k : ℕ). same (up_to 0 n) (up_to 0 k)) (numbers_length 0 n) ∙ same_self (up_to 0 n)

pub numbers_take : (n k m : ℕ) → n ≤ m → take n (up_to k m) ≡ up_to k n
numbers_take zero k m h = refl
numbers_take (suc n) k zero h = absurd (omega arith)
numbers_take (suc n) k (suc m) h = ap (λ (l : List ℕ). k ∷ l) (numbers_take n (suc k) m (omega arith))

pub rank_numbers : (n : ℕ) → rank (up_to 0 n) ≡ by_number
rank_numbers n = λ i k. at k (ltb k n) refl i
  where
    at : (k : ℕ) (b : Bool) → ltb k n ≡ b → rank (up_to 0 n) k ≡ k
    at k true e = number_at 0 n k k (ltb-true k n e) ∙ (let z : 0 + k ≡ k = omega arith in z)
    at k false e = rank_past (up_to 0 n) k (omega (arith, numbers_length 0 n, ltb-false k n e))

-- ---- a table filled up to eight places
pub eight_ranks : (ps : List ℕ) → length ps ≤ sites_most → rank (eight ps) ≡ rank ps
eight_ranks ps h = λ i k. at k (ltb k sites_most) refl i
  where
    at : (k : ℕ) (b : Bool) → ltb k sites_most ≡ b → rank (eight ps) k ≡ rank ps k
    at k true e = table_at (rank ps) 0 sites_most k k (ltb-true k sites_most e) ∙ (let z : 0 + k ≡ k = omega arith in ap (rank ps) z)
    at k false e =
        let past : sites_most ≤ k = ltb-false k sites_most e in
        rank_past (eight ps) k (omega (arith, length-map (up_to 0 sites_most) (rank ps), numbers_length 0 sites_most)) ∙ sym (rank_past ps k (omega arith))

-- ---- the places of a file
pub read_few : (b : List ℕ) → length (places_read b) ≤ sites_read b
unfolding places_read
read_few b = go (has_table b)
  where
    go : (t : Bool) → length (cond t (part b (start_read b) (sites_read b)) (up_to 0 (sites_read b))) ≤ sites_read b
    go true = omega (arith, length-take (sites_read b) (drop (start_read b) b))
    go false = omega (arith, numbers_length 0 (sites_read b))

-- ---- n different numbers below n: each of them stands there once
module _ (q : ℕ) where
  stands : (ps : List ℕ) → 1 ≤ occurrences q ps → (i : ℕ) × (i < length ps) × (get_or ps i 0 ≡ q)
  stands [] some = absurd (omega arith)
  stands (x ∷ xs) some = go (eqb x q) refl some (stands xs)
    where
      go : (b : Bool) → eqb x q ≡ b → 1 ≤ cond b 1 0 + occurrences q xs → (1 ≤ occurrences q xs → (i : ℕ) × (i < length xs) × (get_or xs i 0 ≡ q))
          → (i : ℕ) × (i < length (x ∷ xs)) × (get_or (x ∷ xs) i 0 ≡ q)
      go true e some rest = (0, omega arith, eqb-true x q e)
      go false e some rest = let r = rest (omega arith) in (suc r.0, omega arith, r.2)

  stood : (ps : List ℕ) (i : ℕ) → i < length ps → get_or ps i 0 ≡ q → 1 ≤ occurrences q ps
  stood [] i h e = absurd (omega arith)
  stood (x ∷ xs) zero h e = rw (eq-eqb x q e) (omega arith)
  stood (x ∷ xs) (suc i) h e = omega (arith, stood xs i (omega arith) e)

abbrev Apart : List ℕ → Type 0
Apart ps = (j k : ℕ) → j < k → k < length ps → get_or ps j 0 ≡ get_or ps k 0 → ⊥

module _ (q : ℕ) where
  at_most_once : (ps : List ℕ) → Apart ps → occurrences q ps ≤ 1
  at_most_once [] apart = omega arith
  at_most_once (x ∷ xs) apart = go (eqb x q) refl (at_most_once xs (λ j k l h e. apart (suc j) (suc k) (omega arith) (omega arith) e))
    where
      none_behind : x ≡ q → 1 ≤ occurrences q xs → ⊥
      none_behind e some = let r = stands q xs some in apart 0 (suc r.0) (omega arith) (omega (arith, r.1)) (e ∙ sym r.2)

      go : (b : Bool) → eqb x q ≡ b → occurrences q xs ≤ 1 → cond b 1 0 + occurrences q xs ≤ 1
      go true e rest = absent (ltb 0 (occurrences q xs)) refl
        where
          absent : (c : Bool) → ltb 0 (occurrences q xs) ≡ c → 1 + occurrences q xs ≤ 1
          absent true f = absurd (none_behind (eqb-true x q e) (omega (arith, ltb-true 0 (occurrences q xs) f)))
          absent false f = omega (arith, ltb-false 0 (occurrences q xs) f)
      go false e rest = omega arith

  -- were it missing, it and the n numbers would be n + 1 below n
  at_least_once : (ps : List ℕ) (n : ℕ) → length ps ≡ n → q < n → ((k : ℕ) → k < n → get_or ps k 0 < n) → Apart ps → 1 ≤ occurrences q ps
  at_least_once ps n size low below apart = found t.first t.second t.rises t.inside t.same
    where
      all : ℕ → ℕ
      all i = get_or (q ∷ ps) i 0

      inside : (i : ℕ) → i ≤ n → all i < n
      inside zero h = low
      inside (suc i) h = below i (omega arith)

      t : Twice n all
      t = twice n all inside

      found : (i j : ℕ) → i < j → j ≤ n → all i ≡ all j → 1 ≤ occurrences q ps
      found i zero l h e = absurd (omega arith)
      found zero (suc j) l h e = stood q ps j (omega arith) (sym e)
      found (suc i) (suc j) l h e = absurd (apart i j (omega arith) (omega arith) e)

pub holds_each_lem : (ps : List ℕ) → ((k : ℕ) → k < length ps → get_or ps k 0 < length ps) → Apart ps → holds_each ps ≡ true
unfolding holds_each
holds_each_lem ps below apart =
    every_all (λ k. eqb (occurrences k ps) 1) (up_to 0 (length ps)) 0
    (λ k h.
    let q = get_or (up_to 0 (length ps)) k 0 in
    let low : q < length ps = omega (arith, number_at 0 (length ps) k 0 (omega (arith, numbers_length 0 (length ps))), numbers_length 0 (length ps)) in
    eq-eqb (occurrences q ps) 1 (omega (arith, at_most_once q ps apart, at_least_once q ps (length ps) refl low below apart)))

-- and where each of them stands there, no other number does: of entry k and one for each of them, n + 1 of n, two are the same
module _ (ps : List ℕ) (each : holds_each ps ≡ true) where
  abbrev n : ℕ
  n = length ps

  held : (q : ℕ) → q < n → is_placed ps q ≡ true
  unfolding holds_each
  held q low =
      let once = eqb-true (occurrences (get_or (up_to 0 n) q 0) ps) 1 (every_at (λ k. eqb (occurrences k ps) 1) (up_to 0 n) q 0 each (omega (arith, numbers_length 0 n))) in
      let number : get_or (up_to 0 n) q 0 ≡ q = number_at 0 n q 0 low ∙ (let z : 0 + q ≡ q = omega arith in z) in
      let s = stands q ps (omega (arith, once, ap (λ (k : ℕ). occurrences k ps) number)) in
      some_at (λ d. eqb d q) ps s.0 0 s.1 (eq-eqb (get_or ps s.0 0) q s.2)

  entry_low : (k : ℕ) → k < n → get_or ps k 0 < n
  entry_low k near = found t.first t.second t.rises t.inside t.same
    where
      at : ℕ → ℕ
      at zero = k
      at (suc q) = stands_at ps q

      inside : (i : ℕ) → i ≤ n → at i < n
      inside zero h = near
      inside (suc q) h = (first-at ps q (held q h)).0

      t : Twice n at
      t = twice n at inside

      found : (i j : ℕ) → i < j → j ≤ n → at i ≡ at j → get_or ps k 0 < n
      found i zero l h e = absurd (omega arith)
      found zero (suc q) l h e = omega (arith, ap (λ (i : ℕ). get_or ps i 0) e, (first-at ps q (held q h)).1)
      found (suc p) (suc q) l h e =
          absurd (omega (arith, ap (λ (i : ℕ). get_or ps i 0) e, (first-at ps p (held p (omega arith))).1, (first-at ps q (held q h)).1))

pub rank_low : (ps : List ℕ) (n : ℕ) → length ps ≤ n → holds_each ps ≡ true → (k : ℕ) → k < n → rank ps k < n
rank_low ps n few each k h = go (ltb k (length ps)) refl
  where
    go : (b : Bool) → ltb k (length ps) ≡ b → rank ps k < n
    go true e =
        let near = ltb-true k (length ps) e in
        omega (arith, rank_inside ps k near, entry_low ps each k near)
    go false e = omega (arith, rank_past ps k (ltb-false k (length ps) e))

-- ---- the table of a placement
module _ (sites : ℕ) (xs : List Item) (few : sites ≤ sites_most) (g : InGroup sites xs) where
  abbrev table : List ℕ
  table = take sites (places_of xs)

  pub table_length : length table ≡ sites
  table_length = length-take-le sites (places_of xs) (omega (arith, places_length xs))

  table_entry : (k : ℕ) → k < sites → get_or table k 0 ≡ place_of xs k
  unfolding place_of
  table_entry k h = get_or-take sites (places_of xs) k 0 h ∙ rank_inside (places_of xs) k (omega (arith, places_length xs))

  pub table_ranks : rank table ≡ place_of xs
  unfolding place_of
  table_ranks = λ i k. at k (ltb k sites) refl i
    where
      at : (k : ℕ) (b : Bool) → ltb k sites ≡ b → rank table k ≡ place_of xs k
      at k true e = get_or-take sites (places_of xs) k k (ltb-true k sites e)
      at k false e = let past : sites ≤ k = ltb-false k sites e in rank_past table k (omega (arith, table_length)) ∙ sym (g.missing k past)

  pub table_holds_each : holds_each table ≡ true
  table_holds_each =
      holds_each_lem table
      (λ k h. omega (arith, table_entry k (omega (arith, table_length)), g.inside k (omega (arith, table_length)), table_length))
      (λ j k l h e. omega (arith, g.apart j k (sym (table_entry j (omega (arith, table_length))) ∙ e ∙ table_entry k (omega (arith, table_length)))))

  pub table_low : Each (λ (q : ℕ). q < 256) table
  table_low =
      each_by (λ (q : ℕ). q < 256) table 0
      (λ k h. omega (arith, table_entry k (omega (arith, table_length)), g.inside k (omega (arith, table_length))))
