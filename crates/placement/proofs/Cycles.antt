-- A site cannot be placed exactly where the lines form a cycle.
use mathlib.Core.Path.{◌≡◌, refl, sym, ap, ◌∙◌}
use mathlib.Core.Bool.{Bool, true, false, not, cond, ◌&&◌, ◌||◌, false≢true, true≢false}
use mathlib.Core.List.{List, [], ◌∷◌}
use Prim.Native.Nat.{ℕ, zero, suc, ◌+◌, ◌-◌, ◌≤◌, ◌<◌}
use native.Mathlib.Omega.{arith}
use lib.ListN.{length, get_or}
use lib.Dec.{eqb, ltb}
use borrow.Author.Tests.{eqb-true, eqb-false, eq-eqb, ltb-true, ltb-false}
use Rattle.limits.specs.Limits.{sites_most}
use Rattle.lists.specs.Lists.{some_below}
use Rattle.lists.proofs.Every.{and_true}
use Rattle.lists.proofs.Some.{some_at, some_index, none_below}
use Rattle.lists.proofs.Numbers.{flip_true, flip_false}
use Rattle.placement.specs.Placement.{Item, items_number, is_line}
use Rattle.placement.specs.Places.{is_placed, waits, is_next, order_from, site_order, places_of, place_of, cyclic, Cycle, CyclicMeansCycle}
use Rattle.placement.proofs.Laws.{line_sites}
use Rattle.placement.proofs.Places.{first_passes, first_lower, stands, place_stands, next_of, next_parts, order_length, eight, places_length, entry_at, line_rises}

-- ---- of m + 1 numbers below m two are the same
pub record Twice (m : ℕ) (g : ℕ → ℕ) : Type 0 where
  pub first : ℕ
  pub second : ℕ
  pub rises : first < second
  pub inside : second ≤ m
  pub same : g first ≡ g second

-- some number below k passes a test: which one
pub some_below_index : (f : ℕ → Bool) (k : ℕ) → some_below f k ≡ true → (c : ℕ) × (c < k) × (f c ≡ true)
some_below_index f zero e = absurd (false≢true e)
some_below_index f (suc k) e = go (f k) refl e (some_below_index f k)
  where
    go : (b : Bool) → f k ≡ b → (b || some_below f k) ≡ true → (some_below f k ≡ true → (c : ℕ) × (c < k) × (f c ≡ true)) → (c : ℕ) × (c < suc k) × (f c ≡ true)
    go true q g rest = (k, omega arith, q)
    go false q g rest = let r = rest g in (r.0, omega arith, r.2)

-- numbers without v, those above it one less
abbrev less : ℕ → ℕ → ℕ
less v k = cond (ltb v k) (k - 1) k

less_small : (v k m : ℕ) → (k ≡ v → ⊥) → v ≤ m → k ≤ m → less v k < m
less_small v k m ne a b = go (ltb v k) refl
  where
    go : (t : Bool) → ltb v k ≡ t → cond t (k - 1) k < m
    go true e = omega (arith, ltb-true v k e)
    go false e = omega (arith, ltb-false v k e)

less_same : (v a b : ℕ) → (a ≡ v → ⊥) → (b ≡ v → ⊥) → less v a ≡ less v b → a ≡ b
less_same v a b na nb e = go (ltb v a) refl (ltb v b) refl e
  where
    go : (s : Bool) → ltb v a ≡ s → (t : Bool) → ltb v b ≡ t → cond s (a - 1) a ≡ cond t (b - 1) b → a ≡ b
    go true p true q f = omega (arith, ltb-true v a p, ltb-true v b q)
    go true p false q f = absurd (omega (arith, ltb-true v a p, ltb-false v b q))
    go false p true q f = absurd (omega (arith, ltb-false v a p, ltb-true v b q))
    go false p false q f = f

pub twice : (m : ℕ) (g : ℕ → ℕ) → ((i : ℕ) → i ≤ m → g i < m) → Twice m g
twice zero g h = absurd (omega (arith, h 0 (omega arith)))
twice (suc m) g h = go (some_below again (suc m)) refl (twice m (λ i. less v (g i)))
  where
    v : ℕ
    v = g (suc m)

    again : ℕ → Bool
    again i = eqb (g i) v

    go : (b : Bool) → some_below again (suc m) ≡ b → (((i : ℕ) → i ≤ m → less v (g i) < m) → Twice m (λ i. less v (g i))) → Twice (suc m) g
    go true e rest =
        let s = some_below_index again (suc m) e in
        record { first = s.0; second = suc m; rises = s.1; inside = omega arith; same = eqb-true (g s.0) v s.2 }
    go false e rest =
        let other : (i : ℕ) → i ≤ m → g i ≡ v → ⊥ = λ i l. eqb-false (g i) v (none_below again (suc m) i e (omega arith)) in
        let t = rest (λ i l. less_small v (g i) m (other i l) (omega (arith, h (suc m) (omega arith))) (omega (arith, h i (omega arith)))) in
        record {
          first = t.first;
          second = t.second;
          rises = t.rises;
          inside = omega (arith, t.inside);
          same = less_same v (g t.first) (g t.second) (other t.first (omega (arith, t.rises, t.inside))) (other t.second t.inside) t.same;
        }

-- ---- numbers below n, each once
abbrev Distinct : ℕ → List ℕ → Type 0
Distinct n [] = Unit {0}
Distinct n (x ∷ xs) = (x < n) × (is_placed xs x ≡ false) × Distinct n xs

distinct_below : (n : ℕ) (xs : List ℕ) (i : ℕ) → Distinct n xs → i < length xs → get_or xs i 0 < n
distinct_below n [] i d h = absurd (omega arith)
distinct_below n (x ∷ xs) zero d h = d.0
distinct_below n (x ∷ xs) (suc i) d h = distinct_below n xs i d.2 (omega arith)

distinct_apart : (n : ℕ) (xs : List ℕ) (i j : ℕ) → Distinct n xs → i < j → j < length xs → get_or xs i 0 ≡ get_or xs j 0 → ⊥
distinct_apart n [] i j d l h e = omega arith
distinct_apart n (x ∷ xs) i zero d l h e = omega arith
distinct_apart n (x ∷ xs) zero (suc j) d l h e =
    true≢false (sym (some_at (λ y. eqb y x) xs j 0 (omega arith) (eq-eqb (get_or xs j 0) x (sym e))) ∙ d.1)
distinct_apart n (x ∷ xs) (suc i) (suc j) d l h e = distinct_apart n xs i j d.2 (omega arith) (omega arith) e

-- n of them: every number below n is among them
all_among : (n : ℕ) (xs : List ℕ) → Distinct n xs → length xs ≡ n → (c : ℕ) → c < n → is_placed xs c ≡ true
all_among n xs d e c h = go (is_placed xs c) refl
  where
    go : (b : Bool) → is_placed xs c ≡ b → is_placed xs c ≡ true
    go true f = f
    go false f =
        let more : Distinct n (c ∷ xs) = (h, f, d) in
        let t = twice n (λ i. get_or (c ∷ xs) i 0) (λ i l. distinct_below n (c ∷ xs) i more (omega arith)) in
        absurd (distinct_apart n (c ∷ xs) t.first t.second more t.rises (omega (arith, t.inside)) t.same)

-- ---- behind the last of an order no site is next
record Ends (n : ℕ) (line : ℕ → ℕ → Bool) (placed order : List ℕ) : Type 0 where
  final : List ℕ
  has : (c : ℕ) → is_placed final c ≡ (is_placed order c || is_placed placed c)
  stuck : (c : ℕ) → c < n → is_next n line final c ≡ false

pub or_turn : (a b c : Bool) → (b || (a || c)) ≡ ((a || b) || c)
or_turn true true c = refl
or_turn true false c = refl
or_turn false true c = refl
or_turn false false c = refl

module _ (n : ℕ) (line : ℕ → ℕ → Bool) where
  ends : (k : ℕ) (placed : List ℕ) → Distinct n placed → length placed + k ≡ n → Ends n line placed (order_from n line placed k)
  unfolding order_from
  ends zero placed d e =
      record {
        final = placed;
        has = λ c. refl;
        stuck = λ c h. rw (all_among n placed d (omega arith) c h);
      }
  ends (suc k) placed d e = go (ltb next n) refl (λ near fresh. ends k (next ∷ placed) (near, fresh, d) (omega arith))
    where
      next : ℕ
      next = next_of n line placed

      rest : List ℕ
      rest = order_from n line (next ∷ placed) k

      go : (b : Bool) → ltb next n ≡ b → (next < n → is_placed placed next ≡ false → Ends n line (next ∷ placed) rest) → Ends n line placed (cond b (next ∷ rest) [])
      go true t later =
          let near : next < n = ltb-true next n t in
          let r = later near (next_parts n line placed next (first_passes (is_next n line placed) 0 n (omega arith))).0 in
          record {
            final = r.final;
            has = λ c. r.has c ∙ or_turn (eqb next c) (is_placed rest c) (is_placed placed c);
            stuck = r.stuck;
          }
      go false t later =
          record {
            final = placed;
            has = λ c. refl;
            stuck = λ c h. first_lower (is_next n line placed) 0 n c (omega arith) (omega (arith, ltb-false next n t));
          }

  -- ---- a site that is not placed has a parent that is not
  abbrev last : Ends n line [] (site_order n line)
  last = ends n [] tt (omega arith)

  abbrev Free : Type 0
  Free = (c : ℕ) × (c < n) × (is_placed last.final c ≡ false)

  blocked : (f : Free) → (p : ℕ) × (p < n) × (is_placed last.final p ≡ false) × (line p f.0 ≡ true)
  blocked (c, near, out) =
      let stays : not (waits n line last.final c) ≡ false = ap (λ (b : Bool). not b && not (waits n line last.final c)) (sym out) ∙ last.stuck c near in
      let r = some_below_index (λ p. line p c && not (is_placed last.final p)) n (flip_false _ (waits n line last.final c) refl stays) in
      let q = and_true (line r.0 c) (not (is_placed last.final r.0)) r.2 in
      (r.0, r.1, flip_true _ (is_placed last.final r.0) refl q.1, q.0)

  -- from parent to parent
  chain : Free → ℕ → Free
  chain f zero = f
  chain f (suc i) = let b = blocked (chain f i) in (b.0, b.1, b.2)

  chain_line : (f : Free) (i : ℕ) → line (chain f (suc i)).0 (chain f i).0 ≡ true
  unfolding chain
  chain_line f i = (blocked (chain f i)).3

  walk_back : Free → Cycle line
  walk_back f =
      let g : ℕ → ℕ = λ i. (chain f i).0 in
      let t = twice n g (λ i l. (chain f i).1) in
      let steps = t.second - t.first - 1 in
      record {
        steps = steps;
        at = λ i. g (t.second - i);
        goes = λ i l.
            let down : t.second - i ≡ suc (t.second - suc i) = omega (arith, t.rises) in
            ap (λ (k : ℕ). line (g k) (g (t.second - suc i))) down ∙ chain_line f (t.second - suc i);
        back =
            let end : t.second - suc steps ≡ t.first = omega (arith, t.rises) in
            let start : t.second ≡ t.second - 0 = omega arith in
            ap g end ∙ t.same ∙ ap g start;
      }

  pub free_cycle : (c : ℕ) → c < n → is_placed (site_order n line) c ≡ false → Cycle line
  free_cycle c h out = walk_back (c, h, last.has c ∙ ap (λ (b : Bool). b || false) out)

-- ---- of a placement
-- some site cannot be placed: the lines form a cycle
cyclic_cycle : (xs : List Item) → cyclic xs ≡ true → Cycle (is_line xs)
unfolding cyclic
cyclic_cycle xs e = go (is_placed (eight xs) c) refl
  where
    s : (i : ℕ) × (i < length (places_of xs)) × (eqb (get_or (places_of xs) i 0) sites_most ≡ true)
    s = some_index (λ q. eqb q sites_most) (places_of xs) 0 e

    c : ℕ
    c = s.0

    site : c < sites_most
    site = omega (arith, s.1, places_length xs)

    go : (b : Bool) → is_placed (eight xs) c ≡ b → Cycle (is_line xs)
    go true f =
        let out : get_or (places_of xs) c 0 ≡ sites_most = eqb-true (get_or (places_of xs) c 0) sites_most s.2 in
        absurd (omega (arith, entry_at xs c 0 site, place_stands (eight xs) c f, (stands (eight xs) c f).0, order_length sites_most (is_line xs) [] sites_most))
    go false f = free_cycle sites_most (is_line xs) c site f

-- every site can be placed: they form none
module _ (sites : ℕ) (xs : List Item) (few : sites ≤ sites_most) (sound : items_number sites xs ≡ 0) where
  module _ (fine : cyclic xs ≡ false) (w : Cycle (is_line xs)) where
    rises : (i : ℕ) → i ≤ w.steps → place_of xs (w.at i) < place_of xs (w.at (suc i))
    rises i l =
        let q = line_sites sites xs (w.at i) (w.at (suc i)) sound (w.goes i l) in
        line_rises xs fine (w.at i) (w.at (suc i)) (omega arith) (omega arith) (w.goes i l)

    climbs : (i : ℕ) → i ≤ w.steps → place_of xs (w.at 0) < place_of xs (w.at (suc i))
    climbs zero l = rises 0 l
    climbs (suc i) l = omega (arith, climbs i (omega arith), rises (suc i) l)

    no_cycle : ⊥
    no_cycle = omega (arith, climbs w.steps (omega arith), ap (place_of xs) w.back)

  cycle_cyclic : Cycle (is_line xs) → cyclic xs ≡ true
  cycle_cyclic w = go (cyclic xs) refl
    where
      go : (b : Bool) → cyclic xs ≡ b → cyclic xs ≡ true
      go true e = e
      go false e = absurd (no_cycle e w)

pub cyclic_means_cycle : CyclicMeansCycle
cyclic_means_cycle sites xs few sound = (cyclic_cycle xs, cycle_cyclic sites xs few sound)
