-- The places of a group's sites are those of the group alone, every other number is its own place, and so is every site where lines only go to higher numbers; the first site that has a place stands there in the order.
use mathlib.Core.Path.{◌≡◌, refl, sym, ap, ◌∙◌}
use mathlib.Core.Bool.{Bool, true, false, not, cond, ◌&&◌, ◌||◌, false≢true, true≢false}
use mathlib.Core.List.{List, [], ◌∷◌, ◌++◌, map}
use Prim.Native.Nat.{ℕ, zero, suc, ◌+◌, ◌-◌, ◌≤◌, ◌<◌}
use native.Mathlib.Omega.{arith}
use lib.ListN.{length, get_or, length-append}
use lib.Dec.{eqb, ltb}
use borrow.Author.Tests.{eqb-true, eqb-false, eq-eqb, ne_eqb, ltb-true, ltb-false}
use Rattle.limits.specs.Limits.{sites_most}
use Rattle.lists.specs.Lists.{some_below, before_first, up_to}
use Rattle.lists.proofs.Some.{none_all}
use Rattle.lists.proofs.Numbers.{or_false}
use Rattle.placement.specs.Placement.{Item, items_number, is_line}
use Rattle.placement.specs.Places.{is_placed, waits, is_next, first_from, site_order, order_from, place_in, places_of, place_of, cyclic, GroupPlaces, NumbersStay}
use Rattle.placement.proofs.Laws.{line_sites}
use Rattle.placement.proofs.Places.{first_is, stands_at, stands, place_stands, next_parts, Steps, order_steps, steps_order, order_length, numbers_length, eight, place_past, all_placed, place_is, place_small, placement_parts}
use Rattle.placement.proofs.Cycles.{twice, or_turn, free_cycle, cyclic_means_cycle}

-- ---- tests that no number passes
none_more : (f : ℕ → Bool) (k m : ℕ) → k ≤ m → ((c : ℕ) → k ≤ c → f c ≡ false) → some_below f k ≡ some_below f m
none_more f k zero h none = let same : k ≡ 0 = omega arith in ap (some_below f) same
none_more f k (suc m) h none = go (ltb m k) refl (none_more f k m)
  where
    go : (b : Bool) → ltb m k ≡ b → (k ≤ m → ((c : ℕ) → k ≤ c → f c ≡ false) → some_below f k ≡ some_below f m) → some_below f k ≡ some_below f (suc m)
    go true t rest = let same : k ≡ suc m = omega (arith, ltb-true m k t) in ap (some_below f) same
    go false t rest = let l : k ≤ m = omega (arith, ltb-false m k t) in rw (none m l) (rest l none)

-- ---- where a number stands in two lists, one behind the other, and in numbers in turn
module _ (k : ℕ) where
  pub stands_first : (xs ys : List ℕ) → is_placed xs k ≡ true → stands_at (xs ++ ys) k ≡ stands_at xs k
  stands_first [] ys e = absurd (false≢true e)
  stands_first (x ∷ xs) ys e = go (eqb x k) e (stands_first xs ys)
    where
      go : (b : Bool) → (b || is_placed xs k) ≡ true → (is_placed xs k ≡ true → stands_at (xs ++ ys) k ≡ stands_at xs k)
          → length (cond b [] (x ∷ before_first (λ d. eqb d k) (xs ++ ys))) ≡ length (cond b [] (x ∷ before_first (λ d. eqb d k) xs))
      go true f rest = refl
      go false f rest = ap suc (rest f)

  pub stands_second : (xs ys : List ℕ) → is_placed xs k ≡ false → stands_at (xs ++ ys) k ≡ length xs + stands_at ys k
  stands_second [] ys e = omega arith
  stands_second (x ∷ xs) ys e = let q = or_false (eqb x k) (is_placed xs k) e in rw q.0 (omega (arith, stands_second xs ys q.1))

  stands_number : (a j : ℕ) → a ≤ k → k < a + j → stands_at (up_to a j) k ≡ k - a
  stands_number a zero h l = absurd (omega arith)
  stands_number a (suc j) h l = go (eqb a k) refl (stands_number (suc a) j)
    where
      go : (b : Bool) → eqb a k ≡ b → (suc a ≤ k → k < suc a + j → stands_at (up_to (suc a) j) k ≡ k - suc a) → length (cond b [] (a ∷ before_first (λ d. eqb d k) (up_to (suc a) j))) ≡ k - a
      go true t rest = omega (arith, eqb-true a k t)
      go false t rest = let other = eqb-false a k t in omega (arith, rest (omega arith) (omega arith))

-- ---- steps
module _ (n : ℕ) (line : ℕ → ℕ → Bool) where
  -- they place numbers below n only
  pub steps_below : (c : ℕ) (placed cs : List ℕ) → Steps n line placed cs → n ≤ c → is_placed cs c ≡ false
  steps_below c placed [] s h = refl
  steps_below c placed (d ∷ ds) s h = rw (ne_eqb d c (λ e. omega (arith, s.0))) (steps_below c (d ∷ placed) ds s.3 h)

  -- some, and then others
  steps_append : (placed xs ys : List ℕ) → Steps n line placed xs → ((all : List ℕ) → ((c : ℕ) → is_placed all c ≡ (is_placed xs c || is_placed placed c)) → Steps n line all ys)
      → Steps n line placed (xs ++ ys)
  steps_append placed [] ys s then = then placed (λ c. refl)
  steps_append placed (x ∷ xs) ys s then =
      (s.0, s.1, s.2, steps_append (x ∷ placed) xs ys s.3 (λ all has. then all (λ c. has c ∙ or_turn (eqb x c) (is_placed xs c) (is_placed placed c))))

  -- all numbers below a are placed and no other, and every line to one of the others comes from below it: they follow in turn
  steps_numbers : (a k : ℕ) (placed : List ℕ) → a + k ≡ n → ((j : ℕ) → j < a → is_placed placed j ≡ true) → ((j : ℕ) → a ≤ j → is_placed placed j ≡ false)
      → ((p c : ℕ) → p < n → a ≤ c → c < n → line p c ≡ true → p < c) → Steps n line placed (up_to a k)
  steps_numbers a zero placed e low high up = tt
  steps_numbers a (suc k) placed e low high up = (
    omega arith,
    rw (high a (omega arith), none_all (λ p. line p a && not (is_placed placed p)) n parent),
    (λ j l. rw (low j l)),
    steps_numbers (suc a) k (a ∷ placed) (omega arith) low_next (λ j l. rw (ne_eqb a j (λ z. omega arith)) (high j (omega arith))) (λ p c h l m. up p c h (omega arith) m),
  )
    where
      parent : (p : ℕ) → p < n → (line p a && not (is_placed placed p)) ≡ false
      parent p h = go (line p a) refl
        where
          go : (b : Bool) → line p a ≡ b → (b && not (is_placed placed p)) ≡ false
          go true t = rw (low p (up p a h (omega arith) (omega arith) t))
          go false t = refl

      low_next : (j : ℕ) → j < suc a → is_placed (a ∷ placed) j ≡ true
      low_next j l = go (eqb a j) refl
        where
          go : (b : Bool) → eqb a j ≡ b → (b || is_placed placed j) ≡ true
          go true t = refl
          go false t = let other = eqb-false a j t in low j (omega arith)

  -- each of them is below n, is not placed before, and stands where it is first
  steps_alone : (placed cs : List ℕ) → Steps n line placed cs → (k : ℕ) → k < length cs → let c = get_or cs k 0 in (c < n) × (is_placed placed c ≡ false) × (stands_at cs c ≡ k)
  steps_alone placed [] s k h = absurd (omega arith)
  steps_alone placed (d ∷ ds) s zero h = (s.0, (next_parts n line placed d s.1).0, rw (eq-eqb d d refl))
  steps_alone placed (d ∷ ds) s (suc k) h =
      let r = steps_alone (d ∷ placed) ds s.3 k (omega arith) in
      let c = get_or ds k 0 in
      let q = or_false (eqb d c) (is_placed placed c) r.1 in
      (r.0, q.1, rw q.0 (ap suc r.2))

  -- ---- where each is placed, the order is as long as there are numbers
  module _ (full : (c : ℕ) → c < n → is_placed (site_order n line) c ≡ true) where
    full_length : length (site_order n line) ≡ n
    full_length = go (ltb m n) refl
      where
        o : List ℕ
        o = site_order n line

        m : ℕ
        m = length o

        go : (b : Bool) → ltb m n ≡ b → m ≡ n
        go true t =
            let l : m < n = ltb-true m n t in
            let w = twice m (stands_at o) (λ i h. (stands o i (full i (omega arith))).0) in
            let back : (i : ℕ) → i ≤ m → get_or o (stands_at o i) 0 ≡ i = λ i h. (stands o i (full i (omega arith))).1 in
            absurd
            (omega (arith, w.rises, w.inside, back w.first (omega (arith, w.rises, w.inside)), back w.second w.inside, ap (λ (i : ℕ). get_or o i 0) w.same))
        go false t = omega (arith, ltb-false m n t, order_length n line [] n)

-- ---- the lines are among n numbers, and each of these is placed: of m numbers the others follow in turn
module _ (n m : ℕ) (line : ℕ → ℕ → Bool) (few : n ≤ m) (inside : (p c : ℕ) → line p c ≡ true → (p < n) × (c < n)) where
  waits_same : (placed : List ℕ) (c : ℕ) → waits n line placed c ≡ waits m line placed c
  waits_same placed c = none_more (λ p. line p c && not (is_placed placed p)) n m few outside
    where
      outside : (p : ℕ) → n ≤ p → (line p c && not (is_placed placed p)) ≡ false
      outside p h = go (line p c) refl
        where
          go : (b : Bool) → line p c ≡ b → (b && not (is_placed placed p)) ≡ false
          go true t = absurd (omega (arith, (inside p c t).0))
          go false t = refl

  next_same : (placed : List ℕ) (c : ℕ) → is_next m line placed c ≡ is_next n line placed c
  next_same placed c = ap (λ (b : Bool). not (is_placed placed c) && not b) (sym (waits_same placed c))

  steps_wider : (placed cs : List ℕ) → Steps n line placed cs → Steps m line placed cs
  steps_wider placed [] s = tt
  steps_wider placed (c ∷ cs) s = (omega (arith, s.0), next_same placed c ∙ s.1, (λ j l. next_same placed j ∙ s.2 j l), steps_wider (c ∷ placed) cs s.3)

  module _ (full : (c : ℕ) → c < n → is_placed (site_order n line) c ≡ true) where
    abbrev both : List ℕ
    both = site_order n line ++ up_to n (m - n)

    steps_both : Steps m line [] both
    steps_both = steps_append m line [] (site_order n line) (up_to n (m - n)) (steps_wider [] (site_order n line) (order_steps n line [] n)) after
      where
        after : (all : List ℕ) → ((c : ℕ) → is_placed all c ≡ (is_placed (site_order n line) c || false)) → Steps m line all (up_to n (m - n))
        after all has =
            steps_numbers m line n (m - n) all (omega arith)
            (λ j l. has j ∙ ap (λ (b : Bool). b || false) (full j l))
            (λ j l. has j ∙ ap (λ (b : Bool). b || false) (steps_below n line j [] (site_order n line) (order_steps n line [] n) l))
            (λ p c h l k t. absurd (omega (arith, (inside p c t).1)))

    order_both : site_order m line ≡ both
    order_both =
        let size : length both ≡ m = omega (arith, length-append (site_order n line) (up_to n (m - n)), full_length n line full, numbers_length n (m - n)) in
        ap (order_from m line []) (sym size) ∙ steps_order m line [] both steps_both

-- ---- of a placement
pub numbers_stay : NumbersStay
unfolding places_of
numbers_stay xs up =
    let o : eight xs ≡ up_to 0 sites_most = steps_order sites_most (is_line xs) [] (up_to 0 sites_most) (steps_numbers sites_most (is_line xs) 0 sites_most [] refl (λ j l. absurd (omega arith)) (λ j l. refl) (λ p c h l k t. up p c h k t)) in
    ap (λ (l : List ℕ). map (place_in l) (up_to 0 sites_most)) o

module _ (sites : ℕ) (xs : List Item) (few : sites ≤ sites_most) (sound : items_number sites xs ≡ 0) (fine : cyclic xs ≡ false) where
  abbrev group : List ℕ
  group = site_order sites (is_line xs)

  pub group_placed : (k : ℕ) → k < sites → is_placed group k ≡ true
  group_placed k h = go (is_placed group k) refl
    where
      go : (b : Bool) → is_placed group k ≡ b → is_placed group k ≡ true
      go true e = e
      go false e = absurd (true≢false (sym ((cyclic_means_cycle sites xs few sound).1 (free_cycle sites (is_line xs) k h e)) ∙ fine))

  at_eight : (k : ℕ) → k < sites_most → place_of xs k ≡ stands_at (group ++ up_to sites (sites_most - sites)) k
  at_eight k h =
      place_is xs fine k h ∙ ap (λ (o : List ℕ). stands_at o k) (order_both sites sites_most (is_line xs) few (λ p c t. line_sites sites xs p c sound t) group_placed)

  own_place : (k : ℕ) → k < sites → place_of xs k ≡ stands_at group k
  own_place k h = at_eight k (omega arith) ∙ stands_first k group (up_to sites (sites_most - sites)) (group_placed k h)

  own_number : (k : ℕ) → sites ≤ k → place_of xs k ≡ k
  own_number k h = go (ltb k sites_most) refl
    where
      go : (b : Bool) → ltb k sites_most ≡ b → place_of xs k ≡ k
      go true t =
          let l : k < sites_most = ltb-true k sites_most t in
          let out = steps_below sites (is_line xs) k [] group (order_steps sites (is_line xs) [] sites) h in
          omega (arith, at_eight k l, stands_second k group (up_to sites (sites_most - sites)) out, full_length sites (is_line xs) group_placed, stands_number k sites (sites_most - sites) h (omega arith))
      go false t = place_past xs k (omega (arith, ltb-false k sites_most t))

  places_apart : (j k : ℕ) → place_of xs j ≡ place_of xs k → j ≡ k
  places_apart j k e = go (ltb j sites_most) refl (ltb k sites_most) refl
    where
      holds : (i : ℕ) → i < sites_most → get_or (eight xs) (place_of xs i) 0 ≡ i
      holds i l = ap (λ (q : ℕ). get_or (eight xs) q 0) (place_is xs fine i l) ∙ (stands (eight xs) i (all_placed xs fine i l)).1

      go : (s : Bool) → ltb j sites_most ≡ s → (t : Bool) → ltb k sites_most ≡ t → j ≡ k
      go true p true q = sym (holds j (ltb-true j sites_most p)) ∙ ap (λ (i : ℕ). get_or (eight xs) i 0) e ∙ holds k (ltb-true k sites_most q)
      go true p false q = let past = ltb-false k sites_most q in absurd (omega (arith, place_small xs fine j (ltb-true j sites_most p), place_past xs k (omega arith)))
      go false p true q = let past = ltb-false j sites_most p in absurd (omega (arith, place_small xs fine k (ltb-true k sites_most q), place_past xs j (omega arith)))
      go false p false q = omega (arith, place_past xs j (omega (arith, ltb-false j sites_most p)), place_past xs k (omega (arith, ltb-false k sites_most q)))

  -- ---- the site at a place of the group's order
  pub order_full : length group ≡ sites
  order_full = full_length sites (is_line xs) group_placed

  pub order_at_lem : (k : ℕ) → k < sites → (get_or group k 0 < sites) × (first_from (λ i. eqb (place_of xs i) k) 0 sites_most ≡ get_or group k 0)
  order_at_lem k h =
      let c = get_or group k 0 in
      let alone = steps_alone sites (is_line xs) [] group (order_steps sites (is_line xs) [] sites) k (omega (arith, order_full)) in
      let here : place_of xs c ≡ k = own_place c alone.0 ∙ alone.2 in (
        alone.0,
        first_is (λ i. eqb (place_of xs i) k) 0 sites_most c (omega arith) (omega (arith, alone.0)) (eq-eqb (place_of xs c) k here)
            (λ j l m. ne_eqb (place_of xs j) k (λ e. let same = places_apart j c (e ∙ sym here) in omega (arith, same))),
      )

pub group_places : GroupPlaces
group_places sites xs few e =
    let q = placement_parts sites xs e in
    let own = own_place sites xs few q.0 q.1 in
    let in_group = group_placed sites xs few q.0 q.1 in
    let o = site_order sites (is_line xs) in
    record {
      own_order = λ k h. own k h ∙ sym (place_stands o k (in_group k h));
      inside = λ k h. omega (arith, own k h, (stands o k (in_group k h)).0, order_length sites (is_line xs) [] sites);
      missing = own_number sites xs few q.0 q.1;
      apart = places_apart sites xs few q.0 q.1;
    }
