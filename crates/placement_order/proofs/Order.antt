-- The order of sites, one site after another, and the table of places that goes with it.
use mathlib.Core.Path.{◌≡◌, refl, sym, ap, ap₂, ◌∙◌}
use mathlib.Core.Bool.{Bool, true, false, not, cond, ◌&&◌, ◌||◌, and-true, and-false, and_assoc, or_assoc}
use mathlib.Core.List.{List, [], ◌∷◌, ◌++◌, map, append-nil, append_assoc}
use Prim.Native.Nat.{ℕ, zero, suc, ◌+◌, ◌-◌, ◌≤◌, ◌<◌}
use native.Mathlib.Omega.{arith}
use lib.ListN.{length, get_or, set, replicate, length-map, length-append, length-set, length-replicate, get_or-replicate}
use lib.Seq.{ext_get_or, get_or-set_same, get_or-set_other}
use lib.Dec.{eqb, ltb}
use borrow.Author.Tests.{eq-eqb, ne_eqb, eqb-true, eqb-false, lt-ltb, le-ltb}
use Rattle.limits.specs.Limits.{sites_most}
use Rattle.lists.specs.Lists.{up_to, occurrences}
use Rattle.lists.proofs.Some.{some_below_same}
use Rattle.placement.specs.Masks.{Names}
use Rattle.placement.specs.Places.{is_placed, is_next, first_from, order_from, site_order, place_in}
use Rattle.placement.proofs.Places.{first_passes, stands_at, stands, place_stands, next_parts, next_of, numbers_length, table_at}
use Rattle.placement.proofs.Cycles.{or_turn}
use Rattle.placement.proofs.Groups.{stands_first, stands_second}
use Rattle.placement_order.specs.Tables.{line_in, is_reached, Without, is_open, is_free}
use Rattle.placement_order.proofs.First.{first_same}

-- ---- a site's place where c is put behind an order
module _ (c k : ℕ) where
  placed_behind : (o : List ℕ) → is_placed (o ++ (c ∷ [])) k ≡ is_placed (c ∷ o) k
  placed_behind [] = refl
  placed_behind (x ∷ xs) = ap (λ (b : Bool). eqb x k || b) (placed_behind xs) ∙ or_turn (eqb c k) (eqb x k) (is_placed xs k) ∙ or_assoc (eqb c k) (eqb x k) (is_placed xs k)

  -- another's is as it was
  place_other : (o : List ℕ) → (c ≡ k → ⊥) → place_in (o ++ (c ∷ [])) k ≡ place_in o k
  place_other o other = go (is_placed o k) refl
    where
      same : is_placed (o ++ (c ∷ [])) k ≡ is_placed o k
      same = placed_behind o ∙ ap (λ (b : Bool). b || is_placed o k) (ne_eqb c k other)

      go : (b : Bool) → is_placed o k ≡ b → place_in (o ++ (c ∷ [])) k ≡ place_in o k
      go true e = place_stands (o ++ (c ∷ [])) k (same ∙ e) ∙ stands_first k o (c ∷ []) e ∙ sym (place_stands o k e)
      go false e = rw (same, e)

-- its own is the next
place_own : (c : ℕ) (o : List ℕ) → is_placed o c ≡ false → place_in (o ++ (c ∷ [])) c ≡ length o
place_own c o e =
    let own : eqb c c ≡ true = eq-eqb c c refl in
    let first : stands_at (c ∷ []) c ≡ 0 = rw own in
    place_stands (o ++ (c ∷ [])) c (placed_behind c c o ∙ ap (λ (b : Bool). b || is_placed o c) own) ∙ omega (arith, stands_second c o (c ∷ []) e, first)

-- of at most eight in an order, 8 is the place of those that do not stand in it
open_place : (o : List ℕ) (k : ℕ) → length o ≤ sites_most → eqb (place_in o k) sites_most ≡ not (is_placed o k)
open_place o k few = go (is_placed o k) refl
  where
    go : (b : Bool) → is_placed o k ≡ b → eqb (cond b (stands_at o k) sites_most) sites_most ≡ not b
    go true e = ne_eqb (stands_at o k) sites_most (λ z. omega (arith, (stands o k e).0))
    go false e = refl

-- ---- the order, site by site
module _ (n : ℕ) (line : ℕ → ℕ → Bool) (placed : List ℕ) (k : ℕ) where
  order_on : (c : ℕ) → c ≡ next_of n line placed → c < n → order_from n line placed (suc k) ≡ c ∷ order_from n line (c ∷ placed) k
  unfolding order_from
  order_on c e h = rw (sym e, lt-ltb c n h)

  order_ends : n ≤ next_of n line placed → order_from n line placed (suc k) ≡ []
  unfolding order_from
  order_ends h = rw (le-ltb (next_of n line placed) n h)

-- two tests for a line that agree on the n sites give one order
module _ (n : ℕ) (f g : ℕ → ℕ → Bool) (agree : (p c : ℕ) → p < n → c < n → f p c ≡ g p c) where
  next_same : (placed : List ℕ) (c : ℕ) → c < n → is_next n f placed c ≡ is_next n g placed c
  next_same placed c h =
      ap (λ (b : Bool). not (is_placed placed c) && not b)
      (some_below_same (λ p. f p c && not (is_placed placed p)) (λ p. g p c && not (is_placed placed p)) n (λ p b. ap (λ (a : Bool). a && not (is_placed placed p)) (agree p c b h)))

  pub order_same : (placed : List ℕ) (k : ℕ) → order_from n f placed k ≡ order_from n g placed k
  unfolding order_from
  order_same placed zero = refl
  order_same placed (suc k) =
      let first : next_of n f placed ≡ next_of n g placed = first_same (is_next n f placed) (is_next n g placed) 0 n (λ c h. next_same placed c (omega arith)) in
      let c = next_of n g placed in
      ap (λ (d : ℕ). cond (ltb d n) (d ∷ order_from n f (d ∷ placed) k) []) first
      ∙ ap (λ (cs : List ℕ). cond (ltb c n) (c ∷ cs) []) (order_same (c ∷ placed) k)

-- ---- an element replaced by another
pub occurrences_set : (v : ℕ) (l : List ℕ) (i w : ℕ) → i < length l → get_or l i 0 ≡ v → (w ≡ v → ⊥) → suc (occurrences v (set l i w)) ≡ occurrences v l
occurrences_set v [] i w h e other = absurd (omega arith)
occurrences_set v (x ∷ xs) zero w h e other = rw (ne_eqb w v other, eq-eqb x v e) (omega arith)
occurrences_set v (x ∷ xs) (suc i) w h e other = omega (arith, occurrences_set v xs i w (omega arith) e other)

-- ---- a site that gets a place is open no more
pub open_set : (table : List ℕ) (c count : ℕ) → c < length table → count < sites_most → (p : ℕ) → is_open (set table c count) p ≡ (is_open table p && not (eqb c p))
open_set table c count inside more p = go (eqb c p) refl
  where
    go : (b : Bool) → eqb c p ≡ b → is_open (set table c count) p ≡ (is_open table p && not b)
    go true e =
        let here : p ≡ c = sym (eqb-true c p e) in
        ap (is_open (set table c count)) here
        ∙ ap (λ (q : ℕ). eqb q sites_most) (get_or-set_same table c count 0 inside)
        ∙ ne_eqb count sites_most (λ z. omega arith)
        ∙ sym (and-false (is_open table p))
    go false e = ap (λ (q : ℕ). eqb q sites_most) (get_or-set_other table c p count 0 (λ z. eqb-false c p e (sym z))) ∙ sym (and-true (is_open table p))

-- ---- a table of the places of the first `count` sites
pub record Going (line : ℕ → ℕ → Bool) (table : List ℕ) (count : ℕ) : Type 0 where
  pub order : List ℕ
  pub placed : List ℕ
  pub same : (k : ℕ) → is_placed placed k ≡ is_placed order k
  pub sized : length order ≡ count
  pub counted : count + occurrences sites_most table ≡ sites_most
  pub whole : site_order sites_most line ≡ order ++ order_from sites_most line placed (sites_most - count)
  pub wide : length table ≡ sites_most
  pub tabled : (k : ℕ) → k < sites_most → get_or table k 0 ≡ place_in order k

pub going_none : (line : ℕ → ℕ → Bool) → Going line (replicate sites_most sites_most) 0
going_none line = record {
  order = [];
  placed = [];
  same = λ k. refl;
  sized = refl;
  counted = refl;
  whole = refl;
  wide = length-replicate sites_most sites_most;
  tabled = λ k h. get_or-replicate sites_most k sites_most 0 h;
}

module _ (line : ℕ → ℕ → Bool) (table : List ℕ) (count : ℕ) (g : Going line table count) where
  -- the open sites of the table are those that are not placed
  pub going_open : (k : ℕ) → k < sites_most → is_open table k ≡ not (is_placed g.placed k)
  going_open k h =
      ap (λ (q : ℕ). eqb q sites_most) (g.tabled k h)
      ∙ open_place g.order k (omega (arith, g.sized, g.counted))
      ∙ ap not (sym (g.same k))

  -- one site more
  module _ (c : ℕ) (first : c ≡ next_of sites_most line g.placed) (site : c < sites_most) (more : count < sites_most) where
    new : is_placed g.order c ≡ false
    new =
        let passes : is_next sites_most line g.placed c ≡ true = ap (is_next sites_most line g.placed) first ∙ first_passes (is_next sites_most line g.placed) 0 sites_most (omega (arith, first)) in
        sym (g.same c) ∙ (next_parts sites_most line g.placed c passes).0

    free : get_or table c 0 ≡ sites_most
    free = eqb-true (get_or table c 0) sites_most (going_open c site ∙ ap not (g.same c ∙ new))

    pub going_on : Going line (set table c count) (count + 1)
    going_on = record {
      order = g.order ++ (c ∷ []);
      placed = c ∷ g.placed;
      same = λ k. ap (λ (b : Bool). eqb c k || b) (g.same k) ∙ sym (placed_behind c k g.order);
      sized = length-append g.order (c ∷ []) ∙ ap (λ (m : ℕ). m + 1) g.sized;
      counted = omega (arith, g.counted, occurrences_set sites_most table c count (omega (arith, g.wide)) free (λ z. omega arith));
      whole =
          let left : sites_most - count ≡ suc (sites_most - (count + 1)) = omega arith in
          g.whole
          ∙ ap (λ (cs : List ℕ). g.order ++ cs) (ap (order_from sites_most line g.placed) left ∙ order_on sites_most line g.placed (sites_most - (count + 1)) c first site)
          ∙ sym (append_assoc g.order (c ∷ []) (order_from sites_most line (c ∷ g.placed) (sites_most - (count + 1))));
      wide = length-set table c count ∙ g.wide;
      tabled = λ k h. at k h (eqb c k) refl;
    }
      where
        at : (k : ℕ) → k < sites_most → (b : Bool) → eqb c k ≡ b → get_or (set table c count) k 0 ≡ place_in (g.order ++ (c ∷ [])) k
        at k h true e =
            let here : k ≡ c = sym (eqb-true c k e) in
            ap (λ (j : ℕ). get_or (set table c count) j 0) here
            ∙ get_or-set_same table c count 0 (omega (arith, g.wide))
            ∙ sym (place_own c g.order new ∙ g.sized)
            ∙ ap (place_in (g.order ++ (c ∷ []))) (sym here)
        at k h false e =
            let other = eqb-false c k e in
            get_or-set_other table c k count 0 (λ z. other (sym z)) ∙ g.tabled k h ∙ sym (place_other c k g.order other)

  -- no site more
  done : order_from sites_most line g.placed (sites_most - count) ≡ [] → table ≡ map (place_in (site_order sites_most line)) (up_to 0 sites_most)
  done e =
      let place = place_in (site_order sites_most line) in
      let all : site_order sites_most line ≡ g.order = g.whole ∙ ap (λ (cs : List ℕ). g.order ++ cs) e ∙ append-nil g.order in
      let size : length (map place (up_to 0 sites_most)) ≡ sites_most = length-map (up_to 0 sites_most) place ∙ numbers_length 0 sites_most in
      ext_get_or 0 table (map place (up_to 0 sites_most)) (g.wide ∙ sym size) (λ k h.
      let own : k ≡ 0 + k = omega arith in
      let site : k < sites_most = omega (arith, g.wide) in
      g.tabled k site ∙ ap (λ (o : List ℕ). place_in o k) (sym all) ∙ ap place own ∙ sym (table_at place 0 sites_most k 0 site))

  pub going_full : sites_most ≤ count → table ≡ map (place_in (site_order sites_most line)) (up_to 0 sites_most)
  unfolding order_from
  going_full h = let none : sites_most - count ≡ 0 = omega arith in done (ap (order_from sites_most line g.placed) none)

  pub going_stuck : count < sites_most → sites_most ≤ next_of sites_most line g.placed → table ≡ map (place_in (site_order sites_most line)) (up_to 0 sites_most)
  going_stuck h stuck =
      let left : sites_most - count ≡ suc (sites_most - (count + 1)) = omega arith in
      done (ap (order_from sites_most line g.placed) left ∙ order_ends sites_most line g.placed (sites_most - (count + 1)) stuck)

-- ---- by the bits of lines
-- the bits `left` have the lines from the open sites
abbrev pub Left : ℕ → List ℕ → ℕ → Type 0
Left lines table left = (p k : ℕ) → p < sites_most → k < sites_most → line_in left p k ≡ (line_in lines p k && is_open table p)

pub left_all : (lines : ℕ) → Left lines (replicate sites_most sites_most) lines
left_all lines p k h g = sym (ap (λ (q : ℕ). line_in lines p k && eqb q sites_most) (get_or-replicate sites_most p sites_most 0 h) ∙ and-true (line_in lines p k))

module _ (lines : ℕ) (table : List ℕ) (count : ℕ) (g : Going (line_in lines) table count) (left : ℕ) (rest : Left lines table left) where
  -- an open site that none of these lines goes to is next
  module _ (waiting : ℕ) (names : Names sites_most waiting (is_reached left)) where
    free_next : (k : ℕ) → k < sites_most → is_free table waiting k ≡ is_next sites_most (line_in lines) g.placed k
    free_next k h =
        let open_is = going_open (line_in lines) table count g in
        ap₂ (λ (a b : Bool). a && not b) (open_is k h)
        (names k h ∙ some_below_same (λ p. line_in left p k) (λ p. line_in lines p k && not (is_placed g.placed p)) sites_most (λ p b. rest p k b h ∙ ap (λ (a : Bool). line_in lines p k && a) (open_is p b)))

    pub next_is : (c : ℕ) → c ≡ first_from (is_free table waiting) 0 sites_most → c ≡ next_of sites_most (line_in lines) g.placed
    next_is c e = e ∙ first_same (is_free table waiting) (is_next sites_most (line_in lines) g.placed) 0 sites_most (λ k h. free_next k (omega arith))

  -- where a site gets its place its lines go
  module _ (c : ℕ) (site : c < sites_most) (more : count < sites_most) where
    pub left_on : (r : ℕ) → Without left c r → Left lines (set table c count) r
    left_on r w p k h b =
        w p k h b
        ∙ ap (λ (a : Bool). a && not (eqb c p)) (rest p k h b)
        ∙ and_assoc (line_in lines p k) (is_open table p) (not (eqb c p))
        ∙ ap (λ (a : Bool). line_in lines p k && a) (sym (open_set table c count (omega (arith, g.wide)) more p))
