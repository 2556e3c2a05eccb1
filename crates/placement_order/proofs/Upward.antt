-- Where no line from an open site goes down, the open sites are placed by their numbers.
use mathlib.Core.Path.{◌≡◌, refl, sym, ap, subst, ◌∙◌}
use mathlib.Core.Bool.{Bool, true, false, not, ◌&&◌, and-false, false≢true}
use mathlib.Core.List.{List, map}
use Prim.Native.Nat.{ℕ, zero, suc, ◌+◌, ◌<◌}
use native.Mathlib.Omega.{arith}
use native.Mathlib.Numerals.{add-one}
use lib.ListN.{length, get_or, set, replicate}
use lib.Bits.{bit_and}
use lib.Dec.{eqb, ltb}
use borrow.Author.Tests.{eq-eqb, eqb-true, eqb-false, ltb-true, ltb-false}
use Rattle.limits.specs.Limits.{sites_most}
use Rattle.lists.specs.Lists.{up_to}
use Rattle.lists.proofs.Some.{some_below_same}
use Rattle.lists.proofs.Every.{and_true as both}
use Rattle.placement.specs.Places.{is_placed, waits, is_next, site_order, place_in}
use Rattle.placement.proofs.Places.{first_passes, first_is, next_parts, next_of}
use Rattle.placement_order.specs.Tables.{line_in, places_by, is_open, filled}
use Rattle.placement_order.proofs.Filled.{filled_from, filled_open, filled_placed, filled_all}
use Rattle.placement_order.proofs.Order.{occurrences_set, open_set, Going, going_none, going_open, going_on, going_full, going_stuck, Left, left_all}
use Rattle.placement_order.proofs.Lines.{down, no_down}

module _ (line : ℕ → ℕ → Bool) where
  abbrev places : List ℕ
  places = map (place_in (site_order sites_most line)) (up_to 0 sites_most)

  abbrev Upward : List ℕ → Type 0
  Upward table = (p c : ℕ) → p < sites_most → c < sites_most → is_open table p ≡ true → line p c ≡ true → p < c

  -- no site below k is open
  abbrev PlacedTo : ℕ → List ℕ → Type 0
  PlacedTo k table = (j : ℕ) → j < k → is_open table j ≡ false

  placed_next : (k : ℕ) (table : List ℕ) → PlacedTo k table → is_open table k ≡ false → PlacedTo (suc k) table
  placed_next k table before here j l = go (eqb j k) refl
    where
      go : (b : Bool) → eqb j k ≡ b → is_open table j ≡ false
      go true e = ap (is_open table) (eqb-true j k e) ∙ here
      go false e = let other = eqb-false j k e in before j (omega (arith, other))

  module _ (table : List ℕ) (count : ℕ) (g : Going line table count) where
    -- the first open site is next
    first_next : (k : ℕ) → k < sites_most → is_open table k ≡ true → PlacedTo k table → Upward table → k ≡ next_of sites_most line g.placed
    first_next k site free before up = sym (first_is (is_next sites_most line g.placed) 0 sites_most k (omega arith) (omega arith) passes (λ j a l. lower j l))
      where
        waiting : (p : ℕ) → p < sites_most → (line p k && not (is_placed g.placed p)) ≡ false
        waiting p h = go (line p k) refl (is_open table p) refl
          where
            go : (a : Bool) → line p k ≡ a → (b : Bool) → is_open table p ≡ b → (a && not (is_placed g.placed p)) ≡ false
            go false e b f = refl
            go true e true f = absurd (false≢true (sym (before p (up p k h site f e)) ∙ f))
            go true e false f = sym (going_open line table count g p h) ∙ f

        passes : is_next sites_most line g.placed k ≡ true
        passes =
            let ready : waits sites_most line g.placed k ≡ false = some_below_same (λ p. line p k && not (is_placed g.placed p)) (λ p. false) sites_most waiting in
            rw (sym (going_open line table count g k site) ∙ free, ready)

        lower : (j : ℕ) → j < k → is_next sites_most line g.placed j ≡ false
        lower j l = ap (λ (b : Bool). b && not (waits sites_most line g.placed j)) (sym (going_open line table count g j (omega arith)) ∙ before j l)

    -- where none is open, all have their places
    abbrev c : ℕ
    c = next_of sites_most line g.placed

    all_placed : PlacedTo sites_most table → table ≡ places
    all_placed before = go (ltb count sites_most) refl (ltb c sites_most) refl
      where
        go : (a : Bool) → ltb count sites_most ≡ a → (b : Bool) → ltb c sites_most ≡ b → table ≡ places
        go false e b f = going_full line table count g (ltb-false count sites_most e)
        go true e false f = going_stuck line table count g (ltb-true count sites_most e) (ltb-false c sites_most f)
        go true e true f =
            let site : c < sites_most = ltb-true c sites_most f in
            let out = (next_parts sites_most line g.placed c (first_passes (is_next sites_most line g.placed) 0 sites_most site)).0 in
            absurd (false≢true (sym (before c site) ∙ going_open line table count g c site ∙ ap not out))

  -- the first k have their places, m are left
  fill : (m k : ℕ) (table : List ℕ) (count : ℕ) → k + m ≡ sites_most → Going line table count → Upward table → PlacedTo k table → filled_from k table count ≡ places
  fill zero k table count size g up before =
      let all : k ≡ sites_most = omega arith in
      filled_all table count k (omega (arith, g.wide)) ∙ all_placed table count g (subst (λ (j : ℕ). PlacedTo j table) all before)
  fill (suc m) k table count size g up before = go (is_open table k) refl (λ t n. fill m (suc k) t n (omega arith))
    where
      inside : k < length table
      inside = omega (arith, g.wide)

      go : (b : Bool) → is_open table k ≡ b → ((t : List ℕ) (n : ℕ) → Going line t n → Upward t → PlacedTo (suc k) t → filled_from (suc k) t n ≡ places) → filled_from k table count ≡ places
      go false e rest = filled_placed table count k inside (eqb-false (get_or table k 0) sites_most e) ∙ rest table count g up (placed_next k table before e)
      go true e rest =
          let free : get_or table k 0 ≡ sites_most = eqb-true (get_or table k 0) sites_most e in
          let more : count < sites_most = omega (arith, g.counted, occurrences_set sites_most table k 0 inside free (λ z. absurd (omega arith))) in
          let next = set table k count in
          let still = open_set table k count inside more in
          let on : Going line next (suc count) = subst (Going line next) (add-one count) (going_on line table count g k (first_next table count g k (omega arith) e before up) (omega arith) more) in
          filled_open table count k inside free
          ∙ rest next (suc count) on
          (λ p c h b o. up p c h b (both (is_open table p) (not (eqb k p)) (sym (still p) ∙ o)).0)
          (placed_next k next (λ j l. still j ∙ ap (λ (b : Bool). b && not (eqb k j)) (before j l)) (still k ∙ ap (λ (b : Bool). is_open table k && not b) (eq-eqb k k refl) ∙ and-false (is_open table k)))

-- ---- by the bits of lines
pub rest_by_number : (lines : ℕ) (table : List ℕ) (count : ℕ) → Going (line_in lines) table count → (left : ℕ) → Left lines table left → bit_and left down ≡ 0 → filled count table ≡ places_by lines
rest_by_number lines table count g left rest none =
    fill (line_in lines) sites_most 0 table count refl g
    (λ p c h b o goes. no_down left p c none h b (rest p c h b ∙ rw (goes, o)))
    (λ j l. absurd (omega arith))

-- where none goes down at all the places are the numbers
pub numbers_by : (lines : ℕ) → bit_and lines down ≡ 0 → up_to 0 sites_most ≡ places_by lines
numbers_by lines none = rest_by_number lines (replicate sites_most sites_most) 0 (going_none (line_in lines)) lines (left_all lines) none
