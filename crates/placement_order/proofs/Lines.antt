-- The bits of all lines: those where no line goes down, and the places that those of a placement give.
use mathlib.Core.Path.{◌≡◌, refl, sym, ap, ap₂, ◌∙◌}
use mathlib.Core.Bool.{Bool, true, false, not, ◌&&◌, and-true, false≢true}
use mathlib.Core.List.{List, map}
use Prim.Native.Nat.{ℕ, zero, suc, ◌+◌, ◌*◌, ◌/◌, ◌%◌, ◌^◌, ◌≤◌, ◌<◌}
use native.Mathlib.Omega.{arith}
use native.Mathlib.Nat.{mod-lt}
use lib.Bits.{bit_and, and_shr, and_mod, and_zero_l}
use lib.Dec.{eqb, ltb, leb}
use borrow.Author.Tests.{le-leb, ltb-true, ltb-false}
use Rattle.limits.specs.Limits.{sites_most}
use Rattle.lists.specs.Lists.{some_below, up_to}
use Rattle.lists.proofs.Some.{none_below}
use Rattle.lists.proofs.Numbers.{flip_false}
use Rattle.placement.specs.Masks.{bit}
use Rattle.placement.specs.Placement.{Item, is_line, LineBits}
use Rattle.placement.specs.Places.{place_in, places_of}
use Rattle.placement_item.proofs.Bits.{bit_none}
use Rattle.placement_order.specs.Tables.{line_in, places_by}
use Rattle.placement_order.proofs.Order.{order_same}

-- ---- the bits that two masks share
both_one : (i j : ℕ) → i < 2 → j < 2 → eqb (bit_and i j) 1 ≡ (eqb i 1 && eqb j 1)
both_one zero j h g = ap (λ (x : ℕ). eqb x 1) (and_zero_l j)
both_one (suc zero) zero h g = refl
both_one (suc zero) (suc zero) h g = refl
both_one (suc zero) (suc (suc j)) h g = absurd (omega arith)
both_one (suc (suc i)) j h g = absurd (omega arith)

pub bit_and_lem : (a b k : ℕ) → bit (bit_and a b) k ≡ (bit a k && bit b k)
bit_and_lem a b k =
    let x = a / 2 ^ k in
    let y = b / 2 ^ k in
    ap (λ (z : ℕ). eqb (z % 2) 1) (and_shr a b k)
    ∙ ap (λ (z : ℕ). eqb z 1) (and_mod x y 1)
    ∙ both_one (x % 2) (y % 2) (mod-lt x {m = 2} (omega arith)) (mod-lt y {m = 2} (omega arith))

-- ---- the lines that go down: to the site itself, or to one of a lower number
abbrev pub down : ℕ
down = 0xFF7F3F1F0F070301

-- no such line lacks its bit
left_out : ℕ → Bool
left_out k = leb (k % sites_most) (k / sites_most) && not (bit down k)

none_left_out : some_below left_out (sites_most * sites_most) ≡ false
unfolding left_out
none_left_out = refl

down_bit : (p c : ℕ) → p < sites_most → c ≤ p → bit down (sites_most * p + c) ≡ true
unfolding left_out
down_bit p c h g =
    let k = sites_most * p + c in
    let low : k % sites_most ≤ k / sites_most = omega arith in
    flip_false _ (bit down k) refl
    (ap (λ (b : Bool). b && not (bit down k)) (sym (le-leb (k % sites_most) (k / sites_most) low)) ∙ none_below left_out (sites_most * sites_most) k none_left_out (omega arith))

pub no_down : (m p c : ℕ) → bit_and m down ≡ 0 → p < sites_most → c < sites_most → line_in m p c ≡ true → p < c
no_down m p c none h g goes = go (ltb p c) refl
  where
    go : (b : Bool) → ltb p c ≡ b → p < c
    go true e = ltb-true p c e
    go false e =
        let k = sites_most * p + c in
        let apart : (bit m k && bit down k) ≡ false = sym (bit_and_lem m down k) ∙ ap (λ (x : ℕ). bit x k) none ∙ bit_none k in
        let there : bit down k ≡ true = down_bit p c h (omega (arith, ltb-false p c e)) in
        let unset : bit m k ≡ false = sym (and-true (bit m k)) ∙ ap (λ (b : Bool). bit m k && b) (sym there) ∙ apart in
        absurd (false≢true (sym unset ∙ goes))

-- ---- the lines of a placement, by their bits
module _ (xs : List Item) (m : ℕ) (bits : LineBits xs m) where
  line_is : (p c : ℕ) → p < sites_most → c < sites_most → line_in m p c ≡ is_line xs p c
  line_is p c h g =
      let from : (sites_most * p + c) / sites_most ≡ p = omega arith in
      let to : (sites_most * p + c) % sites_most ≡ c = omega arith in
      bits (sites_most * p + c) (omega arith) ∙ ap₂ (is_line xs) from to

  pub places_ordered : places_by m ≡ places_of xs
  unfolding places_of
  places_ordered = ap (λ (o : List ℕ). map (place_in o) (up_to 0 sites_most)) (order_same sites_most (line_in m) (is_line xs) line_is _ sites_most)
