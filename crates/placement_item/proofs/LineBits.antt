-- The bits of all lines: a mask of sites shifted to the place of the site that its lines start from.
use mathlib.Core.Path.{◌≡◌, refl, sym, ap, ◌∙◌}
use mathlib.Core.Bool.{Bool, true, false}
use Prim.Native.Nat.{ℕ, ◌+◌, ◌-◌, ◌*◌, ◌/◌, ◌%◌, ◌^◌, ◌≤◌, ◌<◌}
use native.Mathlib.Omega.{arith}
use native.Mathlib.Nat.{div-eq_of_lt, mod-lt}
use lib.Dec.{eqb, ltb}
use lib.Pow.{low, pow_pos, pow_mono, shl_lt, shl_exact, shl-shr, shr-shr}
use borrow.Author.Tests.{ltb-true, ltb-false}
use Rattle.limits.specs.Limits.{sites_most}
use Rattle.placement.specs.Masks.{bit, Names}
use Rattle.placement.specs.Placement.{Item, gives_line}
use Rattle.placement.proofs.Laws.{low_bit, bit_below}
use Rattle.placement.proofs.Items.{not_joined, joined_by}

-- the bits of a number shifted by s: none below s, its own from s on
pub bit_shifted : (m s j : ℕ) → bit (m * 2 ^ s) (s + j) ≡ bit m j
bit_shifted m s j = ap (λ (x : ℕ). eqb (x % 2) 1) (sym (shr-shr (m * 2 ^ s) s j) ∙ ap (λ (x : ℕ). x / 2 ^ j) (shl-shr m s))

pub none_shifted : (m s k : ℕ) → k < s → bit (m * 2 ^ s) k ≡ false
none_shifted m s k h =
    let e : m * 2 ^ s + 0 ≡ m * 2 ^ s = omega arith in
    let z : m * 2 ^ s % 2 ^ s ≡ 0 = ap (λ (x : ℕ). x % 2 ^ s) (sym e) ∙ low m s (pow_pos s) in
    ap (λ (x : ℕ). eqb x 1) (bit_below (m * 2 ^ s) s k z h)

none_past : (m n k : ℕ) → m < 2 ^ n → n ≤ k → bit m k ≡ false
none_past m n k h g =
    let w : m < 2 ^ k = omega (arith, pow_mono {i = n} {j = k} g) in
    ap (λ (x : ℕ). eqb (x % 2) 1) (div-eq_of_lt w)

-- the lines that an item gives: its mask at the place of its primary
module _ (x : Item) (r : ℕ) (few : x.primary < sites_most) (is : r ≡ x.mask % 2 ^ sites_most) where
  abbrev place : ℕ
  place = sites_most * x.primary

  small : r < 2 ^ sites_most
  small = let h : x.mask % 2 ^ sites_most < 2 ^ sites_most = mod-lt x.mask {m = 2 ^ sites_most} (pow_pos sites_most) in omega arith

  whole : r * 2 ^ place % 2 ^ 64 ≡ r * 2 ^ place
  whole = shl_exact sites_most place 64 small (omega arith)

  pub lines_given : Names (sites_most * sites_most) (r * 2 ^ place % 2 ^ 64) (λ k. gives_line (k / sites_most) (k % sites_most) x)
  lines_given k h = ap (λ (y : ℕ). bit y k) whole ∙ go (ltb k place) (ltb (k / sites_most) (x.primary + 1)) refl refl
    where
      go : (b d : Bool) → ltb k place ≡ b → ltb (k / sites_most) (x.primary + 1) ≡ d → bit (r * 2 ^ place) k ≡ gives_line (k / sites_most) (k % sites_most) x
      go true d p q =
          let below = ltb-true k place p in
          none_shifted r place k below ∙ not_joined x (k / sites_most) (k % sites_most) (λ z. omega arith)
      go false false p q =
          let past = ltb-false (k / sites_most) (x.primary + 1) q in
          none_past (r * 2 ^ place) (sites_most + place) k (shl_lt sites_most place small) (omega arith) ∙ not_joined x (k / sites_most) (k % sites_most) (λ z. omega arith)
      go false true p q =
          let there = ltb-false k place p in
          let near = ltb-true (k / sites_most) (x.primary + 1) q in
          let same : x.primary ≡ k / sites_most = omega arith in
          let e : k ≡ place + k % sites_most = omega arith in
          let least : k % sites_most < sites_most = omega arith in
          ap (bit (r * 2 ^ place)) e
          ∙ bit_shifted r place (k % sites_most)
          ∙ ap (λ (y : ℕ). bit y (k % sites_most)) is
          ∙ ap (λ (y : ℕ). eqb y 1) (low_bit x.mask sites_most (k % sites_most) least)
          ∙ joined_by x (k / sites_most) (k % sites_most) same
