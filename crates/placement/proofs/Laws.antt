-- Laws of placement: the bits of a mask, an item that set-up does not refuse, and where the lines go.
use mathlib.Core.Path.{◌≡◌, refl, sym, ap, ◌∙◌}
use mathlib.Core.Bool.{Bool, true, false, cond, ◌||◌}
use mathlib.Core.List.{List, [], ◌∷◌}
use Prim.Native.Nat.{ℕ, zero, suc, ◌+◌, ◌-◌, ◌*◌, ◌/◌, ◌%◌, ◌^◌, ◌≤◌, ◌<◌}
use native.Mathlib.Omega.{arith}
use native.Mathlib.Nat.{not-suc-le-zero, div-eq_of_lt, div-lt_iff_lt-mul, le-div_iff_mul-le, add-mul-div_right, add-mul-mod_self_right, pow-suc, zero-div}
use lib.ListN.{length, get_or}
use lib.Pow.{pow_pos, pow_mono, pow-add, field, mod-mod-pow, high}
use lib.Dec.{eqb, ltb, leb}
use borrow.Author.Tests.{eqb-true, eqb-false, ltb-true, ltb-false, leb-false}
use Rattle.lists.proofs.Some.{some_index}
use Rattle.lists.proofs.Every.{and_true}
use Rattle.placement.specs.Masks.{bit, mask_of}
use Rattle.placement.specs.Placement.{Item, names_missing, item_number, items_number, no_item, gives_line, is_line}
use Rattle.placement.proofs.Items.{copied}

-- ---- the bits of a mask
-- a bit set: its weight is in the mask
bit_weight : (m k : ℕ) → bit m k ≡ true → 2 ^ k ≤ m
bit_weight m k t =
    let odd : m / 2 ^ k % 2 ≡ 1 = eqb-true (m / 2 ^ k % 2) 1 t in
    let h : 1 * 2 ^ k ≤ m = (le-div_iff_mul-le {k = 2 ^ k} {x = 1} {y = m} (pow_pos k)).0 (omega arith) in
    omega arith

-- the bits below n are those of the remainder
pub low_bit : (m n k : ℕ) → k < n → m % 2 ^ n / 2 ^ k % 2 ≡ m / 2 ^ k % 2
low_bit m n k h =
    let j = n - suc k in
    let e : j + 1 + k ≡ n = omega arith in
    ap (λ (i : ℕ). m % 2 ^ i / 2 ^ k % 2) (sym e) ∙ ap (λ (x : ℕ). x % 2) (field m (j + 1) k) ∙ mod-mod-pow (m / 2 ^ k) j 1

-- no bit below p is set: bit k, below p, is not
pub bit_below : (m p k : ℕ) → m % 2 ^ p ≡ 0 → k < p → m / 2 ^ k % 2 ≡ 0
bit_below m p k z h = sym (low_bit m p k h) ∙ ap (λ (x : ℕ). x / 2 ^ k % 2) z ∙ ap (λ (x : ℕ). x % 2) (zero-div (2 ^ k))

-- a bit of weight 2 to the power n, or none, added to bits of less weight: it is there
pub bit_added : (m n : ℕ) → m < 2 ^ n → (b : Bool) → bit (m + cond b (2 ^ n) 0) n ≡ b
bit_added m n h true = let e : m + 2 ^ n ≡ 1 * 2 ^ n + m = omega arith in ap (λ (q : ℕ). eqb (q % 2) 1) (ap (λ (x : ℕ). x / 2 ^ n) e ∙ high 1 n h)
bit_added m n h false = let e : m + 0 ≡ m = omega arith in ap (λ (q : ℕ). eqb (q % 2) 1) (ap (λ (x : ℕ). x / 2 ^ n) e ∙ div-eq_of_lt h)

-- the bits of less weight are as they were
pub bit_kept : (m n k : ℕ) → k < n → (b : Bool) → bit (m + cond b (2 ^ n) 0) k ≡ bit m k
bit_kept m n k h true =
    let y = 2 ^ (n - suc k) in
    let e : n - suc k + 1 + k ≡ n = omega arith in
    let p : 2 ^ n ≡ y * 2 * 2 ^ k = ap (λ (j : ℕ). 2 ^ j) (sym e) ∙ pow-add 2 (n - suc k + 1) k ∙ ap (λ (x : ℕ). x * 2 ^ k) (pow-add 2 (n - suc k) 1) in
    ap (λ (q : ℕ). eqb q 1) (ap (λ (x : ℕ). (m + x) / 2 ^ k % 2) p ∙ ap (λ (x : ℕ). x % 2) (add-mul-div_right m (y * 2) (pow_pos k)) ∙ add-mul-mod_self_right (m / 2 ^ k) y 2)
bit_kept m n k h false = let e : m + 0 ≡ m = omega arith in ap (λ (x : ℕ). bit x k) e

module _ (f : ℕ → Bool) where
  pub mask_of_below : (n : ℕ) → mask_of f n < 2 ^ n
  unfolding mask_of
  mask_of_below zero = omega arith
  mask_of_below (suc n) = go (f n) (mask_of_below n)
    where
      go : (b : Bool) → mask_of f n < 2 ^ n → mask_of f n + cond b (2 ^ n) 0 < 2 ^ suc n
      go true h = omega (arith, pow-suc 2 n)
      go false h = omega (arith, pow-suc 2 n)

  pub bit_mask_of : (n k : ℕ) → k < n → bit (mask_of f n) k ≡ f k
  unfolding mask_of
  bit_mask_of zero k h = absurd (not-suc-le-zero h)
  bit_mask_of (suc n) k h = go (ltb k n) refl (bit_mask_of n k)
    where
      go : (b : Bool) → ltb k n ≡ b → (k < n → bit (mask_of f n) k ≡ f k) → bit (mask_of f (suc n)) k ≡ f k
      go true e rest = bit_kept (mask_of f n) n k (ltb-true k n e) (f n) ∙ rest (ltb-true k n e)
      go false e rest =
          let q : k ≡ n = omega (arith, ltb-false k n e) in
          ap (bit (mask_of f (suc n))) q ∙ bit_added (mask_of f n) n (mask_of_below n) (f n) ∙ ap f (sym q)

-- ---- an item that set-up does not refuse
no_test : (a b c : Bool) → ◌≡◌ {A = ℕ} (cond a 3 (cond (b || c) 4 0)) 0 → (a ≡ false) × (b ≡ false) × (c ≡ false)
no_test true b c e = absurd (omega arith)
no_test false true c e = absurd (omega arith)
no_test false false true e = absurd (omega arith)
no_test false false false e = (refl, refl, refl)

module _ (sites : ℕ) (x : Item) (z : item_number sites x ≡ 0) where
  tests : (leb sites x.primary ≡ false) × (names_missing sites x.mask ≡ false) × (bit x.mask x.primary ≡ false)
  unfolding item_number
  tests = no_test (leb sites x.primary) (names_missing sites x.mask) (bit x.mask x.primary) z

  -- its primary is a site
  pub item_primary_site : x.primary < sites
  item_primary_site = omega (arith, leb-false sites x.primary tests.0)

  -- so is each site of its copies
  pub item_copy_site : (k : ℕ) → bit x.mask k ≡ true → k < sites
  item_copy_site k b =
      let none : x.mask / 2 ^ sites < 1 = omega (arith, ltb-false 0 (x.mask / 2 ^ sites) tests.1) in
      let small : x.mask < 1 * 2 ^ sites = (div-lt_iff_lt-mul {k = 2 ^ sites} {x = x.mask} {y = 1} (pow_pos sites)).0 none in
      let far : sites ≤ k → ⊥ = λ h. omega (arith, bit_weight x.mask k b, pow_mono {i = sites} {j = k} h) in
      omega arith

-- ---- a placement that set-up does not refuse
no_number : (n r : ℕ) → cond (eqb n 0) r n ≡ 0 → (n ≡ 0) × (r ≡ 0)
no_number n r = go (eqb n 0) refl
  where
    go : (b : Bool) → eqb n 0 ≡ b → cond b r n ≡ 0 → (n ≡ 0) × (r ≡ 0)
    go true t e = (eqb-true n 0 t, e)
    go false t e = absurd (eqb-false n 0 t e)

pub items_number_zero : (sites : ℕ) (xs : List Item) (i : ℕ) → items_number sites xs ≡ 0 → i < length xs → item_number sites (get_or xs i no_item) ≡ 0
items_number_zero sites [] i e h = absurd (not-suc-le-zero h)
items_number_zero sites (x ∷ xs) zero e h = (no_number (item_number sites x) (items_number sites xs) e).0
items_number_zero sites (x ∷ xs) (suc i) e h = items_number_zero sites xs i (no_number (item_number sites x) (items_number sites xs) e).1 (omega arith)

-- both ends of a line are sites
pub line_sites : (sites : ℕ) (xs : List Item) (p c : ℕ) → items_number sites xs ≡ 0 → is_line xs p c ≡ true → (p < sites) × (c < sites)
unfolding is_line
line_sites sites xs p c z e =
    let s = some_index (gives_line p c) xs no_item e in
    let x = get_or xs s.0 no_item in
    let t = and_true (eqb x.primary p) (copied c x) s.2 in
    let sound = items_number_zero sites xs s.0 z s.1 in
    let own : x.primary ≡ p = eqb-true x.primary p t.0 in
    (omega (arith, item_primary_site sites x sound), item_copy_site sites x sound c t.1)
