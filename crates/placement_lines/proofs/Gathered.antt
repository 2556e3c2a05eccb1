-- Masks built by `|`: the bits of two masks together, a mask by its bits, and a walk over a list that gathers what each element names.
use mathlib.Core.Path.{◌≡◌, refl, sym, ap, ◌∙◌}
use mathlib.Core.Bool.{Bool, true, false, cond, ◌||◌, or-false}
use mathlib.Core.List.{List}
use Prim.Native.Nat.{ℕ, zero, suc, ◌+◌, ◌*◌, ◌/◌, ◌%◌, ◌^◌, ◌≤◌, ◌<◌}
use native.Mathlib.Omega.{arith}
use native.Mathlib.Numerals.{add-one}
use native.Mathlib.Nat.{mod-one, mod-lt}
use lib.Bits.{bit_or, or_shr, or_mod, or_zero_l}
use lib.Pow.{mod-pow-add}
use lib.ListN.{length, get_or, drop, drop_of_length-le}
use lib.Seq.{drop-cons}
use lib.Dec.{eqb}
use Rattle.lists.specs.Lists.{any}
use Rattle.placement.specs.Masks.{bit, mask_of, Names}
use Rattle.placement.specs.Placement.{Item, no_item}
use Rattle.placement.specs.InWords.{item_at, items_in}
use Rattle.placement.proofs.Items.{items_length, items_at_lem}
use Rattle.placement_item.proofs.Bits.{bit_none}

-- ---- the bits of two masks together
one_of : (i j : ℕ) → i < 2 → j < 2 → eqb (bit_or i j) 1 ≡ (eqb i 1 || eqb j 1)
one_of zero j h g = ap (λ (x : ℕ). eqb x 1) (or_zero_l j)
one_of (suc zero) zero h g = refl
one_of (suc zero) (suc zero) h g = refl
one_of (suc zero) (suc (suc j)) h g = absurd (omega arith)
one_of (suc (suc i)) j h g = absurd (omega arith)

pub bit_or_lem : (a b k : ℕ) → bit (bit_or a b) k ≡ (bit a k || bit b k)
bit_or_lem a b k =
    let x = a / 2 ^ k in
    let y = b / 2 ^ k in
    ap (λ (z : ℕ). eqb (z % 2) 1) (or_shr a b k)
    ∙ ap (λ (z : ℕ). eqb z 1) (or_mod x y 1)
    ∙ one_of (x % 2) (y % 2) (mod-lt x {m = 2} (omega arith)) (mod-lt y {m = 2} (omega arith))

-- ---- a mask is that of its bits
weight : (r k : ℕ) → r < 2 → r * 2 ^ k ≡ cond (eqb r 1) (2 ^ k) 0
weight zero k h = omega arith
weight (suc zero) k h = omega arith
weight (suc (suc r)) k h = absurd (omega arith)

pub mask_of_bits : (m n : ℕ) → m % 2 ^ n ≡ mask_of (bit m) n
unfolding mask_of
mask_of_bits m zero = mod-one m
mask_of_bits m (suc n) =
    let e : suc n ≡ 1 + n = omega arith in
    ap (λ (k : ℕ). m % 2 ^ k) e ∙ mod-pow-add m 1 n ∙ omega (arith, weight (m / 2 ^ n % 2) n (mod-lt (m / 2 ^ n) {m = 2} (omega arith)), mask_of_bits m n)

pub mask_same : (f g : ℕ → Bool) (n : ℕ) → ((k : ℕ) → k < n → f k ≡ g k) → mask_of f n ≡ mask_of g n
unfolding mask_of
mask_same f g zero h = refl
mask_same f g (suc n) h = rw (h n (omega arith), mask_same f g n (λ k b. h k (omega arith)))

-- ---- a walk over a list: m has the bits of the elements before k
or_assoc : (a b c : Bool) → (a || (b || c)) ≡ ((a || b) || c)
or_assoc true b c = refl
or_assoc false b c = refl

-- a number below `most` passes a test of some element exactly where m names it or it passes that of an element from k on
abbrev pub Gathered : {A : Type 0} → ℕ → (ℕ → A → Bool) → List A → ℕ → ℕ → Type 0
Gathered most test xs m k = (c : ℕ) → c < most → any (test c) xs ≡ (bit m c || any (test c) (drop k xs))

module _ {A : Type 0} (most : ℕ) (test : ℕ → A → Bool) (xs : List A) where
  pub gather_none : Gathered most test xs 0 0
  gather_none c h = sym (ap (λ (b : Bool). b || any (test c) xs) (bit_none c))

  module _ (m k : ℕ) (before : Gathered most test xs m k) where
    pub gather_next : (d : A) → k < length xs → (r : ℕ) → Names most r (λ c. test c (get_or xs k d)) → Gathered most test xs (bit_or m r) (k + 1)
    gather_next d there r names c h =
        let next = any (test c) (drop (k + 1) xs) in
        let here : any (test c) (drop k xs) ≡ (test c (get_or xs k d) || next) = rw (add-one, drop-cons xs k d there) in
        before c h
        ∙ ap (λ (b : Bool). bit m c || b) (here ∙ ap (λ (b : Bool). b || next) (sym (names c h)))
        ∙ or_assoc (bit m c) (bit r c) next
        ∙ ap (λ (b : Bool). b || next) (sym (bit_or_lem m r c))

    pub gather_done : length xs ≤ k → Names most m (λ c. any (test c) xs)
    gather_done all c h = sym (before c h ∙ ap (λ (ys : List A). bit m c || any (test c) ys) (drop_of_length-le xs {i = k} all) ∙ or-false (bit m c))

    pub gather_mask : length xs ≤ k → m % 2 ^ most ≡ mask_of (λ c. any (test c) xs) most
    gather_mask all = mask_of_bits m most ∙ mask_same (bit m) (λ c. any (test c) xs) most (gather_done all)

-- the same over items in words
module _ (most : ℕ) (test : ℕ → Item → Bool) (n : ℕ) (w : List ℕ) (m k : ℕ) (before : Gathered most test (items_in n w) m k) where
  pub items_next : k < n → (r : ℕ) → Names most r (λ c. test c (item_at w k)) → Gathered most test (items_in n w) (bit_or m r) (k + 1)
  items_next few r names = gather_next most test (items_in n w) m k before no_item (omega (arith, items_length n w)) r (λ c h. names c h ∙ ap (test c) (sym (items_at_lem n w k few)))

  pub items_done : n ≤ k → Names most m (λ c. any (test c) (items_in n w))
  items_done all = gather_done most test (items_in n w) m k before (omega (arith, items_length n w))

  pub items_mask : n ≤ k → m % 2 ^ most ≡ mask_of (λ c. any (test c) (items_in n w)) most
  items_mask all = gather_mask most test (items_in n w) m k before (omega (arith, items_length n w))
