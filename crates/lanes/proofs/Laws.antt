-- Laws of bytes: the first of them, one of them, a number built of them, and sums and tests of all of them at once.
use mathlib.Core.Path.{◌≡◌, refl, sym, ap, ap₂, ◌∙◌}
use mathlib.Core.Bool.{Bool, true, false, ◌&&◌}
use mathlib.Core.List.{List, [], ◌∷◌, map}
use Prim.Native.Nat.{ℕ, zero, suc, ◌+◌, ◌*◌, ◌-◌, ◌/◌, ◌%◌, ◌^◌, ◌≤◌, ◌<◌}
use native.Mathlib.Omega.{arith}
use lib.ListN.{length, get_or, take}
use lib.Bits.{bit_and, and_block, and_mask, and_high, and_le_r, and_zero_r}
use lib.Pow.{shr-shr, split}
use lib.Dec.{eqb, ltb}
use borrow.Author.Tests.{lt-ltb, le-ltb, ltb-true, ltb-false, eq-eqb, ne_eqb, eqb-true, eqb-false}
use Rattle.lists.specs.Lists.{every}
use Rattle.lists.proofs.Lists.{map_take}
use Rattle.lists.proofs.Every.{and_true}
use Rattle.lanes.specs.Lanes.{bytes, each}

-- ---- the list of bytes
pub bytes_length : (n x : ℕ) → length (bytes n x) ≡ n
unfolding bytes
bytes_length zero x = refl
bytes_length (suc n) x = ap suc (bytes_length n (x / 256))

pub bytes_take : (n m x : ℕ) → n ≤ m → take n (bytes m x) ≡ bytes n x
unfolding bytes
bytes_take zero m x h = refl
bytes_take (suc n) zero x h = absurd (omega arith)
bytes_take (suc n) (suc m) x h = ap (λ (l : List ℕ). x % 256 ∷ l) (bytes_take n m (x / 256) (omega arith))

pub byte_at : (n x i : ℕ) → i < n → x / 2 ^ (8 * i) % 256 ≡ get_or (bytes n x) i 0
unfolding bytes
byte_at zero x i h = elim h [ ]
byte_at (suc n) x zero h = ap (λ (y : ℕ). y % 256) (omega arith)
byte_at (suc n) x (suc i) h =
    let at : 8 * suc i ≡ 8 + 8 * i = omega arith in
    ap (λ (y : ℕ). y % 256) (ap (λ (k : ℕ). x / 2 ^ k) at ∙ sym (shr-shr x 8 (8 * i))) ∙ byte_at n (x / 256) i (omega arith)

-- a number built of a byte and the bytes above it
pub bytes_built : (n c r : ℕ) → c < 256 → bytes (suc n) (c + 256 * r) ≡ c ∷ bytes n r
unfolding bytes
bytes_built n c r h =
    let low : (c + 256 * r) % 256 ≡ c = omega arith in
    let high : (c + 256 * r) / 256 ≡ r = omega arith in
    ap₂ (λ (a b : ℕ). a ∷ bytes n b) low high

-- n bytes of a number built of them, the first at place k
abbrev built : (ℕ → ℕ) → ℕ → ℕ → ℕ
built c k zero = 0
built c k (suc n) = c k + 256 * built c (suc k) n

built_at : (c : ℕ → ℕ) → ((j : ℕ) → c j < 256) → (k n i : ℕ) → i < n → get_or (bytes n (built c k n)) i 0 ≡ c (k + i)
built_at c h k zero i l = absurd (omega arith)
built_at c h k (suc n) zero l = ap (λ (x : List ℕ). get_or x 0 0) (bytes_built n (c k) (built c (suc k) n) (h k)) ∙ ap c (omega arith)
built_at c h k (suc n) (suc i) l = ap (λ (x : List ℕ). get_or x (suc i) 0) (bytes_built n (c k) (built c (suc k) n) (h k)) ∙ built_at c h (suc k) n i (omega arith) ∙ ap c (omega arith)

-- eight bytes built of two numbers of four
pub bytes_of_two : (c : ℕ → ℕ) → ((j : ℕ) → c j < 256) → (low high : ℕ) → low ≡ c 0 + 256 * (c 1 + 256 * (c 2 + 256 * c 3)) → high ≡ c 4 + 256 * (c 5 + 256 * (c 6 + 256 * c 7))
    → (i : ℕ) → i < 8 → get_or (bytes 8 (low + high * 4294967296)) i 0 ≡ c i
bytes_of_two c h low high l g i few =
    let is : low + high * 4294967296 ≡ built c 0 8 = omega arith in
    ap (λ (x : ℕ). get_or (bytes 8 x) i 0) is ∙ built_at c h 0 8 i few ∙ ap c (omega arith)

-- ---- all bytes at once
-- the bits that two numbers share, byte by byte
and_bytes : (x b r : ℕ) → b < 256 → bit_and x (b + 256 * r) ≡ bit_and (x % 256) b + 256 * bit_and (x / 256) r
and_bytes x b r h =
    let turned : b + 256 * r ≡ r * 2 ^ 8 + b = omega arith in
    ap₂ bit_and (sym (split x 8)) turned ∙ and_block 8 (x / 256) r (x % 256) b (omega arith) h ∙ omega arith

-- the top bit of a byte
top_bit : (b : ℕ) → b < 256 → eqb (bit_and b 128) 0 ≡ ltb b 128
top_bit b h = go (ltb b 128) refl
  where
    is : bit_and b 128 ≡ b / 128 % 2 * 128
    is = and_high b 1 7

    go : (t : Bool) → ltb b 128 ≡ t → eqb (bit_and b 128) 0 ≡ t
    go true e = eq-eqb (bit_and b 128) 0 (omega (arith, is, ltb-true b 128 e))
    go false e =
        let one : b / 128 ≡ 1 = omega (arith, ltb-false b 128 e) in
        ne_eqb (bit_and b 128) 0 (λ z. omega (arith, is ∙ ap (λ (q : ℕ). q % 2 * 128) one))

none_of_two : (a b : ℕ) → eqb (a + 256 * b) 0 ≡ (eqb a 0 && eqb b 0)
none_of_two a b = go (eqb a 0) refl (eqb b 0) refl
  where
    go : (s : Bool) → eqb a 0 ≡ s → (t : Bool) → eqb b 0 ≡ t → eqb (a + 256 * b) 0 ≡ (s && t)
    go true d true e = eq-eqb (a + 256 * b) 0 (omega (arith, eqb-true a 0 d, eqb-true b 0 e))
    go true d false e = ne_eqb (a + 256 * b) 0 (λ z. eqb-false b 0 e (omega arith))
    go false d t e = ne_eqb (a + 256 * b) 0 (λ z. eqb-false a 0 d (omega arith))

-- no byte has its top bit
pub below_128 : (n x : ℕ) → eqb (bit_and x (each 128 n)) 0 ≡ every (λ b. ltb b 128) (bytes n x)
unfolding bytes
below_128 zero x = ap (λ (y : ℕ). eqb y 0) (and_zero_r x)
below_128 (suc n) x =
    let b = x % 256 in
    ap (λ (y : ℕ). eqb y 0) (and_bytes x 128 (each 128 n) (omega arith))
    ∙ none_of_two (bit_and b 128) (bit_and (x / 256) (each 128 n))
    ∙ ap₂ (λ (s t : Bool). s && t) (top_bit b (omega arith)) (below_128 n (x / 256))

-- the same number added to each byte without its top bit
pub bytes_raised : (n k x : ℕ) → k ≤ 128 → bytes n (bit_and x (each 127 n) + each k n) ≡ map (λ b. b % 128 + k) (bytes n x)
unfolding bytes
bytes_raised zero k x h = refl
bytes_raised (suc n) k x h =
    let b = x % 256 in
    let low : bit_and b 127 ≡ b % 128 = and_mask b 7 in
    let rest = bit_and (x / 256) (each 127 n) in
    let is : bit_and x (each 127 (suc n)) + each k (suc n) ≡ (b % 128 + k) + 256 * (rest + each k n) = omega (arith, and_bytes x 127 (each 127 n) (omega arith), low) in
    ap (bytes (suc n)) is ∙ bytes_built n (b % 128 + k) (rest + each k n) (omega arith) ∙ ap (λ (l : List ℕ). (b % 128 + k) ∷ l) (bytes_raised n k (x / 256) h)

-- ---- eight bytes: those of the first n that are below m, by two tests of them all
-- the number of so many top bits
pub tops : (n : ℕ) → 1 ≤ n → n ≤ 8 → each 128 8 / 2 ^ (64 - 8 * n) ≡ each 128 n
tops zero a b = absurd (omega arith)
tops (suc zero) a b = refl
tops (suc (suc zero)) a b = refl
tops (suc (suc (suc zero))) a b = refl
tops (suc (suc (suc (suc zero)))) a b = refl
tops (suc (suc (suc (suc (suc zero))))) a b = refl
tops (suc (suc (suc (suc (suc (suc zero)))))) a b = refl
tops (suc (suc (suc (suc (suc (suc (suc zero))))))) a b = refl
tops (suc (suc (suc (suc (suc (suc (suc (suc zero)))))))) a b = refl
tops (suc (suc (suc (suc (suc (suc (suc (suc (suc n))))))))) a b = absurd (omega arith)

-- a number times the one of all bytes 1
pub each_times : (k : ℕ) → k * 72340172838076673 ≡ each k 8
each_times k = omega arith

module _ (x k : ℕ) (h : k ≤ 128) where
  abbrev pub raised : ℕ
  raised = bit_and x (each 127 8) + each k 8

  pub raised_fits : raised < 2 ^ 64
  raised_fits = omega (arith, and_le_r x (each 127 8))

  -- of bytes without top bits, those raised have none exactly where each was that much below 128
  below_raised : (bs : List ℕ) → every (λ b. ltb b 128) bs ≡ true → every (λ b. ltb b 128) (map (λ b. b % 128 + k) bs) ≡ every (λ b. ltb b (128 - k)) bs
  below_raised [] e = refl
  below_raised (b ∷ bs) e =
      let q = and_true (ltb b 128) (every (λ b. ltb b 128) bs) e in
      ap₂ (λ (s t : Bool). s && t) (go (ltb-true b 128 q.0) (ltb b (128 - k)) refl) (below_raised bs q.1)
    where
      go : b < 128 → (t : Bool) → ltb b (128 - k) ≡ t → ltb (b % 128 + k) 128 ≡ t
      go l true f = lt-ltb (b % 128 + k) 128 (omega (arith, ltb-true b (128 - k) f))
      go l false f = le-ltb (b % 128 + k) 128 (omega (arith, ltb-false b (128 - k) f))

  module _ (n : ℕ) (few : n ≤ 8) (e : every (λ b. ltb b 128) (bytes n x) ≡ true) where
    pub below_least : eqb (bit_and raised (each 128 n)) 0 ≡ every (λ b. ltb b (128 - k)) (bytes n x)
    below_least =
        below_128 n raised
        ∙ ap (every (λ b. ltb b 128)) (sym (bytes_take n 8 raised few) ∙ ap (take n) (bytes_raised 8 k x h) ∙ sym (map_take (λ b. b % 128 + k) n (bytes 8 x)) ∙ ap (map (λ b. b % 128 + k)) (bytes_take n 8 x few))
        ∙ below_raised (bytes n x) e
