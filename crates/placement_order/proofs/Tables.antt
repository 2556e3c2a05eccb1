-- The bits of all lines by rows: the rows one upon another, and one row taken away.
use mathlib.Core.Path.{◌≡◌, refl, sym, ap, ◌∙◌}
use mathlib.Core.Bool.{Bool, true, false, not, ◌&&◌, ◌||◌, and-true, or-false, or_comm, or_assoc}
use Prim.Native.Nat.{ℕ, zero, suc, ◌+◌, ◌*◌, ◌/◌, ◌%◌, ◌^◌, ◌<◌}
use native.Mathlib.Omega.{arith}
use native.Mathlib.Nat.{mod-lt}
use lib.Bits.{bit_and, bit_or, bit_xor, and_shr, and_mod, xor_shr, xor_mod}
use lib.Dec.{eqb}
use lib.Pow.{shr-shr}
use Rattle.limits.specs.Limits.{sites_most}
use Rattle.lists.specs.Lists.{some_below}
use Rattle.lists.proofs.Some.{some_below_same, none_below}
use Rattle.lists.proofs.Numbers.{flip_false}
use Rattle.placement.specs.Masks.{bit, Names}
use Rattle.placement.specs.Placement.{Item}
use Rattle.placement.proofs.Laws.{low_bit}
use Rattle.placement_item.proofs.LineBits.{lines_given}
use Rattle.placement_lines.proofs.Gathered.{bit_or_lem}
use Rattle.placement_order.specs.Tables.{line_in, is_reached, Without}

-- ---- a test of some numbers, taken of two at a time
some_append : (g : ℕ → Bool) (n m : ℕ) → some_below g (n + m) ≡ (some_below (λ p. g (n + p)) m || some_below g n)
some_append g n zero = let e : n + 0 ≡ n = omega arith in ap (some_below g) e
some_append g n (suc m) =
    let e : n + suc m ≡ suc (n + m) = omega arith in
    ap (some_below g) e
    ∙ ap (λ (b : Bool). g (n + m) || b) (some_append g n m)
    ∙ sym (or_assoc (g (n + m)) (some_below (λ p. g (n + p)) m) (some_below g n))

some_either : (f g : ℕ → Bool) (n : ℕ) → some_below (λ p. f p || g p) n ≡ (some_below f n || some_below g n)
some_either f g zero = refl
some_either f g (suc n) = ap (λ (b : Bool). f n || g n || b) (some_either f g n) ∙ cross (f n) (g n) (some_below f n) (some_below g n)
  where
    cross : (a b c d : Bool) → (a || b || (c || d)) ≡ (a || c || (b || d))
    cross true b c d = refl
    cross false true true d = refl
    cross false true false d = refl
    cross false false c d = refl

some_paired : (g : ℕ → Bool) (n : ℕ) → some_below (λ p. g p || g (n + p)) n ≡ some_below g (n + n)
some_paired g n = some_either g (λ p. g (n + p)) n ∙ or_comm (some_below g n) (some_below (λ p. g (n + p)) n) ∙ sym (some_append g n n)

-- ---- of 2 n rows n, each upon another
module _ (c : ℕ) where
  in_rows : ℕ → ℕ → Bool
  in_rows m n = some_below (λ p. line_in m p c) n

  rows_paired : (m n s : ℕ) → s ≡ sites_most * n → in_rows (bit_or m (m / 2 ^ s)) n ≡ in_rows m (n + n)
  unfolding in_rows
  rows_paired m n s e =
      some_below_same (λ p. line_in (bit_or m (m / 2 ^ s)) p c) (λ p. line_in m p c || line_in m (n + p) c) n
      (λ p h.
      let k = sites_most * p + c in
      let far : s + k ≡ sites_most * (n + p) + c = omega arith in
      bit_or_lem m (m / 2 ^ s) k ∙ ap (λ (b : Bool). bit m k || b) (ap (λ (x : ℕ). eqb (x % 2) 1) (shr-shr m s k) ∙ ap (bit m) far))
      ∙ some_paired (λ p. line_in m p c) n

abbrev pub upon : ℕ → ℕ → ℕ
upon m s = bit_or m (m / 2 ^ s)

pub rows_upon : (m : ℕ) → Names sites_most (upon (upon (upon m 32) 16) 8 % 2 ^ sites_most) (is_reached m)
unfolding in_rows
rows_upon m c h =
    let four = upon m 32 in
    let two = upon four 16 in
    let one = upon two 8 in
    let own : c ≡ sites_most * 0 + c = omega arith in
    ap (λ (x : ℕ). eqb x 1) (low_bit one sites_most c h)
    ∙ ap (bit one) own
    ∙ sym (or-false (line_in one 0 c))
    ∙ rows_paired c two 1 8 refl
    ∙ rows_paired c four 2 16 refl
    ∙ rows_paired c m 4 32 refl

-- ---- a mask without the bits of another
dropped : (i j : ℕ) → i < 2 → j < 2 → eqb (bit_xor i (bit_and i j)) 1 ≡ (eqb i 1 && not (eqb j 1))
dropped zero j h g = refl
dropped (suc zero) zero h g = refl
dropped (suc zero) (suc zero) h g = refl
dropped (suc zero) (suc (suc j)) h g = absurd (omega arith)
dropped (suc (suc i)) j h g = absurd (omega arith)

bit_drop : (a b k : ℕ) → bit (bit_xor a (bit_and a b)) k ≡ (bit a k && not (bit b k))
bit_drop a b k =
    let x = a / 2 ^ k in
    let y = b / 2 ^ k in
    ap (λ (z : ℕ). eqb (z % 2) 1) (xor_shr a (bit_and a b) k ∙ ap (bit_xor x) (and_shr a b k))
    ∙ ap (λ (z : ℕ). eqb z 1) (xor_mod x (bit_and x y) 1 ∙ ap (bit_xor (x % 2)) (and_mod x y 1))
    ∙ dropped (x % 2) (y % 2) (mod-lt x {m = 2} (omega arith)) (mod-lt y {m = 2} (omega arith))

-- ---- a whole row: the lines of an item with copies at all eight sites
abbrev all_sites : ℕ
all_sites = 255

none_missing : some_below (λ k. not (bit all_sites k)) sites_most ≡ false
none_missing = refl

pub row_dropped : (lines c : ℕ) → c < sites_most → Without lines c (bit_xor lines (bit_and lines (all_sites * 2 ^ (sites_most * c) % 2 ^ 64)))
row_dropped lines c site p k h g =
    let x : Item = record { primary = c; mask = all_sites } in
    let row = all_sites * 2 ^ (sites_most * c) % 2 ^ 64 in
    let at = sites_most * p + k in
    let from : at / sites_most ≡ p = omega arith in
    let to : at % sites_most ≡ k = omega arith in
    let full : bit all_sites (at % sites_most) ≡ true = ap (bit all_sites) to ∙ flip_false _ (bit all_sites k) refl (none_below (λ j. not (bit all_sites j)) sites_most k none_missing g) in
    let whole : bit row at ≡ eqb c p
    = lines_given x all_sites site refl at (omega arith) ∙ ap (λ (b : Bool). eqb c (at / sites_most) && b) full ∙ and-true (eqb c (at / sites_most)) ∙ ap (eqb c) from in
    bit_drop lines row at ∙ ap (λ (b : Bool). bit lines at && not b) whole
