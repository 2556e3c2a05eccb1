-- Bytes written one after another.
use mathlib.Core.Path.{◌≡◌, refl, sym, ap, ap₂, ◌∙◌}
use mathlib.Core.List.{List, [], ◌∷◌, ◌++◌, append_assoc, append-nil}
use Prim.Native.Nat.{ℕ, suc, ◌+◌, ◌-◌, ◌*◌, ◌≤◌, ◌<◌}
use native.Mathlib.Omega.{arith}
use native.Mathlib.Numerals.{add-one}
use native.Mathlib.Nat.{zero-mul, suc-mul, mul-le-mul_right}
use lib.IntN.{ℤ}
use lib.ListN.{length, get_or, take, drop, length-append, length-drop, drop_of_length-le}
use lib.Seq.{take_at, drop_at, drop-drop, take-suc, take_all, length-take-le}
use Rattle.words.specs.Words.{put}
use mir.Val.{to_z, of_z}
use mir.ValLaws.{of_z-to_z}
use mir.Syntax.{w32}
use Rattle.words.proofs.Parts.{lent_length}
use Rattle.words.proofs.Chunks.{mul_room}
use Rattle.timestamp_order.specs.Timestamp.{Pair}
use Rattle.site_operations.specs.Operations.{Op}
use Rattle.site_operations.specs.InWords.{op_in, ops_in}
use Rattle.site_operations.proofs.Laws.{op_word, ops_at}
use Rattle.records.specs.Records.{Record}
use Rattle.history_file.specs.Bytes.{value_size, value_bytes, unit_size, unit, joined}
use Rattle.history_file.specs.File.{pair_bytes, op_bytes, record_bytes}

-- n bytes behind those that are written
pub put_next : (d pre ys w : List ℕ) (at n m : ℕ) → w ≡ pre ++ drop at d → length pre ≡ at → m ≡ n → put w at m ys ≡ (pre ++ ys) ++ drop (at + n) d
put_next d pre ys w at n m e size same =
    ap₂ (λ (x : List ℕ) (k : ℕ). put x at k ys) e same
    ∙ ap₂ (λ (x y : List ℕ). x ++ (ys ++ drop n y)) (take_at pre (drop at d) at size) (drop_at pre (drop at d) at size)
    ∙ ap (λ (x : List ℕ). pre ++ (ys ++ x)) (drop-drop n at d)
    ∙ sym (append_assoc pre ys (drop (at + n) d))

-- m bytes in front, and n behind them that fill the rest
module _ (b u : List ℕ) (m n k : ℕ) (long : length b ≡ m + n) (us : length u ≡ m) (ks : k ≡ m) where
  front_is : put b 0 k u ≡ u ++ drop m b
  front_is = ap (λ (x : ℕ). u ++ drop x b) ks

  pub front_length : length (put b 0 k u) ≡ length b
  front_length = ap length front_is ∙ length-append u (drop m b) ∙ (let e : length u + length (drop m b) ≡ length b = omega (arith, length-drop m b) in e)

  pub both_written : (v : List ℕ) → put (put b 0 k u) m (m + n - m) v ≡ u ++ v
  both_written v =
      put_next b u v (put b 0 k u) m n (m + n - m) front_is us (omega arith)
      ∙ ap (λ (x : List ℕ). (u ++ v) ++ x) (drop_of_length-le b {i = m + n} (omega arith))
      ∙ append-nil (u ++ v)

-- ---- joined
module _ {A : Type 0} (f : A → List ℕ) where
  pub joined_append : (xs ys : List A) → joined f (xs ++ ys) ≡ joined f xs ++ joined f ys
  joined_append [] ys = refl
  joined_append (x ∷ xs) ys = ap (λ (l : List ℕ). f x ++ l) (joined_append xs ys) ∙ sym (append_assoc (f x) (joined f xs) (joined f ys))

  -- one more at the end
  pub joined_next : (xs : List A) (i : ℕ) (d : A) → i < length xs → joined f (take (i + 1) xs) ≡ joined f (take i xs) ++ f (get_or xs i d)
  joined_next xs i d h =
      ap (λ (k : ℕ). joined f (take k xs)) (add-one i)
      ∙ ap (joined f) (take-suc xs i d h)
      ∙ joined_append (take i xs) (get_or xs i d ∷ [])
      ∙ ap (λ (l : List ℕ). joined f (take i xs) ++ l) (append-nil (f (get_or xs i d)))

  pub joined_all : (xs : List A) (i : ℕ) → length xs ≤ i → joined f (take i xs) ≡ joined f xs
  joined_all xs i h = ap (joined f) (take_all i xs h)

  -- each of the same size
  module _ (n : ℕ) (size : (x : A) → length (f x) ≡ n) where
    pub joined_length : (xs : List A) → length (joined f xs) ≡ length xs * n
    joined_length [] = sym (zero-mul n)
    joined_length (x ∷ xs) = length-append (f x) (joined f xs) ∙ (let e : length (f x) + length (joined f xs) ≡ suc (length xs) * n = ap₂ (λ (a b : ℕ). a + b) (size x) (joined_length xs) ∙ (let g : n + length xs * n ≡ suc (length xs) * n = simp suc-mul (omega arith) in g) in e)

-- ---- n bytes each, one after another
module _ {A : Type 0} (f : A → List ℕ) (n : ℕ) (size : (x : A) → length (f x) ≡ n) (d : A) (xs : List A) (b : List ℕ) (long : length b ≡ length xs * n) where
  abbrev pub units : ℕ → List ℕ
  units i = joined f (take i xs) ++ drop (i * n) b

  pub units_next : (i : ℕ) → i < length xs → (w ys : List ℕ) → w ≡ units i → ys ≡ f (get_or xs i d) → put w (i * n) (i * n + n - i * n) ys ≡ units (i + 1)
  units_next i h w ys e is =
      let wide : length (joined f (take i xs)) ≡ i * n
      = joined_length f n size (take i xs) ∙ ap (λ (k : ℕ). k * n) (length-take-le i xs (omega arith)) in
      let same : i * n + n - i * n ≡ n = omega arith in
      let next : i * n + n ≡ (i + 1) * n = omega arith in
      put_next b (joined f (take i xs)) ys w (i * n) n (i * n + n - i * n) e wide same
      ∙ ap₂ (λ (x : List ℕ) (k : ℕ). x ++ drop k b) (ap (λ (y : List ℕ). joined f (take i xs) ++ y) is ∙ sym (joined_next f xs i d h)) next

  pub units_length : (i : ℕ) → i < length xs → (w ys : List ℕ) → length w ≡ length b → ys ≡ f (get_or xs i d) → length (put w (i * n) (i * n + n - i * n) ys) ≡ length b
  units_length i h w ys e is = lent_length w (i * n) n ys (omega (arith, mul_room i (length xs) n h)) (ap length is ∙ size (get_or xs i d)) ∙ e

  pub units_all : (i : ℕ) → length xs ≤ i → (w : List ℕ) → w ≡ units i → w ≡ joined f xs
  units_all i h w e =
      e
      ∙ ap₂ (λ (x y : List ℕ). x ++ y) (joined_all f xs i h) (drop_of_length-le b {i = i * n} (omega (arith, mul-le-mul_right n h)))
      ∙ append-nil (joined f xs)

-- ---- values
pub value_size_lem : (v : ℤ) → length (value_bytes v) ≡ value_size
unfolding value_bytes
value_size_lem v = refl

pub values_size : (vs : List ℤ) → length (joined value_bytes vs) ≡ length vs * value_size
values_size vs = joined_length value_bytes value_size value_size_lem vs

-- ---- a record
pub unit_length : (x y z n : ℕ) → length (unit x y z n) ≡ unit_size
unfolding unit
unit_length x y z n = refl

pub pairs_size : (ps : List Pair) → length (joined pair_bytes ps) ≡ length ps * unit_size
pairs_size ps = joined_length pair_bytes unit_size (λ (p : Pair). unit_length p.site 0 0 p.count) ps

pub pair_size_lem : (p : Pair) → length (pair_bytes p) ≡ unit_size
pair_size_lem p = unit_length p.site 0 0 p.count

pub op_size_lem : (o : Op) → length (op_bytes o) ≡ unit_size
op_size_lem o = unit_length o.kind o.item 0 _

pub ops_size_lem : (os : List Op) → length (joined op_bytes os) ≡ length os * unit_size
ops_size_lem os = joined_length op_bytes unit_size op_size_lem os

pub record_size_lem : (r : Record) → length (record_bytes r) ≡ unit_size + unit_size * length r.stamp.tuples + unit_size * length r.ops
unfolding record_bytes
record_size_lem r =
    length-append (unit r.site (length r.stamp.tuples) (length r.ops) r.stamp.epoch) (joined pair_bytes r.stamp.tuples ++ joined op_bytes r.ops)
    ∙ (let e : length (unit r.site (length r.stamp.tuples) (length r.ops) r.stamp.epoch) + length (joined pair_bytes r.stamp.tuples ++ joined op_bytes r.ops) ≡ unit_size + unit_size * length r.stamp.tuples + unit_size * length r.ops = omega (arith, unit_length r.site (length r.stamp.tuples) (length r.ops) r.stamp.epoch, length-append (joined pair_bytes r.stamp.tuples) (joined op_bytes r.ops), pairs_size r.stamp.tuples, ops_size_lem r.ops) in e)

-- its head, its tuples and its operations
pub record_parts : (r : Record) → (unit r.site (length r.stamp.tuples) (length r.ops) r.stamp.epoch ++ joined pair_bytes r.stamp.tuples) ++ joined op_bytes r.ops ≡ record_bytes r
unfolding record_bytes
record_parts r = append_assoc (unit r.site (length r.stamp.tuples) (length r.ops) r.stamp.epoch) (joined pair_bytes r.stamp.tuples) (joined op_bytes r.ops)

-- ---- the words of an operation
pub op_written : (n : ℕ) (ops : List ℕ) (i : ℕ) → i < n → (kind item v : ℕ) → kind ≡ get_or ops (3 * i) 0 → item ≡ get_or ops (3 * i + 1) 0 → v ≡ get_or ops (3 * i + 2) 0 → v < 4294967296
    → unit kind item 0 v ≡ op_bytes (get_or (ops_in n ops) i (op_in []))
op_written n ops i h kind item v k j e fits =
    let o = ops_at n ops i h in
    let kind_is : kind ≡ (get_or (ops_in n ops) i (op_in [])).kind = k ∙ op_word ops i (3 * i) 0 (omega arith) (omega arith) ∙ sym (ap (λ (x : Op). x.kind) o) in
    let item_is : item ≡ (get_or (ops_in n ops) i (op_in [])).item = j ∙ op_word ops i (3 * i + 1) 1 refl (omega arith) ∙ sym (ap (λ (x : Op). x.item) o) in
    let value_is : to_z w32 v ≡ (get_or (ops_in n ops) i (op_in [])).value = ap (to_z w32) (e ∙ op_word ops i (3 * i + 2) 2 refl (omega arith)) ∙ sym (ap (λ (x : Op). x.value) o) in
    let word-is : v ≡ of_z w32 (get_or (ops_in n ops) i (op_in [])).value = sym (of_z-to_z w32 v (record { fits = fits })) ∙ ap (of_z w32) value_is in
    λ t. unit (kind_is t) (item_is t) 0 (word-is t)
