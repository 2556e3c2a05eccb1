-- An accepted file is the one that its history is written as: so no other has the same history.
use mathlib.Core.Path.{◌≡◌, refl, sym, ap, ap₂, subst, ◌∙◌}
use mathlib.Core.Bool.{Bool, true, false, not, ◌&&◌}
use mathlib.Core.List.{List, [], ◌∷◌, ◌++◌, map, append_assoc, append-nil}
use Prim.Native.Nat.{ℕ, zero, suc, ◌+◌, ◌-◌, ◌*◌, ◌/◌, ◌%◌, ◌≤◌, ◌<◌}
use native.Mathlib.Omega.{arith}
use native.Mathlib.Nat.{zero-mul, suc-mul}
use lib.ListN.{length, get_or, take, drop, length-map, length-drop, take-append-drop, drop_of_length-le}
use lib.Seq.{take-add, take_all, drop-drop, length-take-le}
use lib.Dec.{eqb}
use borrow.Author.Tests.{ltb-true, eqb-true, eqb-false}
use mir.ValLaws.{of_z-to_z}
use mir.Syntax.{w32}
use Rattle.words.specs.Words.{part, chunks}
use Rattle.lists.specs.Lists.{every, is_empty}
use Rattle.words.proofs.Parts.{part_length, part_get_d}
use Rattle.words.proofs.Chunks.{chunks_length}
use Rattle.lists.proofs.Every.{and_true, every_take, every_at}
use Rattle.lists.proofs.Numbers.{flip_true}
use Rattle.timestamp_order.specs.Order.{rank}
use Rattle.history_file.specs.Bytes.{is_byte, byte, little, value_size, value_bytes, unit_size, unit, joined, number_at, value_read, padded}
use Rattle.history_file.specs.File.{History, pair_bytes, op_bytes, record_bytes, is_numbers, table_lead, base_lead, lead, table_flag, base_flag, flag, mark, trailer, trailer_size, body, file_of}
use Rattle.history_file.specs.Reading.{pair_read, op_read, tuple_count, op_count, tuple_units, op_units, ops_from, record_read, size_read, record_valid, records_read, records_fill, trailer_at, count_read, distance_read, sites_read, items_read, flag_read, has_table, has_base, start_read, table_size, base_size, lead_size, places_read, base_read, part_read, file_read, holds_each, table_fits, file_number, history_read}
use Rattle.history_file.proofs.Tables.{same_lists, numbers_same}
use Rattle.history_file.proofs.Validity.{valid_parts}
use Rattle.history_file.proofs.Files.{Accepted, accepted, accepts, Good, good_parts, Trailed, trailed, history_of_bytes, history_read_lem, records_length}

-- ---- bytes
module _ (p : ℕ → Bool) where
  pub every_drop : (n : ℕ) (l : List ℕ) → every p l ≡ true → every p (drop n l) ≡ true
  every_drop zero l e = e
  every_drop (suc n) [] e = refl
  every_drop (suc n) (x ∷ l) e = every_drop n l (and_true (p x) (every p l) e).1

abbrev pub Bytes : List ℕ → Type 0
Bytes l = every is_byte l ≡ true

pub bytes_part : (b : List ℕ) (at n : ℕ) → Bytes b → Bytes (part b at n)
bytes_part b at n e = every_take is_byte n (drop at b) (every_drop is_byte at b e)

below : (x : ℕ) (l : List ℕ) → Bytes (x ∷ l) → (x < 256) × Bytes l
below x l e = let q = and_true (is_byte x) (every is_byte l) e in (ltb-true x 256 q.0, q.1)

pub byte_same : (x : ℕ) → x < 256 → byte x ≡ x
byte_same x h = omega arith

bytes_same : (l : List ℕ) → Bytes l → map byte l ≡ l
bytes_same [] e = refl
bytes_same (x ∷ l) e = let q = below x l e in ap₂ {C = List ℕ} (λ y m. y ∷ m) (byte_same x q.0) (bytes_same l q.1)

module _ (p q r s : ℕ) (hp : p < 256) (hq : q < 256) (hr : r < 256) (hs : s < 256) where
  abbrev four : ℕ
  four = p + 256 * (q + 256 * (r + 256 * s))

  four_first : byte four ≡ p
  four_first = omega arith

  four_second : four / 256 ≡ q + 256 * (r + 256 * s)
  four_second = omega arith

  four_third : (q + 256 * (r + 256 * s)) / 256 ≡ r + 256 * s
  four_third = omega arith

  four_fourth : (r + 256 * s) / 256 ≡ s
  four_fourth = omega arith

  pub little_back : little four ≡ p ∷ (q ∷ (r ∷ (s ∷ [])))
  little_back =
      let e : byte (four / 256) ≡ q = ap byte four_second ∙ (let z : byte (q + 256 * (r + 256 * s)) ≡ q = omega arith in z) in
      let f : byte (four / 256 / 256) ≡ r = ap (λ (x : ℕ). byte (x / 256)) four_second ∙ ap byte four_third ∙ (let z : byte (r + 256 * s) ≡ r = omega arith in z) in
      let g : byte (four / 256 / 256 / 256) ≡ s = ap (λ (x : ℕ). byte (x / 256 / 256)) four_second ∙ ap (λ (x : ℕ). byte (x / 256)) four_third ∙ ap byte four_fourth ∙ byte_same s hs in
      λ t. four_first t ∷ (e t ∷ (f t ∷ (g t ∷ [])))

  pub four_small : four < 4294967296
  four_small = omega arith

-- four bytes are those of their number
pub four_back : (u : List ℕ) → length u ≡ 4 → Bytes u → little (number_at u 0) ≡ u
unfolding number_at
four_back [] n e = absurd (omega arith)
four_back (p ∷ []) n e = absurd (omega arith)
four_back (p ∷ (q ∷ [])) n e = absurd (omega arith)
four_back (p ∷ (q ∷ (r ∷ []))) n e = absurd (omega arith)
four_back (p ∷ (q ∷ (r ∷ (s ∷ [])))) n e =
    let a = below p (q ∷ (r ∷ (s ∷ []))) e in
    let b = below q (r ∷ (s ∷ [])) a.1 in
    let c = below r (s ∷ []) b.1 in
    let d = below s [] c.1 in
    little_back p q r s a.0 b.0 c.0 d.0
four_back (p ∷ (q ∷ (r ∷ (s ∷ (x ∷ l))))) n e = absurd (omega arith)

pub number_small : (u : List ℕ) → length u ≡ 4 → Bytes u → number_at u 0 < 4294967296
unfolding number_at
number_small [] n e = absurd (omega arith)
number_small (p ∷ []) n e = absurd (omega arith)
number_small (p ∷ (q ∷ [])) n e = absurd (omega arith)
number_small (p ∷ (q ∷ (r ∷ []))) n e = absurd (omega arith)
number_small (p ∷ (q ∷ (r ∷ (s ∷ [])))) n e =
    let a = below p (q ∷ (r ∷ (s ∷ []))) e in
    let b = below q (r ∷ (s ∷ [])) a.1 in
    let c = below r (s ∷ []) b.1 in
    let d = below s [] c.1 in
    four_small p q r s a.0 b.0 c.0 d.0
number_small (p ∷ (q ∷ (r ∷ (s ∷ (x ∷ l))))) n e = absurd (omega arith)

-- the number in a part
pub number_part : (b : List ℕ) (at n i : ℕ) → i + 4 ≤ n → number_at (part b at n) i ≡ number_at b (at + i)
unfolding number_at
number_part b at n i h =
    let p : get_or (part b at n) i 0 ≡ get_or b (at + i) 0 = part_get_d b at n i (omega arith) in
    let q : get_or (part b at n) (i + 1) 0 ≡ get_or b (at + i + 1) 0 = part_get_d b at n (i + 1) (omega arith) ∙ (let z : at + (i + 1) ≡ at + i + 1 = omega arith in ap (λ (k : ℕ). get_or b k 0) z) in
    let r : get_or (part b at n) (i + 2) 0 ≡ get_or b (at + i + 2) 0 = part_get_d b at n (i + 2) (omega arith) ∙ (let z : at + (i + 2) ≡ at + i + 2 = omega arith in ap (λ (k : ℕ). get_or b k 0) z) in
    let s : get_or (part b at n) (i + 3) 0 ≡ get_or b (at + i + 3) 0 = part_get_d b at n (i + 3) (omega arith) ∙ (let z : at + (i + 3) ≡ at + i + 3 = omega arith in ap (λ (k : ℕ). get_or b k 0) z) in
    λ t. p t + 256 * (q t + 256 * (r t + 256 * s t))

-- the four bytes from a place on
pub part_back : (b : List ℕ) (at : ℕ) → at + 4 ≤ length b → Bytes b → little (number_at b at) ≡ part b at 4
part_back b at h e =
    let z : at + 0 ≡ at = omega arith in
    ap little (sym (number_part b at 4 0 (omega arith) ∙ ap (number_at b) z)) ∙ four_back (part b at 4) (part_length b at 4 h) (bytes_part b at 4 e)

pub part_small : (b : List ℕ) (at : ℕ) → at + 4 ≤ length b → Bytes b → number_at b at < 4294967296
part_small b at h e =
    let z : at + 0 ≡ at = omega arith in
    subst (λ (k : ℕ). k < 4294967296) (number_part b at 4 0 (omega arith) ∙ ap (number_at b) z) (number_small (part b at 4) (part_length b at 4 h) (bytes_part b at 4 e))

-- ---- eight bytes
four_list : (b : List ℕ) → 4 ≤ length b → Bytes b → byte (get_or b 0 0) ∷ (byte (get_or b 1 0) ∷ (byte (get_or b 2 0) ∷ (byte (get_or b 3 0) ∷ []))) ≡ take 4 b
four_list [] n e = absurd (omega arith)
four_list (p ∷ []) n e = absurd (omega arith)
four_list (p ∷ (q ∷ [])) n e = absurd (omega arith)
four_list (p ∷ (q ∷ (r ∷ []))) n e = absurd (omega arith)
four_list (p ∷ (q ∷ (r ∷ (s ∷ l)))) n e =
    let a = below p (q ∷ (r ∷ (s ∷ l))) e in
    let b = below q (r ∷ (s ∷ l)) a.1 in
    let c = below r (s ∷ l) b.1 in
    let d = below s l c.1 in
    let x = byte_same p a.0 in
    let y = byte_same q b.0 in
    let z = byte_same r c.0 in
    let w = byte_same s d.0 in
    λ t. x t ∷ (y t ∷ (z t ∷ (w t ∷ [])))

pub unit_back : (b : List ℕ) → unit_size ≤ length b → Bytes b → get_or b 3 0 ≡ 0 → unit (get_or b 0 0) (get_or b 1 0) (get_or b 2 0) (number_at b 4) ≡ take unit_size b
unfolding unit
unit_back b n e z =
    (λ t. (byte (get_or b 0 0) ∷ (byte (get_or b 1 0) ∷ (byte (get_or b 2 0) ∷ (byte (sym z t) ∷ [])))) ++ little (number_at b 4))
    ∙ ap₂ (λ (x y : List ℕ). x ++ y) (four_list b (omega arith) e) (part_back b 4 (omega arith) e)
    ∙ sym (take-add 4 4 b)

-- a 00 byte
pad_at : (k j : ℕ) (u : List ℕ) → padded k u ≡ true → unit_size ≤ length u → k ≤ j → j < 4 → get_or u j 0 ≡ 0
pad_at k j u e long low high =
    let z : k + (j - k) ≡ j = omega arith in
    let size : length (part u k (4 - k)) ≡ 4 - k = part_length u k (4 - k) (omega arith) in
    sym (part_get_d u k (4 - k) (j - k) (omega arith) ∙ ap (λ (i : ℕ). get_or u i 0) z)
    ∙ eqb-true (get_or (part u k (4 - k)) (j - k) 0) 0 (every_at (λ (x : ℕ). eqb x 0) (part u k (4 - k)) (j - k) 0 e (omega arith))

whole : (u : List ℕ) → length u ≡ unit_size → take unit_size u ≡ u
whole u n = take_all unit_size u (omega arith)

pair_back : (u : List ℕ) → length u ≡ unit_size → Bytes u → padded 1 u ≡ true → pair_bytes (pair_read u) ≡ u
pair_back u n e p =
    let first = pad_at 1 1 u p (omega arith) (omega arith) (omega arith) in
    let second = pad_at 1 2 u p (omega arith) (omega arith) (omega arith) in
    (λ t. unit (get_or u 0 0) (sym first t) (sym second t) (number_at u 4)) ∙ unit_back u (omega arith) e (pad_at 1 3 u p (omega arith) (omega arith) (omega arith)) ∙ whole u n

op_back : (u : List ℕ) → length u ≡ unit_size → Bytes u → padded 2 u ≡ true → op_bytes (op_read u) ≡ u
op_back u n e p =
    let second = pad_at 2 2 u p (omega arith) (omega arith) (omega arith) in
    let value = of_z-to_z w32 (number_at u 4) (record { fits = part_small u 4 (omega arith) e }) in
    (λ t. unit (get_or u 0 0) (get_or u 1 0) (sym second t) (value t)) ∙ unit_back u (omega arith) e (pad_at 2 3 u p (omega arith) (omega arith) (omega arith)) ∙ whole u n

-- ---- as many bytes each, one after another
units_back : {A : Type 0} (size : ℕ) (f : A → List ℕ) (g : List ℕ → A) (good : List ℕ → Bool) → ((u : List ℕ) → length u ≡ size → Bytes u → good u ≡ true → f (g u) ≡ u)
    → (n : ℕ) (b : List ℕ) → n * size ≤ length b → Bytes b → every good (chunks size n b) ≡ true → joined f (map g (chunks size n b)) ≡ take (n * size) b
unfolding chunks
units_back size f g good back zero b h e p = sym (ap (λ (k : ℕ). take k b) (zero-mul size))
units_back size f g good back (suc n) b h e p =
    let q = and_true (good (take size b)) (every good (chunks size n (drop size b))) p in
    let m : size + n * size ≡ suc n * size = simp suc-mul (omega arith) in
    let room : n * size + size ≤ length b = simp suc-mul at h in
    ap₂ (λ (x y : List ℕ). x ++ y)
    (back (take size b) (length-take-le size b (omega arith)) (every_take is_byte size b e) q.0)
    (units_back size f g good back n (drop size b) (omega (arith, length-drop size b)) (every_drop is_byte size b e) q.1)
    ∙ sym (take-add size (n * size) b)
    ∙ ap (λ (k : ℕ). take k b) m

-- values, each in any four bytes
value_back : (u : List ℕ) → length u ≡ value_size → Bytes u → value_bytes (value_read u) ≡ u
unfolding value_bytes
value_back u n e = ap little (of_z-to_z w32 (number_at u 0) (record { fits = number_small u n e })) ∙ four_back u n e

any_bytes : (us : List (List ℕ)) → every (λ u. true) us ≡ true
any_bytes [] = refl
any_bytes (u ∷ us) = any_bytes us

values_back : (n : ℕ) (b : List ℕ) → n * value_size ≤ length b → Bytes b → joined value_bytes (map value_read (chunks value_size n b)) ≡ take (n * value_size) b
values_back n b h e = units_back value_size value_bytes value_read (λ u. true) (λ u s bs t. value_back u s bs) n b h e (any_bytes (chunks value_size n b))

-- ---- a record
module _ (place : ℕ → ℕ) (sites items : ℕ) (b : List ℕ) (v : record_valid place sites items b ≡ true) (e : Bytes b) where
  pub record_back : record_bytes (record_read b) ≡ take (size_read b) b
  unfolding record_bytes record_read size_read
  record_back =
      let parts = valid_parts place sites items b v in
      let h : unit_size + unit_size * tuple_count b + unit_size * op_count b ≤ length b = parts.room in
      let p = and_true (eqb (get_or b 3 0) 0) (every (padded 1) (tuple_units b) && every (padded 2) (op_units b)) parts.pads in
      let q = and_true (every (padded 1) (tuple_units b)) (every (padded 2) (op_units b)) p.1 in
      let t : tuple_count b * unit_size ≡ unit_size * tuple_count b = omega arith in
      let o : op_count b * unit_size ≡ unit_size * op_count b = omega arith in
      let tuples = length-map (tuple_units b) pair_read ∙ chunks_length unit_size (tuple_count b) (drop unit_size b) in
      let ops = length-map (op_units b) op_read ∙ chunks_length unit_size (op_count b) (drop (ops_from b) b) in
      let head = unit_back b (omega arith) e (eqb-true (get_or b 3 0) 0 p.0) in
      let pairs = units_back unit_size pair_bytes pair_read (padded 1) pair_back (tuple_count b) (drop unit_size b) (omega (arith, length-drop unit_size b)) (every_drop is_byte unit_size b e) q.0 ∙ ap (λ (k : ℕ). take k (drop unit_size b)) t in
      let written = units_back unit_size op_bytes op_read (padded 2) op_back (op_count b) (drop (ops_from b) b) (omega (arith, length-drop (ops_from b) b)) (every_drop is_byte (ops_from b) b e) q.1 ∙ ap (λ (k : ℕ). take k (drop (ops_from b) b)) o in
      (λ i. unit (get_or b 0 0) (tuples i) (ops i) (number_at b 4) ++ (pairs i ++ written i))
      ∙ ap (λ (x : List ℕ). x ++ (take (unit_size * tuple_count b) (drop unit_size b) ++ take (unit_size * op_count b) (drop (ops_from b) b))) head
      ∙ sym (append_assoc (take unit_size b) (take (unit_size * tuple_count b) (drop unit_size b)) (take (unit_size * op_count b) (drop (ops_from b) b)))
      ∙ ap (λ (x : List ℕ). x ++ take (unit_size * op_count b) (drop (ops_from b) b)) (sym (take-add unit_size (unit_size * tuple_count b) b))
      ∙ sym (take-add (ops_from b) (unit_size * op_count b) b)

-- ---- all records
nothing : (b : List ℕ) → is_empty b ≡ true → [] ≡ b
nothing [] e = refl
nothing (x ∷ b) e = absurd (let z : ◌≡◌ {A = ℕ} 0 1 = cc in omega arith)

pub records_back : (place : ℕ → ℕ) (sites items n : ℕ) (b : List ℕ) → records_fill place sites items n b ≡ true → Bytes b → joined record_bytes (records_read n b) ≡ b
unfolding records_fill records_read
records_back place sites items zero b f e = nothing b f
records_back place sites items (suc n) b f e =
    let q = and_true (record_valid place sites items b) (records_fill place sites items n (drop (size_read b) b)) f in
    ap₂ (λ (x y : List ℕ). x ++ y) (record_back place sites items b q.0 e) (records_back place sites items n (drop (size_read b) b) q.1 (every_drop is_byte (size_read b) b e))
    ∙ take-append-drop (size_read b) b

-- ---- the trailer
module _ (b : List ℕ) (a : Accepted b) (e : Bytes b) where
  abbrev good : Good b
  good = good_parts b a

  abbrev end : Trailed b
  end = trailed b good.trailer_fits_lem

  last_four : byte (sites_read b) ∷ (byte (items_read b) ∷ (byte (flag_read b) ∷ (0 ∷ []))) ≡ part b (trailer_at b + 12) 4
  last_four =
      let t = trailer_at b in
      let long = a.long in
      let u = part b (t + 12) 4 in
      let n : length u ≡ 4 = part_length b (t + 12) 4 (omega arith) in
      let at : (j k : ℕ) → j < 4 → t + 12 + j ≡ k → get_or b k 0 ≡ get_or u j 0
      = λ j k h q. ap (λ (i : ℕ). get_or b i 0) (sym q) ∙ sym (part_get_d b (t + 12) 4 j h) in
      let p0 : get_or b (t + 12) 0 ≡ get_or u 0 0 = at 0 (t + 12) (omega arith) (omega arith) in
      let p1 : get_or b (t + 13) 0 ≡ get_or u 1 0 = at 1 (t + 13) (omega arith) (omega arith) in
      let p2 : get_or b (t + 14) 0 ≡ get_or u 2 0 = at 2 (t + 14) (omega arith) (omega arith) in
      let p3 : 0 ≡ get_or u 3 0 = sym end.last_zero ∙ at 3 (t + 15) (omega arith) (omega arith) in
      (λ i. byte (p0 i) ∷ (byte (p1 i) ∷ (byte (p2 i) ∷ (byte (p3 i) ∷ []))))
      ∙ four_list u (omega arith) (bytes_part b (t + 12) 4 e)
      ∙ take_all 4 u (omega arith)

  trailer_back : trailer (count_read b) (distance_read b) (sites_read b) (items_read b) (flag_read b) ≡ drop (trailer_at b) b
  unfolding trailer
  trailer_back =
      let t = trailer_at b in
      let long = a.long in
      let done : drop (t + 16) b ≡ [] = drop_of_length-le b {i = t + 16} (omega arith) in
      let cut : (i j : ℕ) → t + i + 4 ≡ t + j → part b (t + i) 4 ++ drop (t + j) b ≡ drop (t + i) b
      = λ i j q. ap (λ (x : List ℕ). part b (t + i) 4 ++ x) (sym (drop-drop 4 (t + i) b ∙ ap (λ (k : ℕ). drop k b) q)) ∙ take-append-drop 4 (drop (t + i) b) in
      let z : t + 0 ≡ t = omega arith in
      (λ i. same_lists (part b t 4) mark a.mark_there i ++ (part_back b (t + 4) (omega arith) e i ++ (part_back b (t + 8) (omega arith) e i ++ last_four i)))
      ∙ ap (λ (x : List ℕ). part b t 4 ++ (part b (t + 4) 4 ++ (part b (t + 8) 4 ++ x))) (sym (append-nil (part b (t + 12) 4)) ∙ ap (λ (x : List ℕ). part b (t + 12) 4 ++ x) (sym done) ∙ cut 12 16 (omega arith))
      ∙ ap (λ (x : List ℕ). part b t 4 ++ (part b (t + 4) 4 ++ x)) (cut 8 12 (omega arith))
      ∙ ap (λ (x : List ℕ). part b t 4 ++ x) (cut 4 8 (omega arith))
      ∙ ap (λ (k : ℕ). part b k 4 ++ drop (t + 4) b) (sym z)
      ∙ cut 0 4 (omega arith)
      ∙ ap (λ (k : ℕ). drop k b) z

  -- ---- what leads the records follows from the history
  abbrev held : History
  held = history_of_bytes b

  -- from the places: a table of the numbers is refused
  record Tabled : Type 0 where
    table_is : table_lead held ≡ part b (start_read b) (table_size b)
    flag_is : table_flag held ≡ flag_read b % 2

  tabled : Tabled
  unfolding places_read table_fits
  tabled = go (has_table b) refl
    where
      go : (t : Bool) → has_table b ≡ t → Tabled
      go true h =
          let table = part b (start_read b) (sites_read b) in
          let fits : (holds_each table && not (is_numbers table)) ≡ true = rw h at good.table_fits_lem in
          let other : is_numbers table ≡ false = flip_true (not (is_numbers table)) (is_numbers table) refl (and_true (holds_each table) (not (is_numbers table)) fits).1 in
          record { table_is = rw (h, other) (bytes_same table (bytes_part b (start_read b) (sites_read b) e)); flag_is = rw (h, other) (sym (eqb-true (flag_read b % 2) 1 h)) }
      go false h =
          let none : flag_read b % 2 ≡ 0 = omega (arith, eqb-false (flag_read b % 2) 1 h) in
          let numbers = numbers_same (sites_read b) in
          record { table_is = rw (h, numbers); flag_is = rw (h, numbers) (sym none) }

  -- from what was removed and the base values
  record Based : Type 0 where
    base_is : base_lead held ≡ part b (start_read b + table_size b) (base_size b)
    flag_is : base_flag held ≡ flag_read b / 2 % 2 * 2

  based : Based
  unfolding base_read
  based = go (has_base b) refl
    where
      go : (t : Bool) → has_base b ≡ t → Based
      go true h =
          let at = start_read b + table_size b in
          let n = items_read b * value_size in
          let u = part b at n in
          let all : base_size b ≡ n = rw h in
          let there : length u ≡ n = part_length b at n (omega (arith, all, good.room, a.high)) in
          record { base_is = rw h (values_back (items_read b) u (omega (arith, there)) (bytes_part b at n e) ∙ take_all n u (omega (arith, there))); flag_is = rw h (omega (arith, eqb-true (flag_read b / 2 % 2) 1 h)) }
      go false h =
          let none : flag_read b / 2 % 2 ≡ 0 = omega (arith, eqb-false (flag_read b / 2 % 2) 1 h) in
          record { base_is = rw h; flag_is = rw h (omega (arith, none)) }

  lead_is : lead held ≡ part b (start_read b) (lead_size b)
  unfolding lead
  lead_is =
      let s = start_read b in
      let n = table_size b in
      ap₂ (λ (x y : List ℕ). x ++ y) tabled.table_is (based.base_is ∙ ap (take (base_size b)) (sym (drop-drop n s b)))
      ∙ sym (take-add n (base_size b) (drop s b))

  flag_is : flag held ≡ flag_read b
  unfolding flag
  flag_is = omega (arith, tabled.flag_is, based.flag_is, end.flag_low)

  -- an accepted file is what its history is written as
  pub file_is : file_of (history_read b) ≡ file_read b
  unfolding file_of file_read part_read
  file_is =
      let d = distance_read b in
      let n = length b in
      let l = lead_size b in
      let s = start_read b in
      let room : l + trailer_size ≤ d = good.room in
      let high = a.high in
      let long = a.long in
      let body_is : body held ≡ part_read b = records_back (rank (places_read b)) (sites_read b) (items_read b) (count_read b) (part_read b) good.fills (bytes_part b (s + l) (d - (l + trailer_size)) e) in
      let size : length (lead held) + (length (body held) + trailer_size) ≡ d = (let z : length (lead held) + (length (body held) + trailer_size) ≡ d = omega (arith, ap length lead_is, part_length b s l (omega arith), ap length body_is, part_length b (s + l) (d - (l + trailer_size)) (omega arith)) in z) in
      let rest : drop (d - (l + trailer_size)) (drop (s + l) b) ≡ drop (trailer_at b) b = drop-drop (d - (l + trailer_size)) (s + l) b ∙ (let z : s + l + (d - (l + trailer_size)) ≡ trailer_at b = omega arith in ap (λ (k : ℕ). drop k b) z) in
      ap file_of (history_read_lem b (accepts b a))
      ∙ (λ i. lead_is i ++ (body_is i ++ trailer (records_length (count_read b) (part_read b) i) (size i) (sites_read b) (items_read b) (flag_is i)))
      ∙ ap (λ (x : List ℕ). part b s l ++ (part_read b ++ x)) (trailer_back ∙ sym rest)
      ∙ ap (λ (x : List ℕ). part b s l ++ x) (take-append-drop (d - (l + trailer_size)) (drop (s + l) b) ∙ sym (drop-drop l s b))
      ∙ take-append-drop l (drop s b)

-- two accepted files with the same history are the same bytes, from the file's start to the end
pub only_file : (a b : List ℕ) → Bytes a → Bytes b → file_number a ≡ 0 → file_number b ≡ 0 → history_read a ≡ history_read b → file_read a ≡ file_read b
only_file a b ba bb ea eb same_history = sym (file_is a (accepted a ea) ba) ∙ ap file_of same_history ∙ file_is b (accepted b eb) bb
