-- The file that ends some bytes: its number, its part, and where each record starts.
use mathlib.Core.Path.{◌≡◌, refl, sym, ap, ap₂, subst, ◌∙◌}
use mathlib.Core.Bool.{Bool, true, false, cond, ◌&&◌}
use mathlib.Core.List.{List, [], ◌∷◌, map}
use Prim.Native.Nat.{ℕ, zero, suc, ◌+◌, ◌-◌, ◌≤◌, ◌<◌}
use native.Mathlib.Omega.{arith}
use lib.IntN.{pos}
use lib.ListN.{length, get_or, drop, replicate, length-map, length-drop, length-replicate}
use lib.Seq.{drop-drop}
use lib.Dec.{eqb, ltb, leb}
use borrow.Author.Tests.{lt-ltb, le-ltb, le-leb, lt-leb, eq-eqb, ne_eqb, ltb-false, leb-true, eqb-true, eqb-false}
use Rattle.words.specs.Words.{part, chunks}
use Rattle.words.proofs.Chunks.{chunks_length}
use Rattle.limits.specs.Limits.{sites_most, items_most}
use Rattle.lists.proofs.Every.{and_true}
use Rattle.timestamp_order.specs.Order.{rank}
use Rattle.records.specs.Records.{Record}
use Rattle.protocol.specs.Network.{no_record}
use Rattle.history_file.specs.Bytes.{same, value_size, value_read}
use Rattle.history_file.specs.File.{History, mark, trailer_size}
use Rattle.history_file.specs.Reading.{record_read, size_read, record_valid, records_read, records_fill, start_of, trailer_at, marked, count_read, distance_read, sites_read, items_read, flag_read, has_base, start_read, table_size, base_size, lead_size, places_read, base_read, part_read, within, table_fits, trailer_fits, valid, file_number, no_history, history_read}
use Rattle.history_file.specs.Promises.{part_answered, eight, places_answered, Step, no_step, step_of, record_number, step_numbered}
use Rattle.history_file.proofs.Tables.{read_few, eight_ranks}
use Rattle.history_file.proofs.Units.{rest_part}
use Rattle.history_file.proofs.Validity.{valid_room, size_some}

-- ---- the mark
pub and_last : (x : Bool) → (x && true) ≡ x
and_last true = refl
and_last false = refl

mark_is : (b : List ℕ) → length b ≡ 4 → same b mark ≡ (eqb (get_or b 0 0) 0x53 && (eqb (get_or b 1 0) 0x45 && (eqb (get_or b 2 0) 0x41 && eqb (get_or b 3 0) 0x54)))
mark_is [] e = absurd (omega arith)
mark_is (w ∷ []) e = absurd (omega arith)
mark_is (w ∷ (x ∷ [])) e = absurd (omega arith)
mark_is (w ∷ (x ∷ (y ∷ []))) e = absurd (omega arith)
mark_is (w ∷ (x ∷ (y ∷ (z ∷ [])))) e = ap (λ (q : Bool). eqb w 0x53 && (eqb x 0x45 && (eqb y 0x41 && q))) (and_last (eqb z 0x54))
mark_is (w ∷ (x ∷ (y ∷ (z ∷ (v ∷ r))))) e = absurd (omega arith)

module _ (b : List ℕ) (size : length b ≡ 4) where
  pub mark_first : (get_or b 0 0 ≡ 0x53 → ⊥) → false ≡ same b mark
  mark_first n = sym (mark_is b size ∙ rw (ne_eqb (get_or b 0 0) 0x53 n))

  module _ (p : get_or b 0 0 ≡ 0x53) where
    pub mark_second : (get_or b 1 0 ≡ 0x45 → ⊥) → false ≡ same b mark
    mark_second n = sym (mark_is b size ∙ rw (eq-eqb (get_or b 0 0) 0x53 p, ne_eqb (get_or b 1 0) 0x45 n))

    module _ (q : get_or b 1 0 ≡ 0x45) where
      pub mark_third : (get_or b 2 0 ≡ 0x41 → ⊥) → false ≡ same b mark
      mark_third n = sym (mark_is b size ∙ rw (eq-eqb (get_or b 0 0) 0x53 p, eq-eqb (get_or b 1 0) 0x45 q, ne_eqb (get_or b 2 0) 0x41 n))

      pub mark_fourth : get_or b 2 0 ≡ 0x41 → eqb (get_or b 3 0) 0x54 ≡ same b mark
      mark_fourth r = sym (mark_is b size ∙ rw (eq-eqb (get_or b 0 0) 0x53 p, eq-eqb (get_or b 1 0) 0x45 q, eq-eqb (get_or b 2 0) 0x41 r))

-- ---- the trailer's fields
module _ (b : List ℕ) (s t f z : ℕ) (ss : s ≡ sites_read b) (ts : t ≡ items_read b) (fs : f ≡ flag_read b) (zs : z ≡ get_or b (trailer_at b + 15) 0) where
  trailer_is : trailer_fits b ≡ (within 1 8 s && (within 1 64 t && (leb f 3 && eqb z 0)))
  trailer_is = sym (λ i. within 1 8 (ss i) && (within 1 64 (ts i) && (leb (fs i) 3 && eqb (zs i) 0)))

  pub no_sites : s < 1 → false ≡ trailer_fits b
  no_sites h = sym (trailer_is ∙ rw (lt-leb 1 s h))

  module _ (h : 1 ≤ s) where
    pub many_sites : 8 < s → false ≡ trailer_fits b
    many_sites g = sym (trailer_is ∙ rw (le-leb 1 s h, lt-leb s 8 g))

    module _ (g : s ≤ 8) where
      pub no_items : t < 1 → false ≡ trailer_fits b
      no_items k = sym (trailer_is ∙ rw (le-leb 1 s h, le-leb s 8 g, lt-leb 1 t k))

      module _ (k : 1 ≤ t) where
        pub many_items : 64 < t → false ≡ trailer_fits b
        many_items l = sym (trailer_is ∙ rw (le-leb 1 s h, le-leb s 8 g, le-leb 1 t k, lt-leb t 64 l))

        module _ (l : t ≤ 64) where
          pub other_flag : 3 < f → false ≡ trailer_fits b
          other_flag m = sym (trailer_is ∙ rw (le-leb 1 s h, le-leb s 8 g, le-leb 1 t k, le-leb t 64 l, lt-leb f 3 m))

          pub trailer_last : f ≤ 3 → eqb z 0 ≡ trailer_fits b
          trailer_last m = sym (trailer_is ∙ rw (le-leb 1 s h, le-leb s 8 g, le-leb 1 t k, le-leb t 64 l, le-leb f 3 m))

-- ---- the part
pub part_is : (b : List ℕ) (d n : ℕ) → d ≡ distance_read b → n ≡ lead_size b → n + trailer_size ≤ d → d ≤ length b
    → part b (length b - d + n) (length b - trailer_size - (length b - d + n)) ≡ part_read b
unfolding part_read
part_is b d n e f low high =
    let size : length b - trailer_size - (length b - d + n) ≡ d - (n + trailer_size) = omega arith in
    ap (part b (length b - d + n)) size ∙ (λ i. part b (length b - e i + f i) (e i - (f i + trailer_size)))

-- ---- a valid file
module _ (b : List ℕ) (fits : Bool) (f : fits ≡ trailer_fits b) where
  pub valid_untrailed : fits ≡ false → false ≡ valid b
  unfolding valid
  valid_untrailed z = sym (rw (sym f ∙ z))

  module _ (z : fits ≡ true) (n d : ℕ) (ns : n ≡ lead_size b) (ds : d ≡ distance_read b) where
    pub valid_near : d < n + trailer_size → false ≡ valid b
    unfolding valid
    valid_near h =
        let near : leb (lead_size b + trailer_size) (distance_read b) ≡ false = lt-leb (lead_size b + trailer_size) (distance_read b) (omega arith) in
        sym (rw (sym f ∙ z, near))

    module _ (room : n + trailer_size ≤ d) (table : Bool) (ts : table ≡ table_fits b) where
      far : leb (lead_size b + trailer_size) (distance_read b) ≡ true
      far = le-leb (lead_size b + trailer_size) (distance_read b) (omega arith)

      pub valid_untabled : table ≡ false → false ≡ valid b
      unfolding valid
      valid_untabled q = sym (rw (sym f ∙ z, far, sym ts ∙ q))

      module _ (q : table ≡ true) (k : ℕ) (ks : k ≡ count_read b) where
        pub valid_many : 256 < k → false ≡ valid b
        unfolding valid
        valid_many h = sym (rw (sym f ∙ z, far, sym ts ∙ q, ← ks, lt-leb k 256 h))

        pub valid_by_records : k ≤ 256 → (p : List ℕ) → p ≡ part_read b → (place : ℕ → ℕ) → place ≡ rank (places_read b) → (s t : ℕ) → s ≡ sites_read b → t ≡ items_read b
            → (r : Bool) → r ≡ records_fill place s t k p → r ≡ valid b
        unfolding valid
        valid_by_records h p ps place is s t ss us r e =
            let few : leb (count_read b) 256 ≡ true = le-leb (count_read b) 256 (omega arith) in
            e ∙ (λ i. records_fill (is i) (ss i) (us i) (ks i) (ps i)) ∙ sym (rw (sym f ∙ z, far, sym ts ∙ q, few))

-- ---- the number of a file
module _ (b : List ℕ) where
  pub file_short : length b < trailer_size → 21 ≡ file_number b
  unfolding file_number
  file_short h = sym (rw (lt-ltb (length b) trailer_size h))

  module _ (long : trailer_size ≤ length b) (m : Bool) (is : m ≡ same (part b (trailer_at b) (trailer_at b + 4 - trailer_at b)) mark) where
    mark_same : marked b ≡ m
    mark_same = let n : 4 ≡ trailer_at b + 4 - trailer_at b = omega arith in ap (λ (k : ℕ). same (part b (trailer_at b) k) mark) n ∙ sym is

    pub file_unmarked : m ≡ false → 21 ≡ file_number b
    unfolding file_number
    file_unmarked f = sym (rw (le-ltb (length b) trailer_size long, mark_same ∙ f))

    module _ (t : m ≡ true) (d : ℕ) (ds : d ≡ distance_read b) where
      pub file_near : d < trailer_size → 22 ≡ file_number b
      unfolding file_number
      file_near h = sym (rw (le-ltb (length b) trailer_size long, mark_same ∙ t, ← ds, lt-ltb d trailer_size h))

      module _ (low : trailer_size ≤ d) where
        pub file_far : length b < d → 22 ≡ file_number b
        unfolding file_number
        file_far h = sym (rw (le-ltb (length b) trailer_size long, mark_same ∙ t, ← ds, le-ltb d trailer_size low, lt-ltb (length b) d h))

        module _ (high : d ≤ length b) (v : Bool) (vs : v ≡ valid b) where
          pub file_invalid : v ≡ false → 23 ≡ file_number b
          unfolding file_number
          file_invalid f = sym (rw (le-ltb (length b) trailer_size long, mark_same ∙ t, ← ds, le-ltb d trailer_size low, le-ltb (length b) d high, ← vs, f))

          pub file_valid : v ≡ true → 0 ≡ file_number b
          unfolding file_number
          file_valid g = sym (rw (le-ltb (length b) trailer_size long, mark_same ∙ t, ← ds, le-ltb d trailer_size low, le-ltb (length b) d high, ← vs, g))

-- ---- what an accepted file is
pub record Accepted (b : List ℕ) : Type 0 where
  pub long : trailer_size ≤ length b
  pub mark_there : marked b ≡ true
  pub low : trailer_size ≤ distance_read b
  pub high : distance_read b ≤ length b
  pub good : valid b ≡ true

never : {A : Type 0} (k : ℕ) → suc k ≡ 0 → A
never k e = absurd (omega arith)

pub accepted : (b : List ℕ) → file_number b ≡ 0 → Accepted b
unfolding file_number
accepted b e = one (ltb (length b) trailer_size) refl
  where
    five : (long : ltb (length b) trailer_size ≡ false) (m : marked b ≡ true) (l : ltb (distance_read b) trailer_size ≡ false) (h : ltb (length b) (distance_read b) ≡ false) (v : Bool) → valid b ≡ v → Accepted b
    five long m l h true g = record { long = ltb-false (length b) trailer_size long; mark_there = m; low = ltb-false (distance_read b) trailer_size l; high = ltb-false (length b) (distance_read b) h; good = g }
    five long m l h false g = never 22 (rw (long, m, l, h, g) at e)

    four : (long : ltb (length b) trailer_size ≡ false) (m : marked b ≡ true) (l : ltb (distance_read b) trailer_size ≡ false) (h : Bool) → ltb (length b) (distance_read b) ≡ h → Accepted b
    four long m l true g = never 21 (rw (long, m, l, g) at e)
    four long m l false g = five long m l g (valid b) refl

    three : (long : ltb (length b) trailer_size ≡ false) (m : marked b ≡ true) (l : Bool) → ltb (distance_read b) trailer_size ≡ l → Accepted b
    three long m true g = never 21 (rw (long, m, g) at e)
    three long m false g = four long m g (ltb (length b) (distance_read b)) refl

    two : (long : ltb (length b) trailer_size ≡ false) (m : Bool) → marked b ≡ m → Accepted b
    two long false g = never 20 (rw (long, g) at e)
    two long true g = three long g (ltb (distance_read b) trailer_size) refl

    one : (s : Bool) → ltb (length b) trailer_size ≡ s → Accepted b
    one true g = never 20 (rw g at e)
    one false g = two g (marked b) refl

pub accepts : (b : List ℕ) → Accepted b → file_number b ≡ 0
unfolding file_number
accepts b a =
    rw (le-ltb (length b) trailer_size a.long, a.mark_there, le-ltb (distance_read b) trailer_size a.low, le-ltb (length b) (distance_read b) a.high, a.good)

-- what its test says, part by part
pub record Good (b : List ℕ) : Type 0 where
  pub trailer_fits_lem : trailer_fits b ≡ true
  pub room : lead_size b + trailer_size ≤ distance_read b
  pub table_fits_lem : table_fits b ≡ true
  pub fills : records_fill (rank (places_read b)) (sites_read b) (items_read b) (count_read b) (part_read b) ≡ true

pub good_parts : (b : List ℕ) → Accepted b → Good b
unfolding valid
good_parts b a =
    let fills = records_fill (rank (places_read b)) (sites_read b) (items_read b) (count_read b) (part_read b) in
    let few = leb (count_read b) 256 in
    let near = leb (lead_size b + trailer_size) (distance_read b) in
    let p = and_true (trailer_fits b) (near && (table_fits b && (few && fills))) a.good in
    let q = and_true near (table_fits b && (few && fills)) p.1 in
    let r = and_true (table_fits b) (few && fills) q.1 in
    record {
      trailer_fits_lem = p.0;
      room = leb-true (lead_size b + trailer_size) (distance_read b) q.0;
      table_fits_lem = r.0;
      fills = (and_true few fills r.1).1;
    }

-- ---- the trailer of an accepted file
pub record Trailed (b : List ℕ) : Type 0 where
  pub few_sites : sites_read b ≤ sites_most
  pub few_items : items_read b ≤ items_most
  pub flag_low : flag_read b ≤ 3
  pub last_zero : get_or b (trailer_at b + 15) 0 ≡ 0

pub trailed : (b : List ℕ) → trailer_fits b ≡ true → Trailed b
trailed b e =
    let last = eqb (get_or b (trailer_at b + 15) 0) 0 in
    let low = leb (flag_read b) 3 in
    let p = and_true (within 1 sites_most (sites_read b)) (within 1 items_most (items_read b) && (low && last)) e in
    let q = and_true (within 1 items_most (items_read b)) (low && last) p.1 in
    let r = and_true low last q.1 in
    record {
      few_sites = leb-true (sites_read b) sites_most (and_true (leb 1 (sites_read b)) (leb (sites_read b) sites_most) p.0).1;
      few_items = leb-true (items_read b) items_most (and_true (leb 1 (items_read b)) (leb (items_read b) items_most) q.0).1;
      flag_low = leb-true (flag_read b) 3 r.0;
      last_zero = eqb-true (get_or b (trailer_at b + 15) 0) 0 r.1;
    }

pub places_few : (b : List ℕ) → Accepted b → length (places_read b) ≤ sites_most
places_few b a = omega (arith, read_few b, (trailed b (good_parts b a).trailer_fits_lem).few_sites)

-- ---- the history
pub records_length : (n : ℕ) (b : List ℕ) → length (records_read n b) ≡ n
unfolding records_read
records_length zero b = refl
records_length (suc n) b = ap suc (records_length n (drop (size_read b) b))

module _ (b : List ℕ) where
  abbrev pub history_of_bytes : History
  history_of_bytes =
      record { sites = sites_read b; items = items_read b; places = places_read b; folded = has_base b; base = base_read b; records = records_read (count_read b) (part_read b) }

  pub history_read_lem : file_number b ≡ 0 → history_read b ≡ history_of_bytes
  unfolding history_read
  history_read_lem e = rw (eq-eqb (file_number b) 0 e)

  pub history_none : (file_number b ≡ 0 → ⊥) → history_read b ≡ no_history
  unfolding history_read
  history_none n = rw (ne_eqb (file_number b) 0 n)

  pub part_read_lem : file_number b ≡ 0 → part_read b ≡ part_answered b
  unfolding part_answered
  part_read_lem e = sym (rw (eq-eqb (file_number b) 0 e))

  pub part_none : (file_number b ≡ 0 → ⊥) → [] ≡ part_answered b
  unfolding part_answered
  part_none n = sym (rw (ne_eqb (file_number b) 0 n))

  pub places_answered_lem : file_number b ≡ 0 → eight (places_read b) ≡ places_answered b
  unfolding places_answered
  places_answered_lem e = sym (rw (eq-eqb (file_number b) 0 e))

  pub places_none : (file_number b ≡ 0 → ⊥) → replicate sites_most 0 ≡ places_answered b
  unfolding places_answered
  places_none n = sym (rw (ne_eqb (file_number b) 0 n))

-- a base value for each item
module _ (b : List ℕ) where
  base_length : length (base_read b) ≡ items_read b
  unfolding base_read
  base_length = go (has_base b)
    where
      bytes : List ℕ
      bytes = part b (start_read b + table_size b) (base_size b)

      go : (t : Bool) → length (cond t (map value_read (chunks value_size (items_read b) bytes)) (replicate (items_read b) (pos 0))) ≡ items_read b
      go true = length-map (chunks value_size (items_read b) bytes) value_read ∙ chunks_length value_size (items_read b) bytes
      go false = length-replicate (items_read b) (pos 0)

  pub base_count : length (history_read b).base ≡ (history_read b).items
  base_count = go (eqb (file_number b) 0) refl
    where
      by : (h : History) → history_read b ≡ h → length h.base ≡ h.items → length (history_read b).base ≡ (history_read b).items
      by h e s = ap (λ (x : History). length x.base) e ∙ s ∙ sym (ap (λ (x : History). x.items) e)

      go : (ok : Bool) → eqb (file_number b) 0 ≡ ok → length (history_read b).base ≡ (history_read b).items
      go true e = by (history_of_bytes b) (history_read_lem b (eqb-true (file_number b) 0 e)) base_length
      go false e = by no_history (history_none b (eqb-false (file_number b) 0 e)) refl

-- ---- where a record starts
module _ (k : ℕ) (b : List ℕ) (i at : ℕ) (e : start_of k b ≡ at + start_of (k - i) (drop at b)) where
  pub start_done : k ≤ i → at ≡ start_of k b
  unfolding start_of
  start_done h =
      let z : k - i ≡ 0 = omega arith in
      let f : start_of k b ≡ at + 0 = e ∙ ap (λ (j : ℕ). at + start_of j (drop at b)) z in
      omega arith

  pub start_next : i < k → (s : ℕ) → s ≡ size_read (part b at (length b - at)) → (start_of k b ≡ at + s + start_of (k - (i + 1)) (drop (at + s) b)) × (start_of k b ≤ length b → at + s ≤ length b)
  unfolding start_of
  start_next h s is =
      let z : k - i ≡ suc (k - (i + 1)) = omega arith in
      let same_size : s ≡ size_read (drop at b) = is ∙ ap size_read (rest_part b at) in
      let f : start_of k b ≡ at + (size_read (drop at b) + start_of (k - (i + 1)) (drop (size_read (drop at b)) (drop at b))) = e ∙ ap (λ (j : ℕ). at + start_of j (drop at b)) z in
      let g : start_of k b ≡ at + (s + start_of (k - (i + 1)) (drop (at + s) b))
      = f
      ∙ ap (λ (x : List ℕ). at + (size_read (drop at b) + start_of (k - (i + 1)) x)) (drop-drop (size_read (drop at b)) at b)
      ∙ ap (λ (j : ℕ). at + (j + start_of (k - (i + 1)) (drop (at + j) b))) (sym same_size) in
      (omega arith, λ u. omega arith)

pub start_first : (k : ℕ) (b : List ℕ) → start_of k b ≡ 0 + start_of (k - 0) (drop 0 b)
start_first k b =
    let z : k ≡ k - 0 = omega arith in
    ap (λ (j : ℕ). start_of j b) z ∙ (let y : start_of (k - 0) b ≡ 0 + start_of (k - 0) b = omega arith in y)

-- the record of a number that the records fill
pub record Filled (place : ℕ → ℕ) (sites items n : ℕ) (b : List ℕ) (k : ℕ) : Type 0 where
  pub inside : start_of k b < length b
  pub there : record_valid place sites items (drop (start_of k b) b) ≡ true
  pub is : record_read (drop (start_of k b) b) ≡ get_or (records_read n b) k no_record
  pub next : start_of (suc k) b ≡ start_of k b + size_read (drop (start_of k b) b)

pub filled : (place : ℕ → ℕ) (sites items n : ℕ) (b : List ℕ) (k : ℕ) → records_fill place sites items n b ≡ true → k < n → Filled place sites items n b k
unfolding records_fill records_read start_of
filled place sites items zero b k e h = absurd (omega arith)
filled place sites items (suc n) b zero e h =
    let v = (and_true (record_valid place sites items b) (records_fill place sites items n (drop (size_read b) b)) e).0 in
    record { inside = omega (arith, valid_room place sites items b v, size_some b); there = v; is = refl; next = omega arith }
filled place sites items (suc n) b (suc k) e h =
    let p = and_true (record_valid place sites items b) (records_fill place sites items n (drop (size_read b) b)) e in
    let rest = filled place sites items n (drop (size_read b) b) k p.1 (omega arith) in
    let same_drop : drop (start_of k (drop (size_read b) b)) (drop (size_read b) b) ≡ drop (size_read b + start_of k (drop (size_read b) b)) b = drop-drop (start_of k (drop (size_read b) b)) (size_read b) b in
    record {
      inside = omega (arith, rest.inside, length-drop (size_read b) b);
      there = subst (λ (x : List ℕ). record_valid place sites items x ≡ true) same_drop rest.there;
      is = ap record_read (sym same_drop) ∙ rest.is;
      next = (let f : size_read b + start_of (suc k) (drop (size_read b) b) ≡ size_read b + start_of k (drop (size_read b) b) + size_read (drop (start_of k (drop (size_read b) b)) (drop (size_read b) b)) = omega (arith, rest.next) in f) ∙ ap (λ (x : List ℕ). size_read b + start_of k (drop (size_read b) b) + size_read x) same_drop;
    }

-- ---- a record by its number
module _ (b : List ℕ) (k : ℕ) where
  pub numbered_refused : (n : ℕ) → n ≡ file_number b → (n ≡ 0 → ⊥) → no_step n ≡ step_numbered b k
  unfolding step_numbered record_number
  numbered_refused n e z =
      let w : file_number b ≡ 0 → ⊥ = λ y. z (e ∙ y) in
      ap no_step e ∙ sym (rw (ne_eqb (file_number b) 0 w, ne_eqb (file_number b) 0 w))

  module _ (e : file_number b ≡ 0) where
    records_are : length (history_read b).records ≡ count_read b
    records_are = ap (λ (h : History). length h.records) (history_read_lem b e) ∙ records_length (count_read b) (part_read b)

    pub numbered_past : count_read b ≤ k → no_step 24 ≡ step_numbered b k
    unfolding step_numbered record_number
    numbered_past h = sym (rw (eq-eqb (file_number b) 0 e, le-leb (length (history_read b).records) k (omega (arith, records_are))))

    module _ (h : k < count_read b) where
      fills : Filled (rank (places_read b)) (sites_read b) (items_read b) (count_read b) (part_read b) k
      fills = filled (rank (places_read b)) (sites_read b) (items_read b) (count_read b) (part_read b) k (good_parts b (accepted b e)).fills h

      pub start_inside : start_of k (part_read b) ≤ length (part_read b)
      start_inside = omega (arith, fills.inside)

      pub numbered_there : step_of (part_read b) (start_of k (part_read b)) (rank (places_read b)) (sites_read b) (items_read b) ≡ step_numbered b k
      unfolding step_numbered record_number step_of
      numbered_there =
          let f = fills in
          let found : record_read (drop (start_of k (part_read b)) (part_read b)) ≡ get_or (history_read b).records k no_record = f.is ∙ sym (ap (λ (x : History). get_or x.records k no_record) (history_read_lem b e)) in
          rw (lt-leb (length (part_read b)) (start_of k (part_read b)) f.inside, f.there)
          (ap₂ {C = Step} (λ (n : ℕ) (r : Record). record { number = 0; next = n; found = r }) (sym f.next) found
          ∙ sym (rw (eq-eqb (file_number b) 0 e, lt-leb (length (history_read b).records) k (omega (arith, records_are)))))

-- the fields that a file answers are those of its trailer
pub fields_read : (b : List ℕ) → file_number b ≡ 0 → (length (history_read b).records ≡ count_read b) × ((history_read b).sites ≡ sites_read b) × ((history_read b).items ≡ items_read b)
fields_read b e =
    let h = history_read_lem b e in
    (ap (λ (x : History). length x.records) h ∙ records_length (count_read b) (part_read b), ap (λ (x : History). x.sites) h, ap (λ (x : History). x.items) h)

-- the record that starts there is the one of that number, by the places that are answered
pub numbered_by : (b : List ℕ) (k : ℕ) (e : file_number b ≡ 0) → k < count_read b → (p ps : List ℕ) (at s i : ℕ)
    → p ≡ part_read b → ps ≡ places_answered b → at ≡ start_of k p → s ≡ (history_read b).sites → i ≡ (history_read b).items
    → step_of p at (rank ps) s i ≡ step_numbered b k
numbered_by b k e h p ps at s i parted placed os ss is =
    let f = fields_read b e in
    let starts = os ∙ ap (start_of k) parted in
    let ranks : rank ps ≡ rank (places_read b) = ap rank (placed ∙ sym (places_answered_lem b e)) ∙ eight_ranks (places_read b) (omega (arith, places_few b (accepted b e))) in
    let sites = ss ∙ f.1 in
    let items = is ∙ f.2 in
    (λ t. step_of (parted t) (starts t) (ranks t) (sites t) (items t)) ∙ numbered_there b k e h
