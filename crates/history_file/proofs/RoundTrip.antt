-- What a history is written as reads back to the same history, alone or at the end of any longer buffer.
use mathlib.Core.Path.{◌≡◌, refl, sym, ap, ap₂, ◌∙◌}
use mathlib.Core.Bool.{Bool, true, false, not, cond, ◌&&◌, ◌||◌}
use mathlib.Core.List.{List, [], ◌∷◌, ◌++◌, map, append_assoc, append-nil}
use Prim.Native.Nat.{ℕ, ◌+◌, ◌-◌, ◌*◌, ◌/◌, ◌%◌, ◌≤◌, ◌<◌}
use native.Mathlib.Omega.{arith}
use lib.IntN.{ℤ, pos}
use lib.ListN.{length, get_or, take, drop, replicate, length-append, length-map}
use lib.Seq.{take_at, drop_at, drop-drop, take-append_seam, drop-append_seam, get_or-append-add}
use lib.Dec.{eqb, leb}
use borrow.Author.Tests.{le-leb, eq-eqb}
use mir.Val.{to_z, of_z, SFits}
use mir.ValLaws.{to_z-of_z, of_z_fits}
use mir.Syntax.{w32}
use Rattle.words.specs.Words.{part, chunks}
use Rattle.lists.specs.Lists.{every, up_to}
use Rattle.lists.proofs.Chains.{Each}
use Rattle.timestamp_order.specs.Timestamp.{Pair, room}
use Rattle.timestamp_order.specs.Order.{rank}
use Rattle.site_operations.specs.Operations.{Op}
use Rattle.limits.specs.Limits.{ops_most}
use Rattle.records.specs.Records.{Record, record_fits}
use Rattle.history_file.specs.Bytes.{byte, value_size, value_bytes, unit_size, unit, joined, number_at, value_read, padded, same}
use Rattle.history_file.specs.File.{History, pair_bytes, op_bytes, record_bytes, is_numbers, table_lead, base_lead, lead, flag, mark, trailer, trailer_size, body, file_of}
use Rattle.history_file.specs.Reading.{pair_read, op_read, tuple_count, op_count, tuple_units, op_units, ops_from, record_read, size_read, record_valid, records_read, records_fill, trailer_at, marked, count_read, distance_read, sites_read, items_read, flag_read, has_table, has_base, start_read, table_size, base_size, lead_size, places_read, base_read, part_read, holds_each, table_fits, valid, file_number, history_read}
use Rattle.history_file.proofs.Written.{value_size_lem, values_size, unit_length, pair_size_lem, op_size_lem, pairs_size, record_size_lem}
use Rattle.history_file.proofs.Exports.{trailer_of, file_length}
use Rattle.history_file.proofs.Tables.{numbers_are, bytes_back}
use Rattle.history_file.proofs.Files.{Accepted, accepts, history_read_lem}

-- ---- histories whose fields fit the file
pub data All {A : Type 0} (P : A → Type 0) : List A → Type 0 where
  none : All P []
  more : {x : A} {xs : List A} → P x → All P xs → All P (x ∷ xs)

pub record PairFits (p : Pair) : Type 0 where
  pub site : p.site < 256
  pub count : p.count < 4294967296

pub record OpFits (o : Op) : Type 0 where
  pub kind : o.kind < 256
  pub item : o.item < 256
  pub value : SFits w32 o.value

pub record RecordFits (place : ℕ → ℕ) (sites items : ℕ) (r : Record) : Type 0 where
  pub fits : record_fits place sites items r ≡ true
  pub site : r.site < 256
  pub epoch : r.stamp.epoch < 4294967296
  pub some_tuples : 1 ≤ length r.stamp.tuples
  pub few_tuples : length r.stamp.tuples ≤ room
  pub some_ops : 1 ≤ length r.ops
  pub few_ops : length r.ops ≤ ops_most
  pub tuples : All PairFits r.stamp.tuples
  pub ops : All OpFits r.ops

pub record HistoryFits (h : History) : Type 0 where
  pub some_sites : 1 ≤ h.sites
  pub few_sites : h.sites ≤ 8
  pub some_items : 1 ≤ h.items
  pub few_items : h.items ≤ 64
  pub few_records : length h.records ≤ 256
  pub as_many : length h.places ≡ h.sites
  pub each : holds_each h.places ≡ true
  pub low : Each (λ (q : ℕ). q < 256) h.places
  pub each_item : length h.base ≡ h.items
  pub values : All (SFits w32) h.base
  pub none_folded : h.folded ≡ false → h.base ≡ replicate h.items (pos 0)
  pub records : All (RecordFits (rank h.places) h.sites h.items) h.records

-- ---- numbers
small : (n : ℕ) → n < 256 → byte n ≡ n
small n h = omega arith

number_of : (n : ℕ) → n < 4294967296 → byte n + 256 * (byte (n / 256) + 256 * (byte (n / 256 / 256) + 256 * byte (n / 256 / 256 / 256))) ≡ n
number_of n h = omega arith

module _ (x y z n : ℕ) (r : List ℕ) where
  unit_number : n < 4294967296 → number_at (unit x y z n ++ r) 4 ≡ n
  unfolding unit number_at
  unit_number h = number_of n h

-- ---- as many bytes each
module _ {A : Type 0} (P : A → Type 0) (f : A → List ℕ) (g : List ℕ → A) (n : ℕ) (size : (x : A) → length (f x) ≡ n) where
  chunks_joined : (xs : List A) (r : List ℕ) → chunks n (length xs) (joined f xs ++ r) ≡ map f xs
  unfolding chunks
  chunks_joined [] r = refl
  chunks_joined (x ∷ xs) r =
      let s = append_assoc (f x) (joined f xs) r in
      ap₂ {C = List (List ℕ)} (λ a l. a ∷ l) (ap (take n) s ∙ take_at (f x) (joined f xs ++ r) n (size x))
      (ap (λ (l : List ℕ). chunks n (length xs) l) (ap (drop n) s ∙ drop_at (f x) (joined f xs ++ r) n (size x)) ∙ chunks_joined xs r)

  map_back : ((x : A) → P x → g (f x) ≡ x) → (xs : List A) → All P xs → map g (map f xs) ≡ xs
  map_back back [] a = refl
  map_back back (x ∷ xs) (more p a) = ap₂ {C = List A} (λ y l. y ∷ l) (back x p) (map_back back xs a)

  every_good : (good : List ℕ → Bool) → ((x : A) → good (f x) ≡ true) → (xs : List A) → every good (map f xs) ≡ true
  every_good good h [] = refl
  every_good good h (x ∷ xs) = rw (h x) (every_good good h xs)

pair_read_lem : (p : Pair) → PairFits p → pair_read (pair_bytes p) ≡ p
unfolding unit number_at
pair_read_lem p h =
    let s = small p.site h.site in
    let c = number_of p.count h.count in
    λ t. record { site = s t; count = c t }

op_read_lem : (o : Op) → OpFits o → op_read (op_bytes o) ≡ o
unfolding unit number_at
op_read_lem o h =
    let k = small o.kind h.kind in
    let i = small o.item h.item in
    let f = of_z_fits w32 o.value h.value in
    let v = ap (to_z w32) (number_of (of_z w32 o.value) f.fits) ∙ to_z-of_z w32 o.value h.value in
    λ t. record { kind = k t; item = i t; value = v t }

value_read_lem : (v : ℤ) → SFits w32 v → value_read (value_bytes v) ≡ v
unfolding value_bytes number_at
value_read_lem v h = ap (to_z w32) (number_of (of_z w32 v) (of_z_fits w32 v h).fits) ∙ to_z-of_z w32 v h

pair_padded : (p : Pair) → padded 1 (pair_bytes p) ≡ true
unfolding unit
pair_padded p = refl

op_padded : (o : Op) → padded 2 (op_bytes o) ≡ true
unfolding unit
op_padded o = refl

-- ---- a record in front of other bytes
module _ (place : ℕ → ℕ) (sites items : ℕ) (r : Record) (h : RecordFits place sites items r) (rest : List ℕ) where
  abbrev there : List ℕ
  there = record_bytes r ++ rest

  abbrev tuples : List ℕ
  tuples = joined pair_bytes r.stamp.tuples

  abbrev ops : List ℕ
  ops = joined op_bytes r.ops

  abbrev head : List ℕ
  head = unit r.site (length r.stamp.tuples) (length r.ops) r.stamp.epoch

  there_is : there ≡ head ++ (tuples ++ (ops ++ rest))
  unfolding record_bytes
  there_is = append_assoc head (tuples ++ ops) rest ∙ ap (λ (l : List ℕ). head ++ l) (append_assoc tuples ops rest)

  site_there : get_or there 0 0 ≡ r.site
  unfolding unit
  site_there = ap (λ (l : List ℕ). get_or l 0 0) there_is ∙ small r.site h.site

  tuples_there : tuple_count there ≡ length r.stamp.tuples
  unfolding unit
  tuples_there = ap tuple_count there_is ∙ small (length r.stamp.tuples) (omega (arith, h.few_tuples))

  ops_there : op_count there ≡ length r.ops
  unfolding unit
  ops_there = ap op_count there_is ∙ small (length r.ops) (omega (arith, h.few_ops))

  zero_there : get_or there 3 0 ≡ 0
  unfolding unit
  zero_there = ap (λ (l : List ℕ). get_or l 3 0) there_is

  epoch_there : number_at there 4 ≡ r.stamp.epoch
  epoch_there = ap (λ (l : List ℕ). number_at l 4) there_is ∙ unit_number r.site (length r.stamp.tuples) (length r.ops) r.stamp.epoch (tuples ++ (ops ++ rest)) h.epoch

  from_tuples : drop unit_size there ≡ tuples ++ (ops ++ rest)
  from_tuples = ap (drop unit_size) there_is ∙ drop_at head (tuples ++ (ops ++ rest)) unit_size (unit_length r.site (length r.stamp.tuples) (length r.ops) r.stamp.epoch)

  from_ops : drop (ops_from there) there ≡ ops ++ rest
  from_ops =
      let s : length tuples ≡ unit_size * tuple_count there = omega (arith, pairs_size r.stamp.tuples, tuples_there) in
      sym (drop-drop (unit_size * tuple_count there) unit_size there) ∙ ap (drop (unit_size * tuple_count there)) from_tuples ∙ drop_at tuples (ops ++ rest) (unit_size * tuple_count there) s

  tuple_units_lem : tuple_units there ≡ map pair_bytes r.stamp.tuples
  tuple_units_lem = ap₂ (λ (k : ℕ) (l : List ℕ). chunks unit_size k l) tuples_there from_tuples ∙ chunks_joined PairFits pair_bytes pair_read unit_size pair_size_lem r.stamp.tuples (ops ++ rest)

  op_units_lem : op_units there ≡ map op_bytes r.ops
  op_units_lem = ap₂ (λ (k : ℕ) (l : List ℕ). chunks unit_size k l) ops_there from_ops ∙ chunks_joined OpFits op_bytes op_read unit_size op_size_lem r.ops rest

  pub record_reads : record_read there ≡ r
  unfolding record_read
  record_reads =
      let ps = ap (map pair_read) tuple_units_lem ∙ map_back PairFits pair_bytes pair_read unit_size pair_size_lem pair_read_lem r.stamp.tuples h.tuples in
      let os = ap (map op_read) op_units_lem ∙ map_back OpFits op_bytes op_read unit_size op_size_lem op_read_lem r.ops h.ops in
      λ t. record { site = site_there t; stamp = record { epoch = epoch_there t; tuples = ps t }; ops = os t }

  pub size_reads : size_read there ≡ length (record_bytes r)
  unfolding size_read
  size_reads = ap₂ (λ (x y : ℕ). unit_size + unit_size * x + unit_size * y) tuples_there ops_there ∙ sym (record_size_lem r)

  pub valid_reads : record_valid place sites items there ≡ true
  unfolding record_valid
  valid_reads =
      let long : leb (size_read there) (length there) ≡ true = le-leb (size_read there) (length there) (omega (arith, size_reads, length-append (record_bytes r) rest)) in
      let t1 : leb 1 (tuple_count there) ≡ true = le-leb 1 (tuple_count there) (omega (arith, tuples_there, h.some_tuples)) in
      let t2 : leb (tuple_count there) room ≡ true = le-leb (tuple_count there) room (omega (arith, tuples_there, h.few_tuples)) in
      let o1 : leb 1 (op_count there) ≡ true = le-leb 1 (op_count there) (omega (arith, ops_there, h.some_ops)) in
      let o2 : leb (op_count there) ops_most ≡ true = le-leb (op_count there) ops_most (omega (arith, ops_there, h.few_ops)) in
      let z : eqb (get_or there 3 0) 0 ≡ true = eq-eqb (get_or there 3 0) 0 zero_there in
      let p : every (padded 1) (tuple_units there) ≡ true = ap (every (padded 1)) tuple_units_lem ∙ every_good PairFits pair_bytes pair_read unit_size pair_size_lem (padded 1) pair_padded r.stamp.tuples in
      let q : every (padded 2) (op_units there) ≡ true = ap (every (padded 2)) op_units_lem ∙ every_good OpFits op_bytes op_read unit_size op_size_lem (padded 2) op_padded r.ops in
      let f : record_fits place sites items (record_read there) ≡ true = ap (record_fits place sites items) record_reads ∙ h.fits in
      λ i. long i && (((t1 i && t2 i) && (o1 i && o2 i)) && ((z i && (p i && q i)) && f i))

  pub rest_reads : drop (size_read there) there ≡ rest
  rest_reads = drop_at (record_bytes r) rest (size_read there) (sym size_reads)

-- ---- all records
module _ (place : ℕ → ℕ) (sites items : ℕ) where
  pub records_read_lem : (rs : List Record) → All (RecordFits place sites items) rs → records_read (length rs) (joined record_bytes rs) ≡ rs
  unfolding records_read
  records_read_lem [] a = refl
  records_read_lem (r ∷ rs) (more h a) =
      ap₂ {C = List Record} (λ x l. x ∷ l) (record_reads place sites items r h (joined record_bytes rs))
      (ap (λ (l : List ℕ). records_read (length rs) l) (rest_reads place sites items r h (joined record_bytes rs)) ∙ records_read_lem rs a)

  pub records_fill_lem : (rs : List Record) → All (RecordFits place sites items) rs → records_fill place sites items (length rs) (joined record_bytes rs) ≡ true
  unfolding records_fill
  records_fill_lem [] a = refl
  records_fill_lem (r ∷ rs) (more h a) =
      rw (valid_reads place sites items r h (joined record_bytes rs))
      (ap (λ (l : List ℕ). records_fill place sites items (length rs) l) (rest_reads place sites items r h (joined record_bytes rs)) ∙ records_fill_lem rs a)

  pub records_short : (rs : List Record) → All (RecordFits place sites items) rs → length (joined record_bytes rs) ≤ 136 * length rs
  records_short [] a = omega arith
  records_short (r ∷ rs) (more h a) = omega (arith, length-append (record_bytes r) (joined record_bytes rs), record_size_lem r, h.few_tuples, h.few_ops, records_short rs a)

-- ---- one of two numbers
either : (t : Bool) (x y n : ℕ) → x ≤ n → y ≤ n → cond t x y ≤ n
either true x y n p q = p
either false x y n p q = q

turned : (t : Bool) (x y : ℕ) → cond (not t) x y ≡ cond t y x
turned true x y = refl
turned false x y = refl

-- ---- the file at the end of other bytes
number_append : (xs ys : List ℕ) (i : ℕ) → number_at (xs ++ ys) (length xs + i) ≡ number_at ys i
unfolding number_at
number_append xs ys i =
    let at : (j k : ℕ) → length xs + i + j ≡ length xs + k → get_or (xs ++ ys) (length xs + i + j) 0 ≡ get_or ys k 0
    = λ j k e. ap (λ (m : ℕ). get_or (xs ++ ys) m 0) e ∙ get_or-append-add xs ys k 0 in
    let p = get_or-append-add xs ys i 0 in
    let q = at 1 (i + 1) (omega arith) in
    let r = at 2 (i + 2) (omega arith) in
    let s = at 3 (i + 3) (omega arith) in
    λ t. p t + 256 * (q t + 256 * (r t + 256 * s t))

module _ (h : History) (f : HistoryFits h) (before : List ℕ) where
  abbrev distance : ℕ
  distance = length (lead h) + (length (body h) + trailer_size)

  abbrev end : List ℕ
  end = trailer_of h distance

  abbrev whole : List ℕ
  whole = before ++ file_of h

  abbrev front : List ℕ
  front = (before ++ lead h) ++ body h

  whole_is : whole ≡ front ++ end
  unfolding file_of
  whole_is = sym (append_assoc (before ++ lead h) (body h) end ∙ append_assoc before (lead h) (body h ++ end))

  whole_length : length whole ≡ length before + distance
  whole_length = length-append before (file_of h) ∙ ap (λ (k : ℕ). length before + k) (file_length h)

  at_end : trailer_at whole ≡ length front
  at_end =
      let e : trailer_at whole ≡ length (before ++ lead h) + length (body h) = omega (arith, whole_length, length-append before (lead h)) in
      e ∙ sym (length-append (before ++ lead h) (body h))

  -- how many bytes lead the records
  table_long : length (table_lead h) ≡ cond (is_numbers h.places) 0 h.sites
  table_long = go (is_numbers h.places)
    where
      go : (t : Bool) → length (cond t [] (map byte h.places)) ≡ cond t 0 h.sites
      go true = refl
      go false = length-map h.places byte ∙ f.as_many

  base_long : length (base_lead h) ≡ cond h.folded (h.items * value_size) 0
  base_long = go h.folded
    where
      go : (t : Bool) → length (cond t (joined value_bytes h.base) []) ≡ cond t (h.items * value_size) 0
      go true = values_size h.base ∙ ap (λ (k : ℕ). k * value_size) f.each_item
      go false = refl

  lead_long : length (lead h) ≡ length (table_lead h) + length (base_lead h)
  unfolding lead
  lead_long = length-append (table_lead h) (base_lead h)

  lead_short : length (lead h) ≤ 264
  lead_short = omega (arith, lead_long, table_long, base_long, either (is_numbers h.places) 0 h.sites 8 (omega arith) f.few_sites, either h.folded (h.items * value_size) 0 256 (omega (arith, f.few_items)) (omega arith))

  short : distance < 4294967296
  short = omega (arith, lead_short, records_short (rank h.places) h.sites h.items h.records f.records, f.few_records)

  end_drop : drop (trailer_at whole) whole ≡ end
  end_drop = ap₂ (λ (k : ℕ) (l : List ℕ). drop k l) at_end whole_is ∙ drop-append_seam front end

  end_get_d : (i : ℕ) → get_or whole (trailer_at whole + i) 0 ≡ get_or end i 0
  end_get_d i = ap₂ (λ (k : ℕ) (l : List ℕ). get_or l (k + i) 0) at_end whole_is ∙ get_or-append-add front end i 0

  end_number : (i : ℕ) → number_at whole (trailer_at whole + i) ≡ number_at end i
  end_number i = ap₂ (λ (k : ℕ) (l : List ℕ). number_at l (k + i)) at_end whole_is ∙ number_append front end i

  mark_there : marked whole ≡ true
  unfolding trailer
  mark_there = ap (λ (l : List ℕ). same (take 4 l) mark) end_drop

  count_there : count_read whole ≡ length h.records
  unfolding trailer number_at
  count_there = end_number 4 ∙ number_of (length h.records) (omega (arith, f.few_records))

  distance_there : distance_read whole ≡ distance
  unfolding trailer number_at
  distance_there = end_number 8 ∙ number_of distance short

  sites_there : sites_read whole ≡ h.sites
  unfolding trailer
  sites_there = end_get_d 12 ∙ small h.sites (omega (arith, f.few_sites))

  items_there : items_read whole ≡ h.items
  unfolding trailer
  items_there = end_get_d 13 ∙ small h.items (omega (arith, f.few_items))

  flag_low : flag h ≤ 3
  unfolding flag
  flag_low = omega (arith, either (is_numbers h.places) 0 1 1 (omega arith) (omega arith), either h.folded 2 0 2 (omega arith) (omega arith))

  flag_there : flag_read whole ≡ flag h
  unfolding trailer
  flag_there = end_get_d 14 ∙ small (flag h) (omega (arith, flag_low))

  zero_last : get_or whole (trailer_at whole + 15) 0 ≡ 0
  unfolding trailer
  zero_last = end_get_d 15

  start_there : start_read whole ≡ length before
  start_there = omega (arith, whole_length, distance_there)

  -- the table is there where the places are not the numbers
  table_there : has_table whole ≡ not (is_numbers h.places)
  unfolding flag
  table_there = ap (λ (k : ℕ). eqb (k % 2) 1) flag_there ∙ go (is_numbers h.places) h.folded
    where
      go : (t u : Bool) → eqb ((cond t 0 1 + cond u 2 0) % 2) 1 ≡ not t
      go true true = refl
      go true false = refl
      go false true = refl
      go false false = refl

  -- and the base values where a record was removed
  base_there : has_base whole ≡ h.folded
  unfolding flag
  base_there = ap (λ (k : ℕ). eqb (k / 2 % 2) 1) flag_there ∙ go (is_numbers h.places) h.folded
    where
      go : (t u : Bool) → eqb ((cond t 0 1 + cond u 2 0) / 2 % 2) 1 ≡ u
      go true true = refl
      go true false = refl
      go false true = refl
      go false false = refl

  table_size_there : table_size whole ≡ length (table_lead h)
  table_size_there = ap₂ (λ (t : Bool) (k : ℕ). cond t k 0) table_there sites_there ∙ turned (is_numbers h.places) h.sites 0 ∙ sym table_long

  base_size_there : base_size whole ≡ length (base_lead h)
  base_size_there = ap₂ (λ (t : Bool) (k : ℕ). cond t (k * value_size) 0) base_there items_there ∙ sym base_long

  lead_there : lead_size whole ≡ length (lead h)
  lead_there = ap₂ (λ (k n : ℕ). k + n) table_size_there base_size_there ∙ sym lead_long

  places_there : places_read whole ≡ h.places
  unfolding places_read file_of lead
  places_there =
      (λ i. cond (table_there i) (part whole (start_there i) (sites_there i)) (up_to 0 (sites_there i)))
      ∙ ap (λ (l : List ℕ). cond (not (is_numbers h.places)) (take h.sites l) (up_to 0 h.sites)) (drop-append_seam before (file_of h))
      ∙ go (is_numbers h.places) refl
    where
      go : (t : Bool) → is_numbers h.places ≡ t → cond (not t) (take h.sites (file_of h)) (up_to 0 h.sites) ≡ h.places
      go true e = ap (up_to 0) (sym f.as_many) ∙ numbers_are h.places e
      go false e =
          let table : table_lead h ≡ h.places = rw e (bytes_back h.places f.low) in
          let size : length (table_lead h) ≡ h.sites = ap length table ∙ f.as_many in
          ap (take h.sites) (append_assoc (table_lead h) (base_lead h) (body h ++ end))
          ∙ take_at (table_lead h) (base_lead h ++ (body h ++ end)) h.sites size
          ∙ table

  base_part : part whole (start_read whole + table_size whole) (base_size whole) ≡ base_lead h
  unfolding file_of lead
  base_part =
      ap₂ (λ (n : ℕ) (l : List ℕ). take n l) base_size_there
      (sym (drop-drop (table_size whole) (start_read whole) whole)
      ∙ ap₂ (λ (n k : ℕ). drop n (drop k whole)) table_size_there start_there
      ∙ ap (drop (length (table_lead h))) (drop-append_seam before (file_of h) ∙ append_assoc (table_lead h) (base_lead h) (body h ++ end))
      ∙ drop-append_seam (table_lead h) (base_lead h ++ (body h ++ end)))
      ∙ take-append_seam (base_lead h) (body h ++ end)

  values_there : base_read whole ≡ h.base
  unfolding base_read
  values_there =
      (λ i. cond (base_there i) (map value_read (chunks value_size (items_there i) (base_part i))) (replicate (items_there i) (pos 0)))
      ∙ go h.folded refl
    where
      go : (t : Bool) → h.folded ≡ t
          → cond t (map value_read (chunks value_size h.items (cond t (joined value_bytes h.base) []))) (replicate h.items (pos 0)) ≡ h.base
      go true e =
          ap₂ (λ (k : ℕ) (l : List ℕ). map value_read (chunks value_size k l)) (sym f.each_item) (sym (append-nil (joined value_bytes h.base)))
          ∙ ap (map value_read) (chunks_joined (SFits w32) value_bytes value_read value_size value_size_lem h.base [])
          ∙ map_back (SFits w32) value_bytes value_read value_size value_size_lem value_read_lem h.base f.values
      go false e = sym (f.none_folded e)

  part_there : part_read whole ≡ body h
  unfolding part_read
  part_there =
      let start : start_read whole + lead_size whole ≡ length (before ++ lead h) = (let z : start_read whole + lead_size whole ≡ length before + length (lead h) = omega (arith, start_there, lead_there) in z) ∙ sym (length-append before (lead h)) in
      let size : distance_read whole - (lead_size whole + trailer_size) ≡ length (body h) = omega (arith, distance_there, lead_there) in
      ap₂ (λ (k n : ℕ). part whole k n) start size
      ∙ ap (λ (l : List ℕ). take (length (body h)) (drop (length (before ++ lead h)) l)) (whole_is ∙ append_assoc (before ++ lead h) (body h) end)
      ∙ ap (take (length (body h))) (drop-append_seam (before ++ lead h) (body h ++ end))
      ∙ take-append_seam (body h) end

  table_fits_lem : table_fits whole ≡ true
  unfolding table_fits
  table_fits_lem = (λ i. not (table_there i) || (holds_each (places_there i) && not (is_numbers (places_there i)))) ∙ go (is_numbers h.places)
    where
      go : (t : Bool) → (not (not t) || (holds_each h.places && not t)) ≡ true
      go true = refl
      go false = rw f.each

  pub file_accepted : Accepted whole
  unfolding valid
  file_accepted =
      let s1 : leb 1 (sites_read whole) ≡ true = le-leb 1 (sites_read whole) (omega (arith, sites_there, f.some_sites)) in
      let s2 : leb (sites_read whole) 8 ≡ true = le-leb (sites_read whole) 8 (omega (arith, sites_there, f.few_sites)) in
      let i1 : leb 1 (items_read whole) ≡ true = le-leb 1 (items_read whole) (omega (arith, items_there, f.some_items)) in
      let i2 : leb (items_read whole) 64 ≡ true = le-leb (items_read whole) 64 (omega (arith, items_there, f.few_items)) in
      let f1 : leb (flag_read whole) 3 ≡ true = le-leb (flag_read whole) 3 (omega (arith, flag_there, flag_low)) in
      let z : eqb (get_or whole (trailer_at whole + 15) 0) 0 ≡ true = eq-eqb (get_or whole (trailer_at whole + 15) 0) 0 zero_last in
      let far : leb (lead_size whole + trailer_size) (distance_read whole) ≡ true = le-leb (lead_size whole + trailer_size) (distance_read whole) (omega (arith, lead_there, distance_there)) in
      let few : leb (count_read whole) 256 ≡ true = le-leb (count_read whole) 256 (omega (arith, count_there, f.few_records)) in
      let fills : records_fill (rank (places_read whole)) (sites_read whole) (items_read whole) (count_read whole) (part_read whole) ≡ true
      = (λ t. records_fill (rank (places_there t)) (sites_there t) (items_there t) (count_there t) (part_there t)) ∙ records_fill_lem (rank h.places) h.sites h.items h.records f.records in
      record {
        long = omega (arith, whole_length);
        mark_there = mark_there;
        low = omega (arith, distance_there);
        high = omega (arith, distance_there, whole_length);
        good = λ t. ((s1 t && s2 t) && ((i1 t && i2 t) && (f1 t && z t))) && (far t && (table_fits_lem t && (few t && fills t)));
      }

  -- what was written reads back to the same history: its numbers of sites and items, its places, its base values, its records
  pub reads_back : (file_number whole ≡ 0) × (history_read whole ≡ h)
  reads_back =
      let z : file_number whole ≡ 0 = accepts whole file_accepted in
      let records = ap₂ (λ (n : ℕ) (l : List ℕ). records_read n l) count_there part_there ∙ records_read_lem (rank h.places) h.sites h.items h.records f.records in
      (z, history_read_lem whole z ∙ (λ t. record { sites = sites_there t; items = items_there t; places = places_there t; folded = base_there t; base = values_there t; records = records t }))
