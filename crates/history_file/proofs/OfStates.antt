-- The history of a well-shaped state fits the file, so what an export wrote reads back.
use mathlib.Core.Path.{◌≡◌, refl, sym, ap, subst}
use mathlib.Core.Bool.{Bool, true, false, ◌&&◌}
use mathlib.Core.List.{List, [], ◌∷◌, ◌++◌, map}
use mathlib.Core.Option.{some}
use Prim.Native.Nat.{ℕ, zero, suc, ◌+◌, ◌≤◌, ◌<◌}
use native.Mathlib.Omega.{arith}
use lib.ListN.{length, get_or, take, drop}
use lib.Seq.{take-append_seam}
use lib.Dec.{eqb, ltb, leb}
use borrow.Author.Tests.{leb-true, ltb-true, ltb-false}
use mir.Val.{to_z, SFits}
use mir.ValLaws.{to_z-Fits}
use mir.Syntax.{w32}
use Rattle.words.specs.Words.{part, chunks}
use Rattle.lists.specs.Lists.{every, every_from}
use Rattle.lists.proofs.Every.{and_true, every_take}
use Rattle.timestamp_order.specs.Timestamp.{Pair, Stamp, last_pair, room}
use Rattle.timestamp_words.specs.InWords.{pairs_at, stamp_in, stamp_size, stamp_range}
use Rattle.timestamp_order.specs.Made.{rising as risingOf, made_by}
use Rattle.timestamp_order.proofs.Made.{made_parts, made_length}
use Rattle.site_operations.specs.Operations.{Op}
use Rattle.site_operations.specs.InWords.{table_in}
use Rattle.limits.specs.Limits.{ops_most}
use Rattle.placement.specs.Places.{placement_number}
use Rattle.record_codes.specs.Codes.{codes_most, values_at, op_of_code, ops_of, codes_in, places_in}
use Rattle.records.specs.Records.{op_fits, record_fits}
use Rattle.records.specs.InWords.{record_in, record_range, record_size, count_in}
use Rattle.records.proofs.Laws.{count_law}
use Rattle.network_layout.specs.Layout.{item_count, history_at, history_size, base_at, base_size, state_size}
use Rattle.protocol.specs.Network.{place_of, line_fits, base_fits, well_shaped}
use Rattle.network_layout.specs.InWords.{record_words, base_in, network_in, shaped, meaning}
use Rattle.network_layout.proofs.Assembled.{parts_of, range_parts}
use Rattle.network_layout.proofs.Performs.{items_count, records_count, shaped_range, shaped_well}
use Rattle.history_file.specs.File.{history_of, file_of}
use Rattle.history_file.specs.Reading.{file_number, history_read}
use Rattle.history_file.specs.Promises.{export_of}
use Rattle.history_file.proofs.Tables.{table_length, table_ranks, table_holds_each, table_low}
use Rattle.history_file.proofs.Bases.{values_count, values_zero}
use Rattle.history_file.proofs.Exports.{state_few, state_some, state_places}
use Rattle.history_file.proofs.OnlyFile.{every_drop}
use Rattle.history_file.proofs.RoundTrip.{All, none as no_more, more, PairFits, OpFits, RecordFits, HistoryFits, reads_back}

-- ---- words of 32 bits
abbrev pub is_word : ℕ → Bool
is_word x = ltb x 4294967296

abbrev pub Words : List ℕ → Type 0
Words l = every is_word l ≡ true

word_at : (l : List ℕ) (i : ℕ) → Words l → get_or l i 0 < 4294967296
word_at [] i e = omega arith
word_at (x ∷ l) zero e = ltb-true x 4294967296 (and_true (is_word x) (every is_word l) e).0
word_at (x ∷ l) (suc i) e = word_at l i (and_true (is_word x) (every is_word l) e).1

words_part : (l : List ℕ) (at n : ℕ) → Words l → Words (part l at n)
words_part l at n e = every_take is_word n (drop at l) (every_drop is_word at l e)

words_chunks : (m k : ℕ) (l : List ℕ) → Words l → All Words (chunks m k l)
unfolding chunks
words_chunks m zero l e = no_more
words_chunks m (suc k) l e = more (every_take is_word m l e) (words_chunks m k (drop m l) (every_drop is_word m l e))

-- ---- a timestamp
all_take : {A : Type 0} {P : A → Type 0} (n : ℕ) (xs : List A) → All P xs → All P (take n xs)
all_take zero xs a = no_more
all_take (suc n) [] a = no_more
all_take (suc n) (x ∷ xs) (more p a) = more p (all_take n xs a)

counts_fit_lem : (w : List ℕ) (at n : ℕ) → Words w → All (λ (p : Pair). p.count < 4294967296) (pairs_at w at n)
counts_fit_lem w at zero e = no_more
counts_fit_lem w at (suc n) e = more (word_at w (at + 1) e) (counts_fit_lem w (at + 2) n e)

first_of : {P : Pair → Type 0} (x : Pair) (xs : List Pair) → All P (x ∷ xs) → P x
first_of x xs (more p a) = p

-- rising sites stand at the last one's place or before it
sites_fit : (place : ℕ → ℕ) (ps : List Pair) (j : ℕ) → risingOf place ps ≡ true → (last_pair ps).site ≡ j → All (λ (p : Pair). place p.site ≤ place j) ps
unfolding risingOf
sites_fit place [] j r e = no_more
sites_fit place (x ∷ []) j r e = more {x = x} (omega (arith, ap place e)) no_more
sites_fit place (x ∷ (y ∷ ys)) j r e =
    let q = and_true (ltb (place x.site) (place y.site)) (risingOf place (y ∷ ys)) r in
    let rest = sites_fit place (y ∷ ys) j q.1 e in
    more {x = x} (omega (arith, ltb-true (place x.site) (place y.site) q.0, first_of y ys rest)) rest

-- a number that stands before a site of the group is one of them, since past them each number is its own place
pairs_fit : (place : ℕ → ℕ) (ps : List Pair) (j sites : ℕ) → place j < sites → sites ≤ 8 → ((k : ℕ) → sites ≤ k → place k ≡ k)
    → All (λ (p : Pair). place p.site ≤ place j) ps → All (λ (p : Pair). p.count < 4294967296) ps → All PairFits ps
pairs_fit place [] j sites h few past a b = no_more
pairs_fit place (p ∷ ps) j sites h few past (more s a) (more c b) =
    more {x = p} (record { site = small (ltb p.site sites) refl; count = c }) (pairs_fit place ps j sites h few past a b)
  where
    small : (t : Bool) → ltb p.site sites ≡ t → p.site < 256
    small true e = omega (arith, ltb-true p.site sites e)
    small false e = absurd (omega (arith, past p.site (ltb-false p.site sites e), ltb-false p.site sites e))

-- ---- operations
ops_fit : (items : ℕ) → items ≤ 64 → (n : ℕ) (cs vs : List ℕ) → Words vs → every (op_fits items) (take n (ops_of cs vs)) ≡ true → All OpFits (take n (ops_of cs vs))
ops_fit items h zero cs vs e f = no_more
ops_fit items h (suc n) [] vs e f = no_more
ops_fit items h (suc n) (c ∷ cs) vs e f =
    let o : Op = op_of_code c (get_or vs 0 0) in
    let q = and_true (op_fits items o) (every (op_fits items) (take n (ops_of cs (drop 1 vs)))) f in
    let k = and_true (leb o.kind 1) (ltb o.item items) q.0 in
    more {x = o}
    (record {
      kind = omega (arith, leb-true o.kind 1 k.0);
      item = omega (arith, ltb-true o.item items k.1);
      value = to_z-Fits w32 (get_or vs 0 0) (record { fits = word_at vs 0 e });
    })
    (ops_fit items h n cs (drop 1 vs) (every_drop is_word 1 vs e) q.1)

-- ---- a record
module _ (place : ℕ → ℕ) (sites items : ℕ) (few_sites : sites ≤ 8) (few_items : items ≤ 64) (inside : (k : ℕ) → k < sites → place k < sites) (past : (k : ℕ) → sites ≤ k → place k ≡ k) where
  record_fits_lem : (w : List ℕ) → Words w → record_range w ≡ true → record_fits place sites items (record_in w) ≡ true → RecordFits place sites items (record_in w)
  unfolding record_in record_fits record_range stamp_in
  record_fits_lem w e r f =
      let s = part w 2 stamp_size in
      let os = places_in w in
      let site = get_or w 0 0 in
      let stamp : Stamp = stamp_in s in
      let n = count_in w in
      let p = and_true (ltb site sites) (made_by place site stamp && every (op_fits items) (take n os)) f in
      let q = and_true (made_by place site stamp) (every (op_fits items) (take n os)) p.1 in
      let c = and_true (leb 1 (get_or w 1 0)) (leb (get_or w 1 0) ops_most && (stamp_range s && every (λ c. ltb c codes_most) (take n (codes_in w)))) r in
      let count : length (take n os) ≡ n = count_law w in
      let m = made_parts place site stamp q.0 in
      let below : site < sites = ltb-true site sites p.0 in
      let some : 1 ≤ get_or w 1 0 = leb-true 1 (get_or w 1 0) c.0 in
      let counts : All (λ (x : Pair). x.count < 4294967296) stamp.tuples = all_take (get_or s 1 0) (pairs_at s 2 room) (counts_fit_lem s 2 room (words_part w 2 stamp_size e)) in
      record {
        fits = f;
        site = omega arith;
        epoch = word_at s 0 (words_part w 2 stamp_size e);
        some_tuples = omega (arith, m.some);
        few_tuples = omega (arith, made_length place site stamp q.0, inside site below);
        some_ops = omega (arith, count);
        few_ops = omega (arith, count);
        tuples = pairs_fit place stamp.tuples site sites (inside site below) few_sites past (sites_fit place stamp.tuples site m.rises m.last) counts;
        ops = ops_fit items few_items n (codes_in w) (part w values_at ops_most) (words_part w values_at ops_most e) q.1;
      }

  records_fit : (ws : List (List ℕ)) → All Words ws → every record_range ws ≡ true → every (record_fits place sites items) (map record_in ws) ≡ true → All (RecordFits place sites items) (map record_in ws)
  records_fit [] a r f = no_more
  records_fit (w ∷ ws) (more e a) r f =
      let p = and_true (record_range w) (every record_range ws) r in
      let q = and_true (record_fits place sites items (record_in w)) (every (record_fits place sites items) (map record_in ws)) f in
      more (record_fits_lem w e p.0 q.0) (records_fit ws a p.1 q.1)

-- ---- the base values
all_fit : (ws : List ℕ) → Words ws → All (SFits w32) (table_in ws)
all_fit [] e = no_more
all_fit (v ∷ ws) e =
    let q = and_true (is_word v) (every is_word ws) e in
    more {x = to_z w32 v} (to_z-Fits w32 v (record { fits = ltb-true v 4294967296 q.0 })) (all_fit ws q.1)

values_fit : (items : ℕ) (w : List ℕ) → Words w → All (SFits w32) (base_in items w).values
values_fit items w e = all_fit (part w 1 items) (words_part w 1 items e)

-- ---- a state
pub history_fits : (w : List ℕ) → Words w → length w ≡ state_size → shaped w ≡ true → HistoryFits (history_of (network_in w))
unfolding parts_of network_in well_shaped
history_fits w e sized s =
    let r = range_parts w (shaped_range w s) in
    let n = network_in w in
    let place = place_of n.items in
    let sites = length n.sites in
    let items = length n.items in
    let stamps = every_from (λ i x. made_by place i x.stamp) 0 n.sites in
    let records = every (record_fits place sites items) n.history in
    let lines = every_from (line_fits n.items n.history) 0 n.lines in
    let base = base_fits n.base in
    let a = (and_true (eqb (placement_number sites n.items) 0) (stamps && (records && (lines && base))) (shaped_well w s)).1 in
    let b = (and_true stamps (records && (lines && base)) a).1 in
    let c = (and_true records (lines && base) b).0 in
    let few_sites : sites ≤ 8 = state_few w s in
    let few_items : items ≤ 64 = omega (arith, items_count w 0, r.few_items) in
    let g = state_places w s in
    let fits : All (RecordFits place sites items) n.history
    = records_fit place sites items few_sites few_items g.inside g.missing (record_words w) (words_chunks record_size (get_or w 2 0) (part w history_at history_size) (words_part w history_at history_size e)) r.record_ranges c in
    record {
      some_sites = state_some w s;
      few_sites = few_sites;
      some_items = omega (arith, items_count w 0, r.some_items);
      few_items = few_items;
      few_records = omega (arith, records_count w, r.few_records);
      as_many = table_length sites n.items few_sites g;
      each = table_holds_each sites n.items few_sites g;
      low = table_low sites n.items few_sites g;
      each_item = values_count w sized s;
      values = values_fit (item_count w) (part w base_at base_size) (words_part w base_at base_size e);
      none_folded = values_zero w sized s;
      records = subst (λ (f : ℕ → ℕ). All (RecordFits f sites items) n.history) (sym (table_ranks sites n.items few_sites g)) fits;
    }

-- the file of a well-shaped state, alone or at the end of any longer buffer, reads back to its history
pub state_reads_back : (w : List ℕ) → Words w → length w ≡ state_size → shaped w ≡ true → (before : List ℕ)
    → (file_number (before ++ file_of (history_of (network_in w))) ≡ 0) × (history_read (before ++ file_of (history_of (network_in w))) ≡ history_of (network_in w))
state_reads_back w e sized s before = reads_back (history_of (network_in w)) (history_fits w e sized s) before

-- what an accepted export wrote is that file
pub export_wrote : (w b : List ℕ) → (export_of (meaning w) b).number ≡ 0 → (shaped w ≡ true) × (take (export_of (meaning w) b).size (export_of (meaning w) b).buffer ≡ file_of (history_of (network_in w)))
unfolding export_of meaning
export_wrote w b e = one (shaped w) refl
  where
    two : (s : shaped w ≡ true) (c : Bool) → ltb (length b) (length (file_of (history_of (network_in w)))) ≡ c → (shaped w ≡ true) × (take (export_of (meaning w) b).size (export_of (meaning w) b).buffer ≡ file_of (history_of (network_in w)))
    two s true l = absurd (let z : ◌≡◌ {A = ℕ} 25 0 = rw (s, l) at e in omega arith)
    two s false l = (s, rw (s, l) (take-append_seam (file_of (history_of (network_in w))) (drop (length (file_of (history_of (network_in w)))) b)))

    one : (c : Bool) → shaped w ≡ c → (shaped w ≡ true) × (take (export_of (meaning w) b).size (export_of (meaning w) b).buffer ≡ file_of (history_of (network_in w)))
    one true s = two s (ltb (length b) (length (file_of (history_of (network_in w))))) refl
    one false s = absurd (let z : ◌≡◌ {A = ℕ} 6 0 = rw s at e in omega arith)

pub export_reads_back : (w b : List ℕ) → Words w → length w ≡ state_size → (export_of (meaning w) b).number ≡ 0 → (before : List ℕ)
    → (file_number (before ++ take (export_of (meaning w) b).size (export_of (meaning w) b).buffer) ≡ 0) × (history_read (before ++ take (export_of (meaning w) b).size (export_of (meaning w) b).buffer) ≡ history_of (network_in w))
export_reads_back w b e sized n before =
    let x = export_wrote w b n in
    subst (λ (f : List ℕ). (file_number (before ++ f) ≡ 0) × (history_read (before ++ f) ≡ history_of (network_in w))) (sym x.1) (state_reads_back w e sized x.0 before)
