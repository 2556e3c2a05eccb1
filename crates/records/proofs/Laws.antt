-- Laws of a record in words: what is read from them, what is written, and the test for shape.
use mathlib.Core.Path.{◌≡◌, refl, sym, ap, ap₂, subst, ◌∙◌}
use mathlib.Core.Bool.{Bool, true, false, ◌&&◌, ◌||◌}
use mathlib.Core.List.{List, [], ◌∷◌, ◌++◌, map}
use Prim.Native.Nat.{ℕ, zero, suc, ◌+◌, ◌*◌, ◌-◌, ◌/◌, ◌%◌, ◌≤◌, ◌<◌, min}
use native.Mathlib.Omega.{arith}
use native.Mathlib.Numerals.{add-one}
use lib.ListN.{length, get_or, set, take, drop, length-set, length-take, length-drop, length-map, drop_of_length-le, get_or-map}
use lib.Seq.{get_or-set_same, get_or-set_other, get_or-take, take_all, take-suc, take-length, length-take-le, ext_get_or}
use lib.Dec.{ltb, leb, eqb}
use mir.Val.{to_z}
use mir.Syntax.{w32}
use borrow.Author.Tests.{lt-ltb, le-ltb, ltb-true, ltb-false, le-leb, lt-leb, leb-true, eq-eqb, ne_eqb}
use Rattle.std.specs.List.{list_any, range_with_len}
use Rattle.lists.specs.Lists.{any, every}
use Rattle.lists.proofs.Every.{and_true, every_all}
use Rattle.lanes.specs.Lanes.{bytes}
use Rattle.lanes.proofs.Laws.{bytes_length}
use Rattle.words.specs.Words.{part, put, overlaid}
use Rattle.words.proofs.Parts.{part_length, part_get_d, put_length, put_here, put_below, put_get_d_below}
use Rattle.words.proofs.Walks.{overlaid_same}
use Rattle.timestamp_order.specs.Timestamp.{Stamp, room}
use Rattle.timestamp_words.specs.InWords.{stamp_in, stamp_size, stamp_range, stamp_words, stamp_shaped}
use Rattle.timestamp_order.specs.Made.{made_by}
use Rattle.timestamp_words.proofs.Words.{stamp_front, words_back, words_length}
use Rattle.site_operations.specs.Operations.{Op, no_op}
use Rattle.site_operations.specs.InWords.{op_in, op_at, ops_in, ops_size, OpsLaid, Put}
use Rattle.site_operations.proofs.Laws.{ops_at, ops_length, next_laid}
use Rattle.limits.specs.Limits.{items_most, ops_most}
use Rattle.records.specs.Records.{Record, op_fits, record_fits}
use Rattle.record_codes.specs.Codes.{stamp_at, codes_at, values_at, packed_size, codes_most, op_of_code, ops_of, joined, code_number, codes_in, places_in, coded, code_of, Packed}
use Rattle.record_packing.proofs.Laws.{places_length, place_at_lem}
use Rattle.records.specs.InWords.{record_size, count_in, record_in, record_range, Written}

-- ---- read
module _ (w : List ℕ) where
  pub stamp_short : length w < stamp_at → stamp_in (0 ∷ []) ≡ (record_in w).stamp
  unfolding record_in stamp_in
  stamp_short h = ap (λ (x : List ℕ). stamp_in (take stamp_size x)) (sym (drop_of_length-le w {i = stamp_at} (omega arith)))

  pub stamp_long : stamp_in (part w stamp_at (length w - stamp_at)) ≡ (record_in w).stamp
  unfolding record_in
  stamp_long = ap stamp_in (take_all (length w - 2) (drop 2 w) (omega (arith, length-drop 2 w))) ∙ sym (stamp_front (drop 2 w))

module _ (w : List ℕ) where
  pub count_law : length (record_in w).ops ≡ min (get_or w 1 0) ops_most
  unfolding record_in
  count_law = length-take-le (count_in w) (places_in w) (omega (arith, places_length w))

  pub op_at_lem : (i : ℕ) → i < length (record_in w).ops → get_or (record_in w).ops i no_op ≡ get_or (places_in w) i no_op
  unfolding record_in
  op_at_lem i h = get_or-take (count_in w) (places_in w) i no_op (omega (arith, count_law))

  -- where the words are those of a record
  pub op_there : (r : Record) → record_in w ≡ r → (i : ℕ) → i < length (record_in w).ops → get_or (places_in w) i no_op ≡ get_or r.ops i no_op
  op_there r meant i h = sym (op_at_lem i h) ∙ ap (λ (q : Record). get_or q.ops i no_op) meant

  -- of those before operation a
  pub op_before : (a i : ℕ) → i < length (take a (record_in w).ops) → get_or (take a (record_in w).ops) i no_op ≡ get_or (places_in w) i no_op
  op_before a i h =
      let both = length-take a (record_in w).ops in
      get_or-take a (record_in w).ops i no_op (omega (arith, both)) ∙ op_at_lem i (omega (arith, both))

  -- the operations laid so far, and one more
  pub laid_next : (i : ℕ) (out out' : List ℕ) → i < length (record_in w).ops → OpsLaid i (take i (record_in w).ops) out → Put out out' i (get_or (places_in w) i no_op) → OpsLaid (i + 1) (take (i + 1) (record_in w).ops) out'
  laid_next i out out' h laid put =
      let os = (record_in w).ops in
      let more : take i os ++ (get_or (places_in w) i no_op ∷ []) ≡ take (i + 1) os
      = ap (λ (o : Op). take i os ++ (o ∷ [])) (sym (op_at_lem i h)) ∙ sym (take-suc os i no_op h) ∙ ap (λ (k : ℕ). take k os) (sym (add-one i)) in
      subst (λ (xs : List Op). OpsLaid (i + 1) xs out') more (next_laid i (take i os) out out' (get_or (places_in w) i no_op) laid (omega (arith, count_law)) put)

  pub laid_all : (i : ℕ) (out : List ℕ) → i ≡ length (record_in w).ops → OpsLaid i (take i (record_in w).ops) out → OpsLaid (length (record_in w).ops) (record_in w).ops out
  laid_all i out is laid =
      let os = (record_in w).ops in
      subst (λ (xs : List Op). OpsLaid (length os) xs out) (take-length os) (subst (λ (k : ℕ). OpsLaid k (take k os) out) is laid)

-- a test asked at the places of a list of operations, of each of them
pub any_by_place : (p : Op → Bool) (q : ℕ → Bool) (os : List Op) (a : ℕ)
    → ((i : ℕ) → i < length os → q (a + i) ≡ p (get_or os i no_op)) → list_any q (range_with_len a (length os)) ≡ any p os
any_by_place p q [] a h = refl
any_by_place p q (o ∷ os) a h =
    let first : a ≡ a + 0 = omega arith in
    ap₂ (λ (s t : Bool). s || t) (ap q first ∙ h 0 (omega arith))
    (any_by_place p q os (a + 1) (λ i k. let next : a + 1 + i ≡ a + suc i = omega arith in ap q next ∙ h (suc i) (omega arith)))

-- ---- written: the site and the number of operations, then the timestamp, then the operations
module _ (w : List ℕ) (size : length w ≡ record_size) (site n : ℕ) where
  abbrev headed : List ℕ
  headed = set (set w 0 site) 1 n

  headed_size : length headed ≡ record_size
  headed_size = length-set (set w 0 site) 1 n ∙ length-set w 0 site ∙ size

  module _ (s : Stamp) (ys : List ℕ) (is : ys ≡ overlaid (part headed stamp_at stamp_size) (stamp_words s)) where
    abbrev stamped : List ℕ
    stamped = put headed stamp_at stamp_size ys

    stamp_words_lem : ys ≡ stamp_words s
    stamp_words_lem = is ∙ overlaid_same (part headed stamp_at stamp_size) (stamp_words s) (words_length s ∙ sym (part_length headed stamp_at stamp_size (omega (arith, headed_size))))

    stamp_fits : length ys ≡ stamp_size
    stamp_fits = ap length stamp_words_lem ∙ words_length s

    pub stamped_size : length stamped ≡ record_size
    stamped_size = put_length headed stamp_at stamp_size ys (omega (arith, headed_size)) stamp_fits ∙ headed_size

    module _ (ops : List ℕ) (all : length ops ≡ ops_size) (zs : List ℕ) (same : length zs ≡ length (part stamped codes_at packed_size)) (are : Packed ops zs) where
      fits : length zs ≡ packed_size
      fits = same ∙ part_length stamped codes_at packed_size (omega (arith, stamped_size))

      abbrev filled : List ℕ
      filled = put stamped codes_at packed_size zs

      pub filled_size : length filled ≡ length w
      filled_size = put_length stamped codes_at packed_size zs (omega (arith, stamped_size)) fits ∙ stamped_size ∙ sym size

      front : (i : ℕ) → i < stamp_at → get_or filled i 0 ≡ get_or headed i 0
      front i h =
          put_get_d_below stamped codes_at packed_size zs (omega (arith, stamped_size)) fits i (omega arith)
          ∙ put_get_d_below headed stamp_at stamp_size ys (omega (arith, headed_size)) stamp_fits i h

      filled_site : get_or filled 0 0 ≡ site
      filled_site = front 0 (omega arith) ∙ get_or-set_other (set w 0 site) 1 0 n 0 (λ z. omega arith) ∙ get_or-set_same w 0 site 0 (omega arith)

      filled_count : get_or filled 1 0 ≡ n
      filled_count = front 1 (omega arith) ∙ get_or-set_same (set w 0 site) 1 n 0 (omega (arith, length-set w 0 site))

      filled_stamp : part filled stamp_at stamp_size ≡ stamp_words s
      filled_stamp =
          put_below stamped codes_at packed_size zs (omega (arith, stamped_size)) fits stamp_at stamp_size (omega arith)
          ∙ put_here headed stamp_at stamp_size ys (omega (arith, headed_size)) stamp_fits
          ∙ stamp_words_lem

      filled_word : (i : ℕ) → i < packed_size → get_or filled (codes_at + i) 0 ≡ get_or zs i 0
      filled_word i h =
          sym (part_get_d filled codes_at packed_size i h)
          ∙ ap (λ (x : List ℕ). get_or x i 0) (put_here stamped codes_at packed_size zs (omega (arith, stamped_size)) fits)

      filled_code : (i : ℕ) → i < ops_most → get_or (codes_in filled) i 0 ≡ code_of (op_at ops i)
      filled_code i h =
          ap₂ (λ (a b : ℕ). get_or (bytes ops_most (joined a b)) i 0) (filled_word 0 (omega arith)) (filled_word 1 (omega arith))
          ∙ are.codes_are i h

      filled_place : (i : ℕ) → i < ops_most → get_or (places_in filled) i no_op ≡ coded (op_at ops i)
      filled_place i h =
          let o = op_at ops i in
          let c = filled_code i h in
          let kind : get_or (codes_in filled) i 0 % 2 ≡ (coded o).kind = omega (arith, c) in
          let item : get_or (codes_in filled) i 0 / 2 ≡ (coded o).item = omega (arith, c) in
          let value : to_z w32 (get_or filled (values_at + i) 0) ≡ o.value = ap (to_z w32) (ap (λ (k : ℕ). get_or filled k 0) (omega arith) ∙ filled_word (2 + i) (omega arith)) ∙ are.values_are i h in
          place_at_lem filled i h ∙ (λ t. record { kind = kind t; item = item t; value = value t })

      filled_ops : (m : ℕ) → m ≤ ops_most → take m (places_in filled) ≡ map coded (ops_in m ops)
      filled_ops m few =
          let sized : length (take m (places_in filled)) ≡ m = length-take-le m (places_in filled) (omega (arith, places_length filled)) in
          let sized' : length (map coded (ops_in m ops)) ≡ m = length-map (ops_in m ops) coded ∙ ops_length m ops in
          ext_get_or no_op (take m (places_in filled)) (map coded (ops_in m ops)) (sized ∙ sym sized')
          (λ i h.
          let j : i < m = omega (arith, sized) in
          get_or-take m (places_in filled) i no_op j
          ∙ filled_place i (omega arith)
          ∙ sym (get_or-map coded (ops_in m ops) i (op_in []) ∙ ap coded (ops_at m ops i j)))

      filled_codes : (m : ℕ) → m ≤ ops_most → every (λ c. ltb c codes_most) (take m (codes_in filled)) ≡ true
      filled_codes m few =
          let sized : length (take m (codes_in filled)) ≡ m = length-take-le m (codes_in filled) (omega (arith, bytes_length ops_most (code_number filled))) in
          every_all (λ c. ltb c codes_most) (take m (codes_in filled)) 0
          (λ i h.
          let c : get_or (take m (codes_in filled)) i 0 ≡ code_of (op_at ops i) = get_or-take m (codes_in filled) i 0 (omega (arith, sized)) ∙ filled_code i (omega (arith, sized)) in
          lt-ltb (get_or (take m (codes_in filled)) i 0) codes_most (omega (arith, c)))

      module _ (few : length s.tuples ≤ room) where
        filled_record : record_in filled ≡ record { site = site; stamp = s; ops = map coded (ops_in (min n ops_most) ops) }
        unfolding record_in
        filled_record =
            let stamp = ap stamp_in filled_stamp ∙ words_back s few in
            let held = ap (λ (k : ℕ). take (min k ops_most) (places_in filled)) filled_count ∙ filled_ops (min n ops_most) (omega arith) in
            λ t. record { site = filled_site t; stamp = stamp t; ops = held t }

        filled_range : 1 ≤ n → n ≤ ops_most → record_range filled ≡ true
        unfolding record_range stamp_words
        filled_range some most = rw (filled_count, le-leb 1 n some, le-leb n ops_most most, ap stamp_range filled_stamp, le-leb (length s.tuples) room few) (filled_codes (min n ops_most) (omega arith))

        pub written : Written w filled site n s ops
        written = record { meant = λ _ _. filled_record; ranged = λ _ _. filled_range; kept = λ other. absurd (other size all) }

pub not_written : (w : List ℕ) (site n : ℕ) (s : Stamp) (ops : List ℕ) → (length w ≡ record_size → length ops ≡ ops_size → ⊥) → Written w w site n s ops
not_written w site n s ops other = record { meant = λ a b. absurd (other a b); ranged = λ a b. absurd (other a b); kept = λ _. refl }

-- ---- operations that a code has room for are read back as they were
pub coded_same : (o : Op) → op_fits items_most o ≡ true → coded o ≡ o
coded_same o e =
    let q = and_true (leb o.kind 1) (ltb o.item items_most) e in
    let kind : o.kind % 2 ≡ o.kind = omega (arith, leb-true o.kind 1 q.0) in
    let item : o.item % items_most ≡ o.item = omega (arith, ltb-true o.item items_most q.1) in
    λ t. record { kind = kind t; item = item t; value = o.value }

pub all_coded_same : (os : List Op) → every (op_fits items_most) os ≡ true → map coded os ≡ os
all_coded_same [] e = refl
all_coded_same (o ∷ os) e =
    let q = and_true (op_fits items_most o) (every (op_fits items_most) os) e in
    ap₂ (λ (x : Op) (xs : List Op). x ∷ xs) (coded_same o q.0) (all_coded_same os q.1)

-- what fits so many items fits more
pub fits_more : (items more : ℕ) → items ≤ more → (os : List Op) → every (op_fits items) os ≡ true → every (op_fits more) os ≡ true
fits_more items more h [] e = refl
fits_more items more h (o ∷ os) e =
    let q = and_true (op_fits items o) (every (op_fits items) os) e in
    let k = and_true (leb o.kind 1) (ltb o.item items) q.0 in
    rw (k.0, lt-ltb o.item more (omega (arith, ltb-true o.item items k.1))) (fits_more items more h os q.1)

-- ---- the test of the codes
-- codes below twice the items are of operations that fit
fits_by_code : (items c v : ℕ) → ltb c (2 * items) ≡ op_fits items (op_of_code c v)
fits_by_code items c v = go (ltb (c / 2) items) refl ∙ sym (ap (λ (b : Bool). b && ltb (c / 2) items) (le-leb (c % 2) 1 (omega arith)))
  where
    go : (t : Bool) → ltb (c / 2) items ≡ t → ltb c (2 * items) ≡ t
    go true f = lt-ltb c (2 * items) (omega (arith, ltb-true (c / 2) items f))
    go false f = le-ltb c (2 * items) (omega (arith, ltb-false (c / 2) items f))

all_fit_by_code : (items n : ℕ) (cs vs : List ℕ) → every (λ c. ltb c (2 * items)) (take n cs) ≡ every (op_fits items) (take n (ops_of cs vs))
all_fit_by_code items zero cs vs = refl
all_fit_by_code items (suc n) [] vs = refl
all_fit_by_code items (suc n) (c ∷ cs) vs = ap₂ (λ (s t : Bool). s && t) (fits_by_code items c (get_or vs 0 0)) (all_fit_by_code items n cs (drop 1 vs))

-- ---- the test for shape
turned : (a e b c d : Bool) → ((a && e) && (b && (c && d))) ≡ (b && ((a && c) && (e && d)))
turned true true b c d = refl
turned true false true true d = refl
turned true false true false d = refl
turned true false false c d = refl
turned false e true c d = refl
turned false e false c d = refl

module _ (place : ℕ → ℕ) (w : List ℕ) (sites items : ℕ) where
  abbrev pub shape : Bool
  shape = eqb (length w) record_size && (record_range w && record_fits place sites items (record_in w))

  pub shape_unsized : (length w ≡ record_size → ⊥) → false ≡ shape
  shape_unsized h = sym (rw (ne_eqb (length w) record_size h))

  module _ (size : length w ≡ record_size) (n : ℕ) (is : n ≡ get_or w 1 0) where
    pub shape_none : n ≡ 0 → false ≡ shape
    unfolding record_range
    shape_none z = sym (rw (eq-eqb (length w) record_size size, lt-leb 1 (get_or w 1 0) (omega arith)))

    module _ (some : n ≡ 0 → ⊥) where
      pub shape_many : ops_most < n → false ≡ shape
      unfolding record_range
      shape_many h = sym (rw (eq-eqb (length w) record_size size, le-leb 1 (get_or w 1 0) (omega arith), lt-leb (get_or w 1 0) ops_most (omega arith)))

      module _ (few : n ≤ ops_most) (site : ℕ) (at : site ≡ get_or w 0 0) where
        abbrev fitting_ops : ℕ → Bool
        fitting_ops k = every (λ c. ltb c codes_most) (take k (codes_in w)) && every (op_fits items) (take k (places_in w))

        shape_is : shape ≡ (ltb site sites && (stamp_shaped place site (part w stamp_at stamp_size) && fitting_ops n))
        unfolding record_range record_fits record_in stamp_shaped
        shape_is =
            let m : min n ops_most ≡ n = omega arith in
            rw (eq-eqb (length w) record_size size, ← is, ← at, le-leb 1 n (omega arith), le-leb n ops_most few, m)
            (turned (stamp_range (part w stamp_at stamp_size)) (every (λ c. ltb c codes_most) (take n (codes_in w))) (ltb site sites) (made_by place site (stamp_in (part w stamp_at stamp_size))) (every (op_fits items) (take n (places_in w))))

        pub shape_elsewhere : sites ≤ site → false ≡ shape
        shape_elsewhere h = sym (shape_is ∙ rw (le-ltb site sites h))

        module _ (here : site < sites) (made : Bool) (m : made ≡ stamp_shaped place site (part w stamp_at stamp_size)) where
          pub shape_unmade : made ≡ false → made ≡ shape
          shape_unmade f = f ∙ sym (shape_is ∙ rw (lt-ltb site sites here, sym m ∙ f))

          pub shape_by_ops : made ≡ true → (k : ℕ) → k ≡ n → (fit : Bool) → fit ≡ (every (λ c. ltb c codes_most) (take k (codes_in w)) && every (λ c. ltb c (2 * items)) (take k (codes_in w))) → fit ≡ shape
          shape_by_ops t k same fit e =
              let by_code = all_fit_by_code items k (codes_in w) (part w values_at ops_most) in
              e ∙ ap (λ (b : Bool). every (λ c. ltb c codes_most) (take k (codes_in w)) && b) by_code ∙ ap fitting_ops same ∙ sym (shape_is ∙ rw (lt-ltb site sites here, sym m ∙ t))
