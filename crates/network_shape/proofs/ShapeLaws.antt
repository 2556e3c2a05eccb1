-- The test for shape: what each part of it says of the network.
use mathlib.Core.Path.{◌≡◌, refl, sym, ap, ap₂, subst, ◌∙◌}
use mathlib.Core.Bool.{Bool, true, false, not, ◌&&◌, and_comm}
use mathlib.Core.List.{List, [], ◌∷◌, map}
use Prim.Native.Nat.{ℕ, zero, suc, ◌+◌, ◌-◌, ◌*◌, ◌≤◌, ◌<◌, min}
use native.Mathlib.Omega.{arith}
use lib.ListN.{length, get_or, length-map}
use lib.Dec.{leb, eqb, ltb}
use borrow.Author.Tests.{leb-true, ltb-true, ltb-false, eq-eqb, ne_eqb, eqb-true}
use mir.Val.{to_z}
use mir.Syntax.{w32}
use Rattle.words.specs.Words.{part, chunks}
use Rattle.lists.specs.Lists.{any, every, every_from}
use Rattle.lists.specs.Numbers.{first_number, number_if}
use Rattle.words.proofs.Parts.{part_get_d, part_part}
use Rattle.words.proofs.Chunks.{chunks_length}
use Rattle.lists.proofs.Every.{and_true}
use Rattle.timestamp_order.specs.Timestamp.{Stamp}
use Rattle.timestamp_order.specs.Order.{rank}
use Rattle.timestamp_words.specs.InWords.{stamp_range, stamp_shaped}
use Rattle.timestamp_order.specs.Made.{made_by}
use Rattle.site.specs.Site.{Site}
use Rattle.site.specs.InWords.{site_in, site_range, site_size}
use Rattle.site.proofs.Laws.{stamp_law}
use Rattle.site_operations.specs.InWords.{table_in}
use Rattle.placement.specs.Placement.{Item, items_number, LineBits}
use Rattle.placement.specs.Places.{cyclic, placement_number}
use Rattle.placement.specs.InWords.{item_size, item_in, items_in}
use Rattle.placement_order.specs.Tables.{places_by}
use Rattle.placement_order.proofs.Lines.{places_ordered}
use Rattle.limits.specs.Limits.{items_most, sites_most, records_most}
use Rattle.lines.specs.InWords.{line_in, line_size, line_range}
use Rattle.records.specs.Records.{Record, record_fits}
use Rattle.records.specs.InWords.{record_in, record_range, record_size}
use Rattle.network_layout.specs.Layout.{site_count, item_count, record_count, items_at, items_size, sites_at, sites_size, lines_at, lines_size, history_at, history_size, base_at, base_size, state_size}
use Rattle.protocol.specs.Network.{lines_most, place_of, line_fits, is_zero, base_fits, well_shaped}
use Rattle.network_layout.specs.InWords.{site_words, line_words, record_words, base_in, network_in, in_range, shaped}
use Rattle.network_counts.specs.Counts.{counts_fit}
use Rattle.network_line_shape.specs.LineTests.{line_test, history_in}
use Rattle.network_line_shape.proofs.Walk.{Passed, walk_next, and_swap, and_pairs, from_both, every_both}
use Rattle.network_line_shape.proofs.LineLaws.{line_empty}
use Rattle.network_shape.specs.Tested.{record_test, is_zero_word, placed_in, group_shaped, sites_shaped, history_shaped, lines_shaped, base_shaped, ranked_shaped, Counted, Ranked, idle, Skipped}

-- a record's test asks for its size too, and a chunk has it
pub record_sized : (place : ℕ → ℕ) (sites items : ℕ) (x : List ℕ) → length x ≡ record_size → (r : Bool) → r ≡ (eqb (length x) record_size && record_test place sites items x) → r ≡ record_test place sites items x
record_sized place sites items x size r e = e ∙ ap (λ (b : Bool). b && record_test place sites items x) (eq-eqb (length x) record_size size)

-- idle lines are passed over
pub skip_none : (w : List ℕ) (k : ℕ) → k ≤ lines_most → Skipped w k k
skip_none w k h = record { from = omega arith; few = h; between = λ i a b. absurd (omega (arith, a, b)) }

pub skip_one : (w : List ℕ) (k i : ℕ) → Skipped w k i → i < lines_most → idle (part w (i * line_size) line_size) ≡ true → Skipped w k (i + 1)
skip_one w k i s h e = record { from = omega (arith, s.from); few = omega arith; between = λ j a b. go j a b (ltb j i) refl }
  where
    go : (j : ℕ) → k ≤ j → j < i + 1 → (t : Bool) → ltb j i ≡ t → idle (part w (j * line_size) line_size) ≡ true
    go j a b true f = s.between j a (ltb-true j i f)
    go j a b false f =
        let here : i ≡ j = omega (arith, b, ltb-false j i f) in
        subst (λ (n : ℕ). idle (part w (n * line_size) line_size) ≡ true) here e

module _ (xs : List Item) (h : List Record) (w : List ℕ) where
  idle_fits : (k : ℕ) (l : List ℕ) → idle l ≡ true → true ≡ line_test xs h k l
  idle_fits k l e =
      let q = and_true (eqb (length (line_in l).messages) 0) (eqb (line_in l).arrived 0) e in
      line_empty xs h k l 0 (sym (eqb-true (length (line_in l).messages) 0 q.0)) refl 0 (sym (eqb-true (line_in l).arrived 0 q.1))

  pub skip : (k r : ℕ) → Skipped w k r → Passed (line_test xs h) line_size lines_most w k → Passed (line_test xs h) line_size lines_most w r
  skip k r s p = go (r - k) k (omega (arith, s.from)) (omega arith) p
    where
      go : (d i : ℕ) → i + d ≡ r → k ≤ i → Passed (line_test xs h) line_size lines_most w i → Passed (line_test xs h) line_size lines_most w r
      go zero i e f p =
          let here : i ≡ r = omega (arith, e) in
          subst (Passed (line_test xs h) line_size lines_most w) here p
      go (suc d) i e f p =
          let fits = idle_fits i (part w (i * line_size) line_size) (s.between i f (omega (arith, e))) in
          go d (i + 1) (omega (arith, e)) (omega (arith, f)) (walk_next (line_test xs h) line_size lines_most w i p (omega (arith, e, s.few)) true fits refl)

-- ---- the whole
-- ranges first, as the definition has them; thing by thing, as the code tests them
and_assoc : (a b c : Bool) → (a && (b && c)) ≡ ((a && b) && c)
and_assoc true b c = refl
and_assoc false b c = refl

and_whole : (a b c d e s l r p q s' r' l' v : Bool) → ((a && (b && (c && (d && (e && (s && (l && r))))))) && ((p && q) && (s' && (r' && (l' && v)))))
    ≡ (((a && (b && (c && (d && e)))) && p) && (q && ((s && s') && ((r && r') && ((l && l') && v)))))
and_whole true true true true true s l r p q s' r' l' v =
    let ranges = s && (l && r) in
    let rest = s' && (r' && (l' && v)) in
    ap (λ (x : Bool). ranges && x) (sym (and_assoc p q rest))
    ∙ and_swap ranges p (q && rest)
    ∙ ap (λ (x : Bool). p && x)
    (and_swap ranges q rest
    ∙ ap (λ (x : Bool). q && x)
    (and_pairs s (l && r) s' (r' && (l' && v))
    ∙ ap (λ (x : Bool). (s && s') && x)
    (ap (λ (x : Bool). x && (r' && (l' && v))) (and_comm l r) ∙ and_pairs r l r' (l' && v) ∙ ap (λ (x : Bool). (r && r') && x) (and_assoc l l' v))))
and_whole true true true true false s l r p q s' r' l' v = refl
and_whole true true true false e s l r p q s' r' l' v = refl
and_whole true true false d e s l r p q s' r' l' v = refl
and_whole true false c d e s l r p q s' r' l' v = refl
and_whole false b c d e s l r p q s' r' l' v = refl

site_test : (place : ℕ → ℕ) (i : ℕ) (x : List ℕ) → stamp_shaped place i x ≡ (site_range x && made_by place i (site_in x).stamp)
unfolding stamp_shaped site_range
site_test place i x = ap (λ (s : Stamp). stamp_range x && made_by place i s) (stamp_law x)

-- a placement is refused for an item or for a cycle
placement_test : (sites : ℕ) (xs : List Item) → eqb (placement_number sites xs) 0 ≡ (eqb (items_number sites xs) 0 && not (cyclic xs))
unfolding placement_number
placement_test sites xs = go (eqb (items_number sites xs) 0) refl (cyclic xs) refl
  where
    go : (b : Bool) → eqb (items_number sites xs) 0 ≡ b → (c : Bool) → cyclic xs ≡ c → eqb (first_number (items_number sites xs ∷ number_if (cyclic xs) 5 ∷ [])) 0 ≡ (eqb (items_number sites xs) 0 && not (cyclic xs))
    go true e true f = simp (e, f)
    go true e false f = simp (e, f)
    go false e c f = simp (e)

-- the value of a word is 0 where the word is
zero_word : (v : ℕ) → is_zero (to_z w32 v) ≡ is_zero_word v
zero_word v = go (ltb v 2147483648) refl
  where
    go : (b : Bool) → ltb v 2147483648 ≡ b → is_zero (to_z w32 v) ≡ is_zero_word v
    go true e = rw e
    go false e = let large = ltb-false v 2147483648 e in rw (e, ne_eqb v 0 (λ z. omega (arith, z, large)))

zeros_meant : (ys : List ℕ) → every is_zero (table_in ys) ≡ every is_zero_word ys
zeros_meant [] = refl
zeros_meant (v ∷ vs) = ap₂ (λ (a b : Bool). a && b) (zero_word v) (zeros_meant vs)

module _ (w : List ℕ) where
  abbrev history : List Record
  history = history_in (part w history_at history_size) (record_count w)

  abbrev counts : Bool
  counts = counts_fit (site_count w) (item_count w) (record_count w)

  abbrev place : ℕ → ℕ
  place = place_of (placed_in w)

  shape_is : shaped w ≡ (group_shaped w && (not (cyclic (placed_in w)) && ranked_shaped place w))
  unfolding shaped in_range well_shaped network_in group_shaped sites_shaped history_shaped lines_shaped base_shaped
  shape_is =
      rw (
        length-map (site_words w) site_in ∙ chunks_length site_size (site_count w) (part w sites_at sites_size),
        length-map (chunks item_size (item_count w) (part w items_at items_size)) item_in ∙ chunks_length item_size (item_count w) (part w items_at items_size),
        placement_test (site_count w) (placed_in w),
        from_both site_range site_in (λ (i : ℕ) (s : Site). made_by place i s.stamp) (stamp_shaped place) (site_test place) 0 (site_words w),
        every_both record_range record_in (record_fits place (site_count w) (item_count w)) (record_words w),
        from_both line_range line_in (line_fits (placed_in w) history) (line_test (placed_in w) history) (λ _ _. refl) 0 (line_words w),
      )
      (and_whole
      (leb 1 (site_count w))
      (leb (site_count w) sites_most)
      (leb 1 (item_count w))
      (leb (item_count w) items_most)
      (leb (record_count w) records_most)
      (every site_range (site_words w))
      (every line_range (line_words w))
      (every record_range (record_words w))
      (eqb (items_number (site_count w) (placed_in w)) 0)
      (not (cyclic (placed_in w)))
      (every_from (λ (i : ℕ) (s : Site). made_by place i s.stamp) 0 (map site_in (site_words w)))
      (every (record_fits place (site_count w) (item_count w)) history)
      (every_from (line_fits (placed_in w) history) 0 (map line_in (line_words w)))
      (base_fits (base_in (item_count w) (part w base_at base_size))))

  all_counted : length w ≡ state_size → counts ≡ true → Counted w
  all_counted size e =
      let a = and_true (leb 1 (site_count w)) _ e in
      let b = and_true (leb (site_count w) sites_most) _ a.1 in
      let c = and_true (leb 1 (item_count w)) _ b.1 in
      let d = and_true (leb (item_count w) items_most) (leb (record_count w) records_most) c.1 in
      record {
        sized = size;
        few_sites = leb-true (site_count w) sites_most b.0;
        few_items = leb-true (item_count w) items_most d.0;
        few_records = leb-true (record_count w) records_most d.1;
      }

  pub shape_no_group : group_shaped w ≡ false → false ≡ shaped w
  shape_no_group f = sym (shape_is ∙ ap (λ (b : Bool). b && (not (cyclic (placed_in w)) && ranked_shaped place w)) f)

  module _ (size : length w ≡ state_size) (group : group_shaped w ≡ true) where
    by_group : shaped w ≡ (not (cyclic (placed_in w)) && ranked_shaped place w)
    by_group = shape_is ∙ ap (λ (b : Bool). b && (not (cyclic (placed_in w)) && ranked_shaped place w)) group

    pub counted : Counted w
    unfolding group_shaped
    counted = all_counted size (and_true counts _ group).0

    -- the lines and the places as the code works them out
    module _ (items : ℕ) (items_are : items ≡ item_count w) (placed : List ℕ) (placed-is : placed ≡ part w items_at items_size) (given : ℕ) (lines_are : LineBits (items_in (min items items_most) placed) given)
        (places : List ℕ) (found : places ≡ places_by given) where
      pub ranked : Ranked w given places
      ranked =
          let all : min items items_most ≡ item_count w = omega (arith, counted.few_items) in
          let bits : LineBits (placed_in w) given = subst (λ (xs : List Item). LineBits xs given) (ap₂ (λ (k : ℕ) (x : List ℕ). items_in k x) all placed-is) lines_are in
          record { counted = counted; given_are = bits; places_are = found ∙ places_ordered (placed_in w) given bits }

      cyclic_is : any (λ q. eqb q sites_most) places ≡ cyclic (placed_in w)
      unfolding cyclic
      cyclic_is = ap (any (λ q. eqb q sites_most)) ranked.places_are

      pub shape_cyclic : any (λ q. eqb q sites_most) places ≡ true → false ≡ shaped w
      shape_cyclic c = sym (by_group ∙ ap (λ (b : Bool). not b && ranked_shaped place w) (sym cyclic_is ∙ c))

      pub shape_ranked : any (λ q. eqb q sites_most) places ≡ false → ranked_shaped (rank places) w ≡ shaped w
      unfolding place_of
      shape_ranked c =
          ap (λ (ps : List ℕ). ranked_shaped (rank ps) w) ranked.places_are
          ∙ sym (by_group ∙ ap (λ (b : Bool). not b && ranked_shaped place w) (sym cyclic_is ∙ c))

  -- ---- the counts and the placement
  module _ (size : length w ≡ state_size) (fit : Bool) (fit_is : fit ≡ counts) where
    pub group_uncounted : fit ≡ false → false ≡ group_shaped w
    unfolding group_shaped
    group_uncounted f = sym (rw (sym fit_is ∙ f))

    pub group_by_items : fit ≡ true → (items : ℕ) → items ≡ item_count w → (placed : List ℕ) → placed ≡ part w items_at items_size → (number : ℕ) → number ≡ items_number (site_count w) (items_in (min items items_most) placed) → eqb number 0 ≡ group_shaped w
    unfolding group_shaped
    group_by_items t items is placed placed-is number e =
        let few = (all_counted size (sym fit_is ∙ t)).few_items in
        let all : min items items_most ≡ item_count w = omega arith in
        ap (λ (k : ℕ). eqb k 0) (e ∙ ap₂ (λ (k : ℕ) (x : List ℕ). items_number (site_count w) (items_in k x)) all placed-is) ∙ sym (rw (sym fit_is ∙ t))

  -- ---- the sites, the history, the lines and the base, one after another
  module _ (place : ℕ → ℕ) where
    abbrev lined : Bool
    lined = lines_shaped w && base_shaped w

    pub sites_unfit : sites_shaped place w ≡ false → false ≡ ranked_shaped place w
    sites_unfit f = sym (ap (λ (b : Bool). b && (history_shaped place w && lined)) f)

    module _ (sites : sites_shaped place w ≡ true) where
      by_sites : ranked_shaped place w ≡ (history_shaped place w && lined)
      by_sites = ap (λ (b : Bool). b && (history_shaped place w && lined)) sites

      pub history_unfit : history_shaped place w ≡ false → false ≡ ranked_shaped place w
      history_unfit f = sym (by_sites ∙ ap (λ (b : Bool). b && lined) f)

      module _ (records : history_shaped place w ≡ true) where
        by_history : ranked_shaped place w ≡ lined
        by_history = by_sites ∙ ap (λ (b : Bool). b && lined) records

        pub lines_unfit : lines_shaped w ≡ false → false ≡ ranked_shaped place w
        lines_unfit f = sym (by_history ∙ ap (λ (b : Bool). b && base_shaped w) f)

        pub ranked_by_base : lines_shaped w ≡ true → base_shaped w ≡ ranked_shaped place w
        ranked_by_base t = sym (by_history ∙ ap (λ (b : Bool). b && base_shaped w) t)

  -- ---- the history and the lines, as they are asked for
  pub history_asked : (place : ℕ → ℕ) (made : ℕ) → made ≡ record_count w → (kept : List ℕ) → kept ≡ part w history_at history_size → (r : Bool) → r ≡ every (record_test place (site_count w) (item_count w)) (chunks record_size made kept) → r ≡ history_shaped place w
  unfolding history_shaped
  history_asked place made is kept e r f = f ∙ ap₂ (λ (n : ℕ) (ys : List ℕ). every (record_test place (site_count w) (item_count w)) (chunks record_size n ys)) is e

  pub lines_asked : (lined : List ℕ) → lined ≡ part w lines_at lines_size → (kept : List ℕ) → kept ≡ part w history_at history_size → (r : Bool) → r ≡ every_from (line_test (placed_in w) (history_in kept (record_count w))) 0 (chunks line_size lines_most lined) → r ≡ lines_shaped w
  unfolding lines_shaped
  lines_asked lined le kept ke r f = f ∙ rw (le, ke)

  -- ---- the base, by its flag and its values
  module _ (flag : ℕ) (flag_is : flag ≡ get_or w base_at 0) where
    flag_read_lem : flag ≡ get_or (part w base_at base_size) 0 0
    flag_read_lem = flag_is ∙ sym (part_get_d w base_at base_size 0 (omega arith))

    pub base_folded : (flag ≡ 0 → ⊥) → true ≡ base_shaped w
    unfolding base_shaped
    base_folded h = sym (rw (← flag_read_lem, ne_eqb flag 0 h))

    pub base_asked : flag ≡ 0 → item_count w ≤ items_most → (items : ℕ) → items ≡ item_count w → (values : List ℕ) → values ≡ part w (base_at + 1) items → (r : Bool) → r ≡ every is_zero_word values → r ≡ base_shaped w
    unfolding base_shaped
    base_asked z few items is values e r f =
        let values_are : values ≡ part (part w base_at base_size) 1 (item_count w)
        = e ∙ ap (part w (base_at + 1)) is ∙ sym (part_part w base_at base_size 1 (item_count w) (omega arith)) in
        f ∙ ap (every is_zero_word) values_are ∙ sym (zeros_meant (part (part w base_at base_size) 1 (item_count w))) ∙ sym (rw (← flag_read_lem, eq-eqb flag 0 z))
