-- The test of a line: what each part of it says of the line that its words mean.
use mathlib.Core.Path.{◌≡◌, refl, sym, ap, ◌∙◌}
use mathlib.Core.Bool.{Bool, true, false, ◌&&◌, ◌||◌, and-false, false≢true}
use mathlib.Core.List.{List, [], ◌∷◌, map}
use Prim.Native.Nat.{ℕ, ◌*◌, ◌/◌, ◌%◌, ◌≤◌, ◌<◌}
use native.Mathlib.Omega.{arith}
use lib.ListN.{length, get_or, length-map, get_or-map}
use lib.Dec.{leb, eqb}
use borrow.Author.Tests.{lt-ltb, le-ltb, le-leb, lt-leb, leb-true, leb-false, eq-eqb, ne_eqb}
use Rattle.words.specs.Words.{part, chunks}
use Rattle.lists.specs.Lists.{every, is_empty}
use Rattle.words.proofs.Chunks.{chunks_length, chunks_at, chunks_take}
use Rattle.lists.proofs.Every.{and_true}
use Rattle.timestamp_order.specs.Order.{rank}
use Rattle.timestamp_words.specs.InWords.{stamp_size, stamp_shaped}
use Rattle.placement.specs.Placement.{Item, is_line}
use Rattle.placement.specs.Places.{places_of}
use Rattle.limits.specs.Limits.{sites_most, held_most, records_most}
use Rattle.lines.specs.InWords.{boxes_at, boxes_size, boxes_in, line_in, line_range, line_counted}
use Rattle.messages.specs.InWords.{message_in, message_range, message_size}
use Rattle.lines.proofs.Boxes.{messages_length}
use Rattle.records.specs.Records.{Record}
use Rattle.records.specs.InWords.{record_in, record_size}
use Rattle.protocol.specs.Network.{no_record, place_of, message_fits, line_fits}
use Rattle.network_layout.proofs.Assembled.{no_record_lem}
use Rattle.network_line_shape.specs.LineTests.{commit_test, message_test, line_test, history_in}
use Rattle.network_line_shape.proofs.Walk.{every_both, and_swap}

-- ---- one message: a dummy of site p, or the name of a commit that p made
history_length : (kept : List ℕ) (made : ℕ) → length (history_in kept made) ≡ made
history_length kept made = length-map (chunks record_size made kept) record_in ∙ chunks_length record_size made kept

module _ (kept : List ℕ) (made p k : ℕ) where
  pub commit_unmade : made ≤ k → false ≡ commit_test (history_in kept made) p k
  commit_unmade h = sym (rw (history_length kept made, le-ltb k made h))

  pub commit_by : k < made → (site : ℕ) → site ≡ (record_in (part kept (k * record_size) record_size)).site → eqb site p ≡ commit_test (history_in kept made) p k
  commit_by h site e =
      let there : get_or (history_in kept made) k no_record ≡ record_in (part kept (k * record_size) record_size)
      = ap (get_or (history_in kept made) k) no_record_lem ∙ get_or-map record_in (chunks record_size made kept) k [] ∙ ap record_in (chunks_at record_size made kept k h) in
      ap (λ (x : ℕ). eqb x p) (e ∙ sym (ap (λ (r : Record). r.site) there)) ∙ sym (rw (history_length kept made, lt-ltb k made h))

module _ (place : ℕ → ℕ) (w : List ℕ) (p : ℕ) (h : List Record) (name : ℕ) (is : name ≡ get_or w 0 0) where
  pub message_dummy : records_most ≤ name → (r : Bool) → r ≡ stamp_shaped place p (part w 1 stamp_size) → r ≡ message_test place h p w
  unfolding stamp_shaped
  message_dummy g r e = e ∙ sym (rw (← is, le-ltb name records_most g))

  pub message_named : name < records_most → (r : Bool) → r ≡ commit_test h p name → r ≡ message_test place h p w
  message_named g r e = e ∙ sym (rw (← is, lt-ltb name records_most g))

-- ---- one line
some_held : {A : Type 0} (l : List A) → 0 < length l → is_empty l ≡ false
some_held [] h = absurd (omega arith)
some_held (x ∷ xs) h = refl

module _ (xs : List Item) (h : List Record) (k : ℕ) (l : List ℕ) where
  held_few : line_counted l ≡ true → (get_or l 0 0 ≤ held_most) × (get_or l 1 0 ≤ get_or l 0 0)
  unfolding line_counted
  held_few e = let q = and_true (leb (get_or l 0 0) held_most) (leb (get_or l 1 0) (get_or l 0 0)) e in (leb-true (get_or l 0 0) held_most q.0, leb-true (get_or l 1 0) (get_or l 0 0) q.1)

  -- how many it holds, where it says no more than there is room for
  pub counted_held : line_counted l ≡ true → (n : ℕ) → n ≡ length (line_in l).messages → n ≡ get_or l 0 0
  counted_held e n is = omega (arith, messages_length l, (held_few e).0)

  ahead : length (line_in l).messages < get_or l 1 0 → false ≡ line_test xs h k l
  unfolding line_fits line_in
  ahead b = sym (rw (lt-leb (get_or l 1 0) (length (map message_in (boxes_in l))) b) (and-false (line_range l)))

  pub line_uncounted : line_counted l ≡ false → false ≡ line_test xs h k l
  unfolding line_counted line_range
  line_uncounted e = go (leb (get_or l 0 0) held_most) refl
    where
      go : (b : Bool) → leb (get_or l 0 0) held_most ≡ b → false ≡ line_test xs h k l
      go true t =
          let f : leb (get_or l 1 0) (get_or l 0 0) ≡ false = rw t at e in
          ahead (omega (arith, messages_length l, leb-true (get_or l 0 0) held_most t, leb-false (get_or l 1 0) (get_or l 0 0) f))
      go false f = sym (rw f)

  module _ (fine : line_counted l ≡ true) (n : ℕ) (is : n ≡ length (line_in l).messages) where
    abbrev boxes : List (List ℕ)
    boxes = chunks message_size n (part l boxes_at boxes_size)

    held : length (map message_in boxes) ≡ n
    held = length-map boxes message_in ∙ chunks_length message_size n (part l boxes_at boxes_size)

    line_is : line_test xs h k l ≡ ((is_empty (map message_in boxes) || is_line xs (k / sites_most) (k % sites_most)) && every (message_test (place_of xs) h (k / sites_most)) boxes)
    unfolding line_range line_fits line_in
    line_is =
        let same : n ≡ get_or l 0 0 = counted_held fine n is in
        let few : n ≤ held_most = omega (arith, (held_few fine).0) in
        let arrived : get_or l 1 0 ≤ n = omega (arith, (held_few fine).1) in
        let fits = message_fits (place_of xs) h (k / sites_most) in
        rw (
          ← same,
          le-leb n held_most few,
          chunks_take message_size n held_most (part l boxes_at boxes_size) few,
          held,
          le-leb (get_or l 1 0) n arrived,
          every_both message_range message_in fits boxes,
        )
        (and_swap (every message_range boxes) (is_empty (map message_in boxes) || is_line xs (k / sites_most) (k % sites_most)) (every fits (map message_in boxes)))

    line_none : n ≡ 0 → true ≡ line_test xs h k l
    unfolding chunks
    line_none z =
        let none : boxes ≡ [] = ap (λ (m : ℕ). chunks message_size m (part l boxes_at boxes_size)) z in
        sym (line_is ∙ rw none)

    module _ (some : n ≡ 0 → ⊥) where
      line_by : line_test xs h k l ≡ (is_line xs (k / sites_most) (k % sites_most) && every (message_test (place_of xs) h (k / sites_most)) boxes)
      line_by = line_is ∙ rw (some_held (map message_in boxes) (omega (arith, held, some)))

      pub line_unplaced : is_line xs (k / sites_most) (k % sites_most) ≡ false → false ≡ line_test xs h k l
      line_unplaced f = sym (line_by ∙ ap (λ (b : Bool). b && every (message_test (place_of xs) h (k / sites_most)) boxes) f)

      pub line_by_messages : is_line xs (k / sites_most) (k % sites_most) ≡ true → (places : List ℕ) → places ≡ places_of xs → (t : Bool) → t ≡ every (message_test (rank places) h (k / sites_most)) boxes → t ≡ line_test xs h k l
      unfolding place_of
      line_by_messages f places e t g =
          g
          ∙ ap (λ (ps : List ℕ). every (message_test (rank ps) h (k / sites_most)) boxes) e
          ∙ sym (line_by ∙ ap (λ (b : Bool). b && every (message_test (place_of xs) h (k / sites_most)) boxes) f)

  -- one that holds nothing
  none_counted : get_or l 0 0 ≡ 0 → get_or l 1 0 ≡ 0 → line_counted l ≡ true
  unfolding line_counted
  none_counted z y = rw (z, y)

  pub line_empty : (n : ℕ) → n ≡ length (line_in l).messages → n ≡ 0 → (arrived : ℕ) → arrived ≡ (line_in l).arrived → eqb arrived 0 ≡ line_test xs h k l
  unfolding line_in
  line_empty n is z arrived e = go (line_counted l) refl
    where
      none : get_or l 0 0 ≡ 0
      none = omega (arith, messages_length l)

      go : (b : Bool) → line_counted l ≡ b → eqb arrived 0 ≡ line_test xs h k l
      go true t = eq-eqb arrived 0 (omega (arith, none, (held_few t).1)) ∙ line_none t n is z
      go false f = ne_eqb arrived 0 (λ y. false≢true (sym f ∙ none_counted none (omega arith))) ∙ line_uncounted f
