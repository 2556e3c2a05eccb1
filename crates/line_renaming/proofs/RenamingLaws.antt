-- One message by its new name, in words too; and the messages of a line one after another.
use mathlib.Core.Path.{◌≡◌, refl, sym, ap, ap₂, ◌∙◌}
use mathlib.Core.Bool.{Bool, true, false, not, cond, ◌||◌}
use mathlib.Core.List.{List, [], ◌∷◌, map}
use Prim.Native.Nat.{ℕ, suc, ◌+◌, ◌*◌, ◌≤◌, ◌<◌, min}
use native.Mathlib.Omega.{arith}
use lib.ListN.{length, get_or, set, take, drop, length-map, length-drop, get_or-eq_default}
use lib.Seq.{take_at, length-take-le}
use lib.Dec.{ltb}
use borrow.Author.Tests.{not-false, lt-ltb, le-ltb, ltb-true, ltb-false}
use Rattle.limits.specs.Limits.{records_most, held_most}
use Rattle.std.specs.List.{list_any, range_with_len}
use Rattle.lists.specs.Lists.{every, any}
use Rattle.lists.proofs.Lists.{take_min, map_take, mapped, mapped_at, mapped_next}
use Rattle.lists.proofs.Every.{and_true}
use Rattle.lists.proofs.Numbers.{or_false}
use Rattle.words.specs.Words.{part, put, chunks, Stepped}
use Rattle.words.proofs.Parts.{part_length, part_part, put_length, put_in, put_get_d_below}
use Rattle.words.proofs.Chunks.{chunks_length, chunks_at, chunks_put}
use Rattle.timestamp_words.specs.InWords.{stamp_in, stamp_size}
use Rattle.messages.specs.Messages.{Message, commit, dummy, name_of}
use Rattle.messages.specs.InWords.{message_size, message_in, message_range}
use Rattle.lines.specs.InWords.{boxes_at, boxes_size, line_size, boxes_in, line_in, line_range}
use Rattle.lines.proofs.Boxes.{message_at_lem, part_size, same_line, in_range_lem, range_few}
use Rattle.record_names.specs.Names.{stays}
use Rattle.line_renaming.specs.Renaming.{names_gone, renamed_by, line_renamed_by, box_renamed}

set_first : (b : List ℕ) (v : ℕ) → 0 < length b → set b 0 v ≡ v ∷ drop 1 b
set_first [] v h = absurd (omega arith)
set_first (x ∷ b) v h = refl

-- a test asked at the places of a list of messages, of each of them
pub any_by_place : (p : Message → Bool) (q : ℕ → Bool) (ms : List Message) (a : ℕ)
    → ((i : ℕ) → i < length ms → q (a + i) ≡ p (get_or ms i (commit 0))) → list_any q (range_with_len a (length ms)) ≡ any p ms
any_by_place p q [] a h = refl
any_by_place p q (m ∷ ms) a h =
    let first : a ≡ a + 0 = omega arith in
    ap₂ (λ (s t : Bool). s || t) (ap q first ∙ h 0 (omega arith))
    (any_by_place p q ms (a + 1) (λ i k. let next : a + 1 + i ≡ a + suc i = omega arith in ap q next ∙ h (suc i) (omega arith)))

-- ---- one message
module _ (names : List ℕ) where
  -- message i of a line, by its name
  named_gone : (b : List ℕ) → records_most ≤ name_of (message_in b) → false ≡ names_gone names (message_in b)
  named_gone b = go (ltb (get_or b 0 0) records_most) refl
    where
      go : (t : Bool) → ltb (get_or b 0 0) records_most ≡ t → records_most ≤ name_of (cond t (commit (get_or b 0 0)) (dummy (stamp_in (part b 1 stamp_size)))) → false ≡ names_gone names (cond t (commit (get_or b 0 0)) (dummy (stamp_in (part b 1 stamp_size))))
      go true e h = absurd (omega (arith, ltb-true (get_or b 0 0) records_most e))
      go false e h = refl

  module _ (w : List ℕ) (i : ℕ) where
    abbrev message : Message
    message = get_or (line_in w).messages i (commit 0)

    pub gone_dummy : records_most ≤ name_of message → false ≡ names_gone names message
    gone_dummy h = go (ltb i (length (line_in w).messages)) refl
      where
        go : (t : Bool) → ltb i (length (line_in w).messages) ≡ t → false ≡ names_gone names message
        go true e =
            let is = message_at_lem w i (ltb-true i (length (line_in w).messages) e) in
            named_gone (part w (boxes_at + i * message_size) message_size) (omega (arith, ap name_of is)) ∙ sym (ap (names_gone names) is)
        go false e = absurd (omega (arith, ap name_of (get_or-eq_default (line_in w).messages (commit 0) {n = i} (ltb-false i (length (line_in w).messages) e))))

    pub gone_commit : (k : ℕ) → k ≡ name_of message → k < records_most → not (stays names k) ≡ names_gone names message
    gone_commit k e h = ap (λ (x : ℕ). not (stays names x)) e ∙ go message (omega (arith, e))
      where
        go : (m : Message) → name_of m < records_most → not (stays names (name_of m)) ≡ names_gone names m
        go (commit x) b = refl
        go (dummy t) b = absurd (omega arith)

  module _ (b : List ℕ) where
    abbrev name : ℕ
    name = get_or b 0 0

    abbrev read : Bool → ℕ → Message
    read t k = cond t (commit k) (dummy (stamp_in (part b 1 stamp_size)))

    abbrev box : Bool → List ℕ
    box t = cond t (get_or names name 0 ∷ drop 1 b) b

    pub box_message : names_gone names (message_in b) ≡ false → message_in (box_renamed names b) ≡ renamed_by names (message_in b)
    box_message = go (ltb name records_most) refl
      where
        go : (t : Bool) → ltb name records_most ≡ t → names_gone names (read t name) ≡ false → message_in (box t) ≡ renamed_by names (read t name)
        go true e g = ap (λ (t : Bool). read t (get_or names name 0)) (not-false (stays names name) g)
        go false e g = ap (λ (t : Bool). read t name) e

    pub box_range : names_gone names (message_in b) ≡ false → message_range b ≡ true → message_range (box_renamed names b) ≡ true
    box_range = go (ltb name records_most) refl
      where
        go : (t : Bool) → ltb name records_most ≡ t → names_gone names (read t name) ≡ false → message_range b ≡ true → message_range (box t) ≡ true
        go true e g r = rw (not-false (stays names name) g)
        go false e g r = r

    pub box_none : records_most ≤ name → b ≡ box_renamed names b
    box_none h = sym (ap box (le-ltb name records_most h))

    pub box_named : (k : ℕ) → k ≡ name → k < records_most → length b ≡ message_size → set b 0 (get_or names k 0) ≡ box_renamed names b
    box_named k is h size =
        ap (λ (x : ℕ). set b 0 (get_or names x 0)) is ∙ set_first b (get_or names name 0) (omega arith) ∙ sym (ap box (lt-ltb name records_most (omega arith)))

    pub box_length : length b ≡ message_size → length (box_renamed names b) ≡ message_size
    box_length size = go (ltb name records_most)
      where
        go : (t : Bool) → length (box t) ≡ message_size
        go true = omega (arith, length-drop 1 b)
        go false = size

  -- ---- the messages of a line
  pub boxes_messages : (bs : List (List ℕ)) → any (names_gone names) (map message_in bs) ≡ false → map message_in (map (box_renamed names) bs) ≡ map (renamed_by names) (map message_in bs)
  boxes_messages [] e = refl
  boxes_messages (b ∷ bs) e =
      let q = or_false (names_gone names (message_in b)) (any (names_gone names) (map message_in bs)) e in
      ap₂ {C = List Message} (λ (m : Message) (ms : List Message). m ∷ ms) (box_message b q.0) (boxes_messages bs q.1)

  pub boxes_range : (bs : List (List ℕ)) → any (names_gone names) (map message_in bs) ≡ false → every message_range bs ≡ true → every message_range (map (box_renamed names) bs) ≡ true
  boxes_range [] e r = refl
  boxes_range (b ∷ bs) e r =
      let q = or_false (names_gone names (message_in b)) (any (names_gone names) (map message_in bs)) e in
      let s = and_true (message_range b) (every message_range bs) r in
      rw (box_range b q.0 s.0) (boxes_range bs q.1 s.1)

-- ---- in the words of a line, the first i of its places
abbrev places : List ℕ → List (List ℕ)
places w = chunks message_size held_most (part w boxes_at boxes_size)

pub record RenamedBelow (names w v : List ℕ) (i : ℕ) : Type 0 where
  pub sized : length v ≡ line_size
  pub held : get_or v 0 0 ≡ get_or w 0 0
  pub arrived : get_or v 1 0 ≡ get_or w 1 0
  pub are : places v ≡ mapped (box_renamed names) (places w) i

module _ (names w : List ℕ) where
  pub renamed_none : length w ≡ line_size → RenamedBelow names w w 0
  renamed_none size = record { sized = size; held = refl; arrived = refl; are = refl }

  module _ (v : List ℕ) (i : ℕ) (s : RenamedBelow names w v i) where
    module _ (few : i < held_most) where
      abbrev at : ℕ
      at = boxes_at + i * message_size

      abbrev new : List ℕ
      new = box_renamed names (part v at message_size)

      inside : at + message_size ≤ length v
      inside = omega (arith, s.sized)

      fits : length new ≡ message_size
      fits = box_length names (part v at message_size) (part_length v at message_size inside)

      new_is : new ≡ box_renamed names (get_or (places w) i [])
      new_is =
          ap (box_renamed names)
          (sym (part_part v boxes_at boxes_size (i * message_size) message_size (omega arith))
          ∙ sym (chunks_at message_size held_most (part v boxes_at boxes_size) i few)
          ∙ ap (λ (bs : List (List ℕ)). get_or bs i []) s.are
          ∙ mapped_at (box_renamed names) (places w) i [] (omega (arith, chunks_length message_size held_most (part w boxes_at boxes_size))))

      pub renamed_next : RenamedBelow names w (put v at message_size new) (i + 1)
      renamed_next =
          record {
            sized = put_length v at message_size new inside fits ∙ s.sized;
            held = put_get_d_below v at message_size new inside fits 0 (omega arith) ∙ s.held;
            arrived = put_get_d_below v at message_size new inside fits 1 (omega arith) ∙ s.arrived;
            are = ap (chunks message_size held_most) (put_in v boxes_at boxes_size (i * message_size) message_size new (omega arith) (omega (arith, s.sized)) fits)
                ∙ chunks_put message_size held_most (part v boxes_at boxes_size) i new fits few (omega (arith, part_size v s.sized))
                ∙ ap₂ (λ (bs : List (List ℕ)) (b : List ℕ). set bs i b) s.are new_is
                ∙ mapped_next (box_renamed names) (places w) i [] (omega (arith, chunks_length message_size held_most (part w boxes_at boxes_size)));
          }

    module _ (held_is : i ≡ min (get_or w 0 0) held_most) where
      boxes_renamed : boxes_in v ≡ map (box_renamed names) (boxes_in w)
      boxes_renamed =
          let f = box_renamed names in
          let long : length (places v) ≡ held_most = chunks_length message_size held_most (part v boxes_at boxes_size) in
          let short : length (places w) ≡ held_most = chunks_length message_size held_most (part w boxes_at boxes_size) in
          let all : min (get_or v 0 0) (length (places v)) ≡ i = omega (arith, s.held) in
          let first : i ≡ min (get_or w 0 0) (length (places w)) = omega arith in
          sym (take_min (get_or v 0 0) (places v))
          ∙ ap₂ (λ (k : ℕ) (bs : List (List ℕ)). take k bs) all s.are
          ∙ take_at (take i (map f (places w))) (drop i (places w)) i (length-take-le i (map f (places w)) (omega (arith, length-map (places w) f)))
          ∙ sym (map_take f i (places w))
          ∙ ap (map f) (ap (λ (k : ℕ). take k (places w)) first ∙ take_min (get_or w 0 0) (places w))

      pub renamed_all : any (names_gone names) (line_in w).messages ≡ false → length w ≡ line_size → Stepped line_size line_in line_range (line_renamed_by names) w v
      unfolding line_in
      renamed_all none size =
          record {
            meant = λ _.
                same_line w v (get_or w 1 0) (map (box_renamed names) (boxes_in w)) s.arrived boxes_renamed
                ∙ ap (λ (ms : List Message). record { messages = ms; arrived = get_or w 1 0 }) (boxes_messages names (boxes_in w) none);
            ranged = λ _ g. in_range_lem v (map (box_renamed names) (boxes_in w)) (omega (arith, s.held, (range_few w g).0)) boxes_renamed (boxes_range names (boxes_in w) none (range_few w g).1);
            kept = λ no_size. absurd (no_size size);
          }
