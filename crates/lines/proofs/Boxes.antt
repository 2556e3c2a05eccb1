-- The messages that a line's words hold: how many there are, one of them, and what each step does at its edge.
use mathlib.Core.Path.{◌≡◌, refl, sym, ap, ◌∙◌, ap₂}
use mathlib.Core.Bool.{Bool, false, true}
use mathlib.Core.List.{List, []}
use Prim.Native.Nat.{ℕ, ◌+◌, ◌*◌, ◌≤◌, ◌<◌, min}
use native.Mathlib.Omega.{arith}
use lib.ListN.{length, get_or, length-map, length-take, get_or-map, get_or-eq_default}
use lib.Seq.{get_or-take}
use lib.Dec.{eqb, ltb, leb}
use borrow.Author.Tests.{ltb-true, ltb-false, lt-ltb, le-ltb, le-leb, leb-true, eq-eqb, ne_eqb, eqb-true, eqb-false}
use Rattle.lists.proofs.Every.{and_true}
use Rattle.lists.specs.Lists.{every}
use Rattle.words.specs.Words.{part, chunks}
use Rattle.words.proofs.Parts.{part_part, part_get_d, part_length}
use Rattle.words.proofs.Chunks.{chunks_length, chunks_at}
use Rattle.timestamp_words.specs.InWords.{stamp_in, stamp_size}
use Rattle.messages.specs.Messages.{Message, commit, name_of, own_stamp}
use Rattle.lines.specs.Lines.{Line, sent, delivered, taken, sent_or_same, delivered_or_same, taken_or_same}
use Rattle.limits.specs.Limits.{held_most, records_most}
use Rattle.messages.specs.InWords.{message_size, message_in, message_range}
use Rattle.lines.specs.InWords.{boxes_at, boxes_size, line_size, boxes_in, line_in, line_from, line_range}
use Rattle.messages.proofs.Messages.{name_in, own_in}

-- ---- how many there are
pub boxes_length : (w : List ℕ) → length (boxes_in w) ≡ min (get_or w 0 0) held_most
boxes_length w = length-take (get_or w 0 0) (chunks message_size held_most (part w boxes_at boxes_size)) ∙ ap (min (get_or w 0 0)) (chunks_length message_size held_most (part w boxes_at boxes_size))

pub messages_length : (w : List ℕ) → length (line_in w).messages ≡ min (get_or w 0 0) held_most
unfolding line_in
messages_length w = length-map (boxes_in w) message_in ∙ boxes_length w

-- what it says of itself
module _ (w : List ℕ) (n : ℕ) (is : n ≡ get_or w 0 0) where
  pub held_none : eqb n 0 ≡ eqb (length (line_in w).messages) 0
  held_none = go (eqb n 0) refl
    where
      go : (b : Bool) → eqb n 0 ≡ b → eqb n 0 ≡ eqb (length (line_in w).messages) 0
      go true e = e ∙ sym (eq-eqb (length (line_in w).messages) 0 (omega (arith, messages_length w, eqb-true n 0 e)))
      go false e = e ∙ sym (ne_eqb (length (line_in w).messages) 0 (λ z. eqb-false n 0 e (omega (arith, messages_length w))))

-- ---- the line that words stand for, by its count and its messages
pub part_size : (w : List ℕ) (size : length w ≡ line_size) → length (part w boxes_at boxes_size) ≡ boxes_size
part_size w size = part_length w boxes_at boxes_size (omega arith)

pub same_line : (w v : List ℕ) (a : ℕ) (bs : List (List ℕ)) → get_or v 1 0 ≡ a → boxes_in v ≡ bs → line_in v ≡ line_from a bs
unfolding line_in
same_line w v a bs p q = ap₂ line_from p q

pub in_range_lem : (v : List ℕ) (bs : List (List ℕ)) → get_or v 0 0 ≤ held_most → boxes_in v ≡ bs → every message_range bs ≡ true → line_range v ≡ true
unfolding line_range
in_range_lem v bs h e r = rw (le-leb (get_or v 0 0) held_most h, e) r

pub range_few : (w : List ℕ) → line_range w ≡ true → (get_or w 0 0 ≤ held_most) × (every message_range (boxes_in w) ≡ true)
unfolding line_range
range_few w r = let q = and_true (leb (get_or w 0 0) held_most) (every message_range (boxes_in w)) r in (leb-true (get_or w 0 0) held_most q.0, q.1)

-- ---- each step, inside and at its edge
module _ (m : Message) (l : Line) where
  pub send_room : length l.messages < held_most → sent_or_same m l ≡ sent m l
  unfolding sent_or_same
  send_room h = rw (lt-ltb (length l.messages) held_most h)

  pub send_full : held_most ≤ length l.messages → sent_or_same m l ≡ l
  unfolding sent_or_same
  send_full h = rw (le-ltb (length l.messages) held_most h)

module _ (l : Line) where
  pub deliver_some : l.arrived < length l.messages → delivered_or_same l ≡ delivered l
  unfolding delivered_or_same
  deliver_some h = rw (lt-ltb l.arrived (length l.messages) h)

  pub deliver_none : length l.messages ≤ l.arrived → delivered_or_same l ≡ l
  unfolding delivered_or_same
  deliver_none h = rw (le-ltb l.arrived (length l.messages) h)

  pub take_some : 0 < length l.messages → taken_or_same l ≡ taken l
  unfolding taken_or_same
  take_some h = rw (lt-ltb 0 (length l.messages) h)

  pub take_none : length l.messages ≡ 0 → taken_or_same l ≡ l
  unfolding taken_or_same
  take_none h = rw (le-ltb 0 (length l.messages) (omega arith))

-- ---- message i, and its name
pub message_at_lem : (w : List ℕ) (i : ℕ) → i < length (line_in w).messages → get_or (line_in w).messages i (commit 0) ≡ message_in (part w (boxes_at + i * message_size) message_size)
unfolding line_in
message_at_lem w i h =
    let boxes = part w boxes_at boxes_size in
    let cs = chunks message_size held_most boxes in
    let few = messages_length w in
    get_or-map message_in (boxes_in w) i []
    ∙ ap message_in
    (get_or-take (get_or w 0 0) cs i [] (omega arith)
    ∙ chunks_at message_size held_most boxes i (omega arith)
    ∙ part_part w boxes_at boxes_size (i * message_size) message_size (omega arith))

module _ (w : List ℕ) (i : ℕ) where
  pub name_none : length (line_in w).messages ≤ i → 0 ≡ name_of (get_or (line_in w).messages i (commit 0))
  name_none h = sym (ap name_of (get_or-eq_default (line_in w).messages (commit 0) {n = i} h))

  pub name_some : i < length (line_in w).messages → (x : ℕ) → x ≡ get_or w (boxes_at + i * message_size) 0 → min x records_most ≡ name_of (get_or (line_in w).messages i (commit 0))
  name_some h x e =
      let at = boxes_at + i * message_size in
      let place : at ≡ at + 0 = omega arith in
      let own = part w at message_size in
      let is : x ≡ get_or own 0 0 = e ∙ ap (λ (j : ℕ). get_or w j 0) place ∙ sym (part_get_d w at message_size 0 (omega arith)) in
      ap (λ (y : ℕ). min y records_most) is ∙ name_in own ∙ sym (ap name_of (message_at_lem w i h))

-- ---- the words of the timestamp of an oldest message that is a dummy
pub first_own : (w : List ℕ) → name_of (get_or (line_in w).messages 0 (commit 0)) ≡ records_most → stamp_in (part w (boxes_at + 1) stamp_size) ≡ own_stamp (get_or (line_in w).messages 0 (commit 0))
first_own w e = go (ltb 0 (length (line_in w).messages)) refl
  where
    go : (b : Bool) → ltb 0 (length (line_in w).messages) ≡ b → stamp_in (part w (boxes_at + 1) stamp_size) ≡ own_stamp (get_or (line_in w).messages 0 (commit 0))
    go true h =
        let is = message_at_lem w 0 (ltb-true 0 (length (line_in w).messages) h) in
        ap stamp_in (sym (part_part w boxes_at message_size 1 stamp_size (omega arith))) ∙ own_in (part w boxes_at message_size) (ap name_of (sym is) ∙ e) ∙ ap own_stamp (sym is)
    go false h =
        let none = get_or-eq_default (line_in w).messages (commit 0) {n = 0} (ltb-false 0 (length (line_in w).messages) h) in
        absurd (omega (arith, e, ap name_of none))
