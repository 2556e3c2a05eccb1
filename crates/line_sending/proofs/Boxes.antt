-- The words of a line after a message was sent: one message more behind those held, and what stays in range.
use mathlib.Core.Path.{◌≡◌, sym, ap, ap₂, subst, ◌∙◌}
use mathlib.Core.Bool.{true}
use mathlib.Core.List.{List, [], ◌∷◌, ◌++◌, map, map-append}
use Prim.Native.Nat.{ℕ, suc, ◌+◌, ◌-◌, ◌*◌, ◌≤◌, ◌<◌, min}
use native.Mathlib.Omega.{arith}
use lib.ListN.{length, get_or, set, take}
use lib.Seq.{get_or-set_same, get_or-set_other, drop-set-lt, take-suc-set}
use Rattle.words.specs.Words.{part, put, chunks, Stepped}
use Rattle.words.proofs.Parts.{put_length, put_in, put_get_d_below, lent_put, lent_size}
use Rattle.words.proofs.Chunks.{chunks_length, chunks_put}
use Rattle.words.proofs.Steps.{step_same}
use Rattle.lists.proofs.Every.{every_snoc}
use Rattle.messages.specs.Messages.{Message}
use Rattle.lines.specs.Lines.{sent_or_same}
use Rattle.limits.specs.Limits.{held_most}
use Rattle.messages.specs.InWords.{message_size, message_in, message_range}
use Rattle.lines.specs.InWords.{boxes_at, boxes_size, line_size, boxes_in, line_in, line_range}
use Rattle.lines.proofs.Boxes.{messages_length, part_size, same_line, in_range_lem, range_few, send_room, send_full}

module _ (w : List ℕ) (size : length w ≡ line_size) where
  -- a message put behind those held
  module _ (n : ℕ) (is : n ≡ get_or w 0 0) (few : n < held_most) (ys : List ℕ) (fits : length ys ≡ message_size) where
    abbrev longer : List ℕ
    longer = put w (boxes_at + n * message_size) message_size ys

    inside : boxes_at + n * message_size + message_size ≤ length w
    inside = omega arith

    longer_size : length longer ≡ line_size
    longer_size = put_length w (boxes_at + n * message_size) message_size ys inside fits ∙ size

    pub sent_boxes : boxes_in (set longer 0 (n + 1)) ≡ boxes_in w ++ (ys ∷ [])
    sent_boxes =
        let cs = chunks message_size held_most (part w boxes_at boxes_size) in
        let m : n + 1 ≡ suc n = omega arith in
        ap₂ (λ (k : ℕ) (x : List ℕ). take k (chunks message_size held_most x))
        (get_or-set_same longer 0 (n + 1) 0 (omega (arith, longer_size)) ∙ m)
        (ap (take boxes_size) (drop-set-lt boxes_at longer 0 (n + 1) (omega arith)) ∙ put_in w boxes_at boxes_size (n * message_size) message_size ys (omega arith) (omega arith) fits)
        ∙ ap (take (suc n)) (chunks_put message_size held_most (part w boxes_at boxes_size) n ys fits few (omega (arith, part_size w size)))
        ∙ take-suc-set cs n ys (omega (arith, chunks_length message_size held_most (part w boxes_at boxes_size)))
        ∙ ap (λ (k : ℕ). take k cs ++ (ys ∷ [])) is

    pub sent_arrived : get_or (set longer 0 (n + 1)) 1 0 ≡ get_or w 1 0
    sent_arrived = get_or-set_other longer 0 1 (n + 1) 0 (λ z. omega arith) ∙ put_get_d_below w (boxes_at + n * message_size) message_size ys inside fits 1 (omega arith)

    pub sent_count : get_or (set longer 0 (n + 1)) 0 0 ≡ n + 1
    sent_count = get_or-set_same longer 0 (n + 1) 0 (omega (arith, longer_size))

-- ---- what the call leaves
pub sent_step : (w : List ℕ) (size : length w ≡ line_size) (n : ℕ) (is : n ≡ min (get_or w 0 0) held_most) (few : n < held_most) (ys : List ℕ) → length ys ≡ message_size → (m : Message) → message_in ys ≡ m → message_range ys ≡ true
    → Stepped line_size line_in line_range (sent_or_same m) w (set (put w (boxes_at + n * message_size) message_size ys) 0 (n + 1))
unfolding line_in
sent_step w size n is few ys fits m e r =
    let same : n ≡ get_or w 0 0 = omega arith in
    let bs = sent_boxes w size n same few ys fits in
    record {
      meant = λ s.
          same_line w (set (put w (boxes_at + n * message_size) message_size ys) 0 (n + 1)) (get_or w 1 0) (boxes_in w ++ (ys ∷ [])) (sent_arrived w size n same few ys fits) bs
          ∙ ap (λ (ms : List Message). record { messages = ms; arrived = get_or w 1 0 }) (map-append message_in (boxes_in w) (ys ∷ []) ∙ ap (λ (x : Message). map message_in (boxes_in w) ++ (x ∷ [])) e)
          ∙ sym (send_room m (line_in w) (omega (arith, messages_length w)));
      ranged = λ s g.
          in_range_lem (set (put w (boxes_at + n * message_size) message_size ys) 0 (n + 1)) (boxes_in w ++ (ys ∷ [])) (omega (arith, sent_count w size n same few ys fits)) bs (every_snoc message_range (boxes_in w) ys (range_few w g).1 r);
      kept = λ no_size. absurd (no_size size);
    }

-- as the code does it: the part lent from a place k on, and the count stored
pub sent_by : (w : List ℕ) (size : length w ≡ line_size) (n : ℕ) (is : n ≡ min (get_or w 0 0) held_most) (few : n < held_most) (k : ℕ) → k ≡ n → (ys : List ℕ) → length ys ≡ length (part w (boxes_at + k * message_size) (boxes_at + k * message_size + message_size - (boxes_at + k * message_size))) → (m : Message) → message_in ys ≡ m → message_range ys ≡ true → (v : List ℕ)
    → v ≡ set (put w (boxes_at + k * message_size) (boxes_at + k * message_size + message_size - (boxes_at + k * message_size)) ys) 0 (n + 1)
    → Stepped line_size line_in line_range (sent_or_same m) w v
sent_by w size n is few k same ys fits m e r v f =
    let a = boxes_at + k * message_size in
    let inside : a + message_size ≤ length w = omega arith in
    let long : length ys ≡ message_size = lent_size w a message_size ys inside fits in
    let g : v ≡ set (put w (boxes_at + n * message_size) message_size ys) 0 (n + 1)
    = f ∙ ap (λ (x : List ℕ). set x 0 (n + 1)) (lent_put w a message_size ys ∙ ap (λ (j : ℕ). put w (boxes_at + j * message_size) message_size ys) same) in
    subst (λ (x : List ℕ). Stepped line_size line_in line_range (sent_or_same m) w x) (sym g) (sent_step w size n is few ys long m e r)

pub full_step : (w : List ℕ) (n : ℕ) → n ≡ min (get_or w 0 0) held_most → held_most ≤ n → (m : Message) → Stepped line_size line_in line_range (sent_or_same m) w w
full_step w n is h m = step_same line_size line_in line_range (sent_or_same m) w (send_full m (line_in w) (omega (arith, messages_length w)))
