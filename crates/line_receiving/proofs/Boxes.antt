-- The words of a line after a message arrived, or the oldest was taken off, and what stays in range.
use mathlib.Core.Path.{◌≡◌, refl, sym, ap, ap₂, subst, ◌∙◌}
use mathlib.Core.List.{List, [], ◌∷◌, map}
use Prim.Native.Nat.{ℕ, suc, ◌+◌, ◌-◌, ◌≤◌, ◌<◌, min}
use native.Mathlib.Omega.{arith}
use lib.ListN.{length, get_or, set, take, drop, length-set, length-drop}
use lib.Seq.{get_or-set_same, get_or-set_other, drop-set-lt, take-append-le}
use Rattle.words.specs.Words.{part, put, chunks, shifted, Stepped}
use Rattle.words.proofs.Parts.{part_length, put_here, put_get_d_below}
use Rattle.words.proofs.Chunks.{chunks_length, chunks_shift}
use Rattle.words.proofs.Steps.{step_same}
use Rattle.lists.proofs.Lists.{take_min, take_rest}
use Rattle.lists.proofs.Every.{every_rest}
use Rattle.messages.specs.Messages.{Message}
use Rattle.lines.specs.Lines.{delivered_or_same, taken_or_same}
use Rattle.limits.specs.Limits.{held_most}
use Rattle.messages.specs.InWords.{message_size, message_in, message_range}
use Rattle.lines.specs.InWords.{boxes_at, boxes_size, line_size, boxes_in, line_from, line_in, line_range}
use Rattle.lines.proofs.Boxes.{messages_length, part_size, same_line, in_range_lem, range_few, deliver_some, deliver_none, take_some, take_none}

-- ---- another number arrived
module _ (w : List ℕ) (size : length w ≡ line_size) where
  pub arrived_boxes : (v : ℕ) → boxes_in (set w 1 v) ≡ boxes_in w
  arrived_boxes v =
      ap₂ (λ (k : ℕ) (x : List ℕ). take k (chunks message_size held_most x)) (get_or-set_other w 1 0 v 0 (λ z. omega arith)) (ap (take boxes_size) (drop-set-lt boxes_at w 1 v (omega arith)))

  pub arrived_count : (v : ℕ) → get_or (set w 1 v) 0 0 ≡ get_or w 0 0
  arrived_count v = get_or-set_other w 1 0 v 0 (λ z. omega arith)

  pub arrived_arrived : (v : ℕ) → get_or (set w 1 v) 1 0 ≡ v
  arrived_arrived v = get_or-set_same w 1 v 0 (omega arith)

-- ---- what each call leaves
-- an arrived message more
arrived_is : (w : List ℕ) → (line_in w).arrived ≡ get_or w 1 0
unfolding line_in
arrived_is w = refl

pub delivered_step : (w : List ℕ) (size : length w ≡ line_size) (n : ℕ) → n ≡ get_or w 1 0 → n < min (get_or w 0 0) held_most → Stepped line_size line_in line_range delivered_or_same w (set w 1 (n + 1))
unfolding line_in
delivered_step w size n is h =
    record {
      meant = λ s.
          same_line w (set w 1 (n + 1)) (n + 1) (boxes_in w) (arrived_arrived w size (n + 1)) (arrived_boxes w size (n + 1))
          ∙ ap (λ (k : ℕ). line_from (k + 1) (boxes_in w)) is
          ∙ sym (deliver_some (line_in w) (omega (arith, messages_length w)));
      ranged = λ s g. in_range_lem (set w 1 (n + 1)) (boxes_in w) (omega (arith, arrived_count w size (n + 1), (range_few w g).0)) (arrived_boxes w size (n + 1)) (range_few w g).1;
      kept = λ no_size. absurd (no_size size);
    }

pub none_step : (w : List ℕ) (n : ℕ) → n ≡ get_or w 1 0 → min (get_or w 0 0) held_most ≤ n → Stepped line_size line_in line_range delivered_or_same w w
none_step w n is h = step_same line_size line_in line_range delivered_or_same w (deliver_none (line_in w) (omega (arith, messages_length w, arrived_is w)))

-- the oldest taken off
map_rest : (bs : List (List ℕ)) → map message_in (drop 1 bs) ≡ drop 1 (map message_in bs)
map_rest [] = refl
map_rest (b ∷ bs) = refl

module _ (w : List ℕ) (size : length w ≡ line_size) (n : ℕ) (is : n ≡ min (get_or w 0 0) held_most) (some : n ≡ 0 → ⊥) (v : ℕ) (less : v ≡ get_or w 1 0 - 1) (ys : List ℕ) (fits : length ys ≡ boxes_size) (moved : ys ≡ shifted (part (set (set w 0 (n - 1)) 1 v) boxes_at boxes_size) message_size) where
  abbrev counted : List ℕ
  counted = set (set w 0 (n - 1)) 1 v

  abbrev shorter : List ℕ
  shorter = put counted boxes_at boxes_size ys

  counted_size : length counted ≡ line_size
  counted_size = length-set (set w 0 (n - 1)) 1 v ∙ length-set w 0 (n - 1) ∙ size

  first_size : length (set w 0 (n - 1)) ≡ line_size
  first_size = length-set w 0 (n - 1) ∙ size

  shorter_count : get_or shorter 0 0 ≡ n - 1
  shorter_count =
      put_get_d_below counted boxes_at boxes_size ys (omega (arith, counted_size)) fits 0 (omega arith)
      ∙ get_or-set_other (set w 0 (n - 1)) 1 0 v 0 (λ z. omega arith)
      ∙ get_or-set_same w 0 (n - 1) 0 (omega arith)

  shorter_arrived : get_or shorter 1 0 ≡ get_or w 1 0 - 1
  shorter_arrived =
      put_get_d_below counted boxes_at boxes_size ys (omega (arith, counted_size)) fits 1 (omega arith)
      ∙ get_or-set_same (set w 0 (n - 1)) 1 v 0 (omega (arith, first_size))
      ∙ less

  shorter_boxes : boxes_in shorter ≡ drop 1 (boxes_in w)
  shorter_boxes =
      let bs = part w boxes_at boxes_size in
      let cs = chunks message_size held_most bs in
      let bl : length bs ≡ boxes_size = part_size w size in
      let last = drop (length bs - message_size) bs in
      let same : part counted boxes_at boxes_size ≡ bs = ap (take boxes_size) (drop-set-lt boxes_at (set w 0 (n - 1)) 1 v (omega arith) ∙ drop-set-lt boxes_at w 0 (n - 1) (omega arith)) in
      let m : suc (n - 1) ≡ min (get_or w 0 0) (length cs) = omega (arith, chunks_length message_size held_most bs) in
      ap₂ (λ (k : ℕ) (x : List ℕ). take k (chunks message_size held_most x)) shorter_count
      (put_here counted boxes_at boxes_size ys (omega (arith, counted_size)) fits ∙ moved ∙ ap (λ (b : List ℕ). shifted b message_size) same)
      ∙ ap (take (n - 1)) (chunks_shift message_size 15 bs bl)
      ∙ take-append-le (n - 1) (drop 1 cs) (last ∷ []) (omega (arith, length-drop 1 cs, chunks_length message_size held_most bs))
      ∙ take_rest (n - 1) cs
      ∙ ap (λ (k : ℕ). drop 1 (take k cs)) m
      ∙ ap (drop 1) (take_min (get_or w 0 0) cs)

  pub taken_step : Stepped line_size line_in line_range taken_or_same w shorter
  unfolding line_in
  taken_step =
      record {
        meant = λ s.
            same_line w shorter (get_or w 1 0 - 1) (drop 1 (boxes_in w)) shorter_arrived shorter_boxes
            ∙ ap (λ (ms : List Message). record { messages = ms; arrived = get_or w 1 0 - 1 }) (map_rest (boxes_in w))
            ∙ sym (take_some (line_in w) (omega (arith, messages_length w)));
        ranged = λ s g. in_range_lem shorter (drop 1 (boxes_in w)) (omega (arith, shorter_count)) shorter_boxes (every_rest message_range (boxes_in w) (range_few w g).1);
        kept = λ no_size. absurd (no_size size);
      }

-- as the code does it, a store after another
pub taken_by : (w : List ℕ) (size : length w ≡ line_size) (n : ℕ) (is : n ≡ min (get_or w 0 0) held_most) (some : n ≡ 0 → ⊥) (x : List ℕ) → x ≡ set w 0 (n - 1) → (v : ℕ) {a : ℕ} → v ≡ a - 1 → a ≡ get_or x 1 0 → (y : List ℕ) → y ≡ set x 1 v → (ys : List ℕ) → length ys ≡ length (part y boxes_at boxes_size) → ys ≡ shifted (part y boxes_at boxes_size) message_size
    → Stepped line_size line_in line_range taken_or_same w (put y boxes_at boxes_size ys)
taken_by w size n is some x xe v ve ae y ye ys fits moved =
    let e : y ≡ set (set w 0 (n - 1)) 1 v = ye ∙ ap (λ (z : List ℕ). set z 1 v) xe in
    let less : v ≡ get_or w 1 0 - 1 = omega (arith, ve, ae, ap (λ (z : List ℕ). get_or z 1 0) xe, get_or-set_other w 0 1 (n - 1) 0 (λ z. omega arith)) in
    let long : length y ≡ line_size = ap length e ∙ length-set (set w 0 (n - 1)) 1 v ∙ length-set w 0 (n - 1) ∙ size in
    subst (λ (z : List ℕ). Stepped line_size line_in line_range taken_or_same w (put z boxes_at boxes_size ys)) (sym e)
    (taken_step w size n is some v less ys (fits ∙ part_length y boxes_at boxes_size (omega arith)) (moved ∙ ap (λ (z : List ℕ). shifted (part z boxes_at boxes_size) message_size) e))

pub empty_step : (w : List ℕ) (n : ℕ) → n ≡ min (get_or w 0 0) held_most → n ≡ 0 → Stepped line_size line_in line_range taken_or_same w w
empty_step w n is z = step_same line_size line_in line_range taken_or_same w (take_none (line_in w) (omega (arith, messages_length w)))
