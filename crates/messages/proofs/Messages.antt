-- One message: what is written of it is read back, its name, and a dummy's timestamp.
use mathlib.Core.Path.{◌≡◌, refl, sym, ap, ap₂, ◌∙◌}
use mathlib.Core.Bool.{Bool, true, false, cond, ◌||◌}
use mathlib.Core.List.{List}
use Prim.Native.Nat.{ℕ, ◌-◌, ◌≤◌, min}
use native.Mathlib.Omega.{arith}
use lib.ListN.{length, get_or, set, length-set}
use lib.Seq.{get_or-set_same}
use lib.Dec.{ltb}
use borrow.Author.Tests.{le-leb, ltb-true, ltb-false}
use Rattle.words.specs.Words.{part, put, overlaid}
use Rattle.words.proofs.Parts.{part_length, put_length, put_here, put_get_d_below}
use Rattle.words.proofs.Walks.{overlaid_same}
use Rattle.timestamp_order.specs.Timestamp.{Stamp, room}
use Rattle.timestamp_words.specs.InWords.{stamp_in, stamp_size, stamp_range, stamp_words}
use Rattle.timestamp_words.proofs.Words.{words_back, words_length}
use Rattle.messages.specs.Messages.{commit, dummy, name_of, own_stamp}
use Rattle.limits.specs.Limits.{records_most}
use Rattle.messages.specs.InWords.{message_size, message_in, message_range}

-- ---- in words
or_true : (b : Bool) → (b || true) ≡ true
or_true true = refl
or_true false = refl

module _ (w : List ℕ) (size : length w ≡ message_size) (name : ℕ) (s : Stamp) (few : length s.tuples ≤ room) (ys : List ℕ) (is : ys ≡ overlaid (part (set w 0 name) 1 stamp_size) (stamp_words s)) where
  abbrev written : List ℕ
  written = put (set w 0 name) 1 stamp_size ys

  named_size : length (set w 0 name) ≡ message_size
  named_size = length-set w 0 name ∙ size

  room_size : length (part (set w 0 name) 1 stamp_size) ≡ stamp_size
  room_size = part_length (set w 0 name) 1 stamp_size (omega (arith, named_size))

  stamp_words_lem : ys ≡ stamp_words s
  stamp_words_lem = is ∙ overlaid_same (part (set w 0 name) 1 stamp_size) (stamp_words s) (words_length s ∙ sym room_size)

  stamp_fits : length ys ≡ stamp_size
  stamp_fits = ap length stamp_words_lem ∙ words_length s

  pub written_length : length written ≡ length w
  written_length = put_length (set w 0 name) 1 stamp_size ys (omega (arith, named_size)) stamp_fits ∙ length-set w 0 name

  written_name : get_or written 0 0 ≡ name
  written_name = put_get_d_below (set w 0 name) 1 stamp_size ys (omega (arith, named_size)) stamp_fits 0 (omega arith) ∙ get_or-set_same w 0 name 0 (omega arith)

  written_stamp : part written 1 stamp_size ≡ stamp_words s
  written_stamp = put_here (set w 0 name) 1 stamp_size ys (omega (arith, named_size)) stamp_fits ∙ stamp_words_lem

  pub written_message : message_in written ≡ cond (ltb name records_most) (commit name) (dummy s)
  written_message =
      ap₂ (λ (k : ℕ) (t : Stamp). cond (ltb k records_most) (commit k) (dummy t)) written_name (ap stamp_in written_stamp ∙ words_back s few)

  pub written_range : message_range written ≡ true
  unfolding stamp_words
  written_range = rw (ap stamp_range written_stamp, le-leb (length s.tuples) room few) (or_true (ltb (get_or written 0 0) records_most))

-- ---- its name
named_by : (x : ℕ) (s : Stamp) → min x records_most ≡ name_of (cond (ltb x records_most) (commit x) (dummy s))
named_by x s = go (ltb x records_most) refl
  where
    go : (b : Bool) → ltb x records_most ≡ b → min x records_most ≡ name_of (cond (ltb x records_most) (commit x) (dummy s))
    go true h = rw h (omega (arith, ltb-true x records_most h))
    go false h = rw h (omega (arith, ltb-false x records_most h))

pub name_in : (w : List ℕ) → min (get_or w 0 0) records_most ≡ name_of (message_in w)
name_in w = named_by (get_or w 0 0) (stamp_in (part w 1 stamp_size))

-- the words of a dummy's timestamp
own_by : (x : ℕ) (s : Stamp) → name_of (cond (ltb x records_most) (commit x) (dummy s)) ≡ records_most → s ≡ own_stamp (cond (ltb x records_most) (commit x) (dummy s))
own_by x s = go (ltb x records_most) refl
  where
    go : (b : Bool) → ltb x records_most ≡ b → name_of (cond b (commit x) (dummy s)) ≡ records_most → s ≡ own_stamp (cond b (commit x) (dummy s))
    go true h e = absurd (omega (arith, ltb-true x records_most h))
    go false h e = refl

pub own_in : (w : List ℕ) → name_of (message_in w) ≡ records_most → stamp_in (part w 1 stamp_size) ≡ own_stamp (message_in w)
own_in w e = own_by (get_or w 0 0) (stamp_in (part w 1 stamp_size)) e
