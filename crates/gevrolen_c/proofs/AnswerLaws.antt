-- Answers as words: a call's answer, a file's part, many lines, and how many operations a record has.
use mathlib.Core.Path.{◌≡◌, refl, ap, ap₂, ◌∙◌}
use mathlib.Core.Bool.{Bool, true, false}
use mathlib.Core.List.{List, ◌∷◌, ◌++◌}
use Prim.Native.Nat.{ℕ, ◌+◌, ◌-◌, ◌≤◌}
use native.Mathlib.Omega.{arith}
use lib.IntN.{ℤ}
use lib.ListN.{length, drop, length-map}
use lib.Dec.{eqb, leb}
use borrow.Author.Tests.{eqb-true, eqb-false, leb-true, leb-false}
use Rattle.limits.specs.Limits.{ops_most}
use Rattle.words.specs.Words.{part}
use Rattle.words.proofs.Parts.{part_length}
use Rattle.words.proofs.Chunks.{chunks_length}
use Rattle.timestamp_order.specs.Timestamp.{Stamp}
use Rattle.timestamp_words.specs.InWords.{stamp_words}
use Rattle.protocol.specs.Calls.{Call}
use Rattle.network_layout.specs.Promises.{Performed}
use Rattle.history_file.specs.File.{trailer_size}
use Rattle.history_file.specs.Bytes.{unit_size}
use Rattle.history_file.specs.Reading.{op_units, ops_from, op_count, op_read, record_read, record_valid, distance_read, count_read, start_read, lead_size, part_read, file_number, history_read}
use Rattle.history_file.specs.Promises.{no_step, step_of, step_numbered, part_answered, places_answered}
use Rattle.history_file.proofs.Held.{valid_counts}
use Rattle.history_file.proofs.Files.{accepted, good_parts, numbered_refused, numbered_past, numbered_there}
use Rattle.c_answers.specs.Answers.{listed, value_words, base_words}
use Rattle.gevrolen_c.specs.Answers.{committed_words, dummied_words, scheduled_words, Answered, start_answered, file_words, FileRead}

-- ---- a call's answer
module _ (call : Call) (entry exit : List ℕ) (number parent : ℕ) (t : Stamp) (vs : List ℤ) (p : Performed call entry exit number parent t vs) (answer : List ℕ) where
  committed_answer : answer ≡ stamp_words t ++ listed ops_most (value_words vs) → Answered call committed_words entry exit number answer
  committed_answer e =
      record {
        number_is = p.number_is;
        answer_is = e ∙ ap₂ {C = List ℕ} (λ (s : Stamp) (l : List ℤ). stamp_words s ++ listed ops_most (value_words l)) p.stamp_is p.values_are;
        after_is = p.after_is;
        kept = p.kept;
      }

  pub committed_call : (r : ℕ) → r ≡ number → answer ≡ stamp_words t ++ listed ops_most (value_words vs) → Answered call committed_words entry exit r answer
  committed_call r same e = rw same (committed_answer e)

  dummied_answer : answer ≡ stamp_words t → Answered call dummied_words entry exit number answer
  dummied_answer e = record { number_is = p.number_is; answer_is = e ∙ ap stamp_words p.stamp_is; after_is = p.after_is; kept = p.kept }

  pub dummied_call : (r : ℕ) → r ≡ number → answer ≡ stamp_words t → Answered call dummied_words entry exit r answer
  dummied_call r same e = rw same (dummied_answer e)

  scheduled_answer : answer ≡ parent ∷ stamp_words t → Answered call scheduled_words entry exit number answer
  scheduled_answer e =
      record {
        number_is = p.number_is;
        answer_is = e ∙ ap₂ {C = List ℕ} (λ (n : ℕ) (s : Stamp). n ∷ stamp_words s) p.parent_is p.stamp_is;
        after_is = p.after_is;
        kept = p.kept;
      }

  pub scheduled_call : (r : ℕ) → r ≡ number → answer ≡ parent ∷ stamp_words t → Answered call scheduled_words entry exit r answer
  scheduled_call r same e = rw same (scheduled_answer e)

-- ---- a file's part
module _ (b : List ℕ) where
  size_read_lem : file_number b ≡ 0 → lead_size b + trailer_size + length (part_read b) ≡ distance_read b
  unfolding part_read
  size_read_lem z =
      let a = accepted b z in
      let near = (good_parts b a).room in
      let size = part_length b (start_read b + lead_size b) (distance_read b - (lead_size b + trailer_size)) (omega (arith, near, a.high)) in
      omega (arith, size, near)

  there : file_number b ≡ 0 → part b (length b - trailer_size - length (part_read b)) (length (part_read b)) ≡ part_read b
  unfolding part_read
  there z =
      let a = accepted b z in
      let size = size_read_lem z in
      let from : length b - trailer_size - length (part_read b) ≡ start_read b + lead_size b = omega (arith, size, a.high) in
      let long : length (part_read b) ≡ distance_read b - (lead_size b + trailer_size) = omega (arith, size) in
      ap₂ {C = List ℕ} (λ (i n : ℕ). part b i n) from long

  answered : file_number b ≡ 0 → part_answered b ≡ part_read b
  unfolding part_answered
  answered z = rw z refl

  pub in_buffer : file_number b ≡ 0 → trailer_size + length (part_answered b) ≤ length b
  in_buffer z = rw (answered z) (omega (arith, size_read_lem z, (accepted b z).high))

  pub part_there : part b (start_answered b) (length (part_answered b)) ≡ part_answered b
  unfolding part_answered
  part_there = go (eqb (file_number b) 0) refl
    where
      go : (f : Bool) → eqb (file_number b) 0 ≡ f → part b (start_answered b) (length (part_answered b)) ≡ part_answered b
      go true e = rw e (there (eqb-true (file_number b) 0 e))
      go false e = rw e refl

pub file_read_lem : (b : List ℕ) (number : ℕ) (answer places base : List ℕ) → number ≡ file_number b → answer ≡ file_words b → places ≡ places_answered b → base ≡ base_words (history_read b).folded (history_read b).base → FileRead b number answer places base
file_read_lem b number answer places base n e p l = record { number_is = n; answer_is = e; places_are = p; base_is = l; part_is = rw e (part_there b) }

-- ---- a record: at most eight operations
pub step_few : (b : List ℕ) (at : ℕ) (place : ℕ → ℕ) (sites items : ℕ) → length (step_of b at place sites items).found.ops ≤ ops_most
unfolding step_of record_read
step_few b at place sites items = go (leb (length b) at) refl (record_valid place sites items (drop at b)) refl
  where
    go : (past : Bool) → leb (length b) at ≡ past → (valid : Bool) → record_valid place sites items (drop at b) ≡ valid → length (step_of b at place sites items).found.ops ≤ ops_most
    go true e valid f = rw e (omega arith)
    go false e true f = rw (e, f) (omega (arith, length-map (op_units (drop at b)) op_read, chunks_length unit_size (op_count (drop at b)) (drop (ops_from (drop at b)) (drop at b)), (valid_counts place sites items (drop at b) f).1))
    go false e false f = rw (e, f) (omega arith)

pub numbered_few : (b : List ℕ) (k : ℕ) → length (step_numbered b k).found.ops ≤ ops_most
numbered_few b k = go (eqb (file_number b) 0) refl (leb (count_read b) k) refl
  where
    none : (n : ℕ) → no_step n ≡ step_numbered b k → length (step_numbered b k).found.ops ≤ ops_most
    none n e = rw (← e) (omega arith)

    go : (ok : Bool) → eqb (file_number b) 0 ≡ ok → (past : Bool) → leb (count_read b) k ≡ past → length (step_numbered b k).found.ops ≤ ops_most
    go false e past f = none (file_number b) (numbered_refused b k (file_number b) refl (eqb-false (file_number b) 0 e))
    go true e true f = none 24 (numbered_past b k (eqb-true (file_number b) 0 e) (leb-true (count_read b) k f))
    go true e false f = rw (← numbered_there b k (eqb-true (file_number b) 0 e) (leb-false (count_read b) k f)) (step_few _ _ _ _ _)
