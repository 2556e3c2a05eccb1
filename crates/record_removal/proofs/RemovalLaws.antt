-- One record moved among the words of a history, and the records that stay one after another.
use mathlib.Core.Path.{◌≡◌, refl, sym, ap, ◌∙◌}
use mathlib.Core.Bool.{Bool, true, false, cond}
use mathlib.Core.List.{List, [], ◌++◌}
use Prim.Native.Nat.{ℕ, ◌+◌, ◌-◌, ◌*◌, ◌≤◌, ◌<◌}
use native.Mathlib.Omega.{arith}
use lib.ListN.{length, get_or, set, take, drop}
use lib.Seq.{paste, drop-drop}
use Rattle.std.proofs.Common.{append_assoc}
use Rattle.std.specs.List.{copy_within}
use Rattle.limits.specs.Limits.{records_most}
use Rattle.words.specs.Words.{part, chunks}
use Rattle.words.proofs.Parts.{part_length, put_length}
use Rattle.words.proofs.Chunks.{chunks_length, chunks_at, chunks_put, chunks_take}
use Rattle.lists.specs.Lists.{count_below}
use Rattle.lists.proofs.Renumber.{count_most, KeptBelow, kept_all, kept_over, kept_moved}
use Rattle.records.specs.InWords.{record_size}
use Rattle.record_names.specs.Names.{stays}
use Rattle.record_removal.specs.Removal.{AtRecord, Kept, Removal, moved}

-- ---- one record, moved over another
module _ (w : List ℕ) (k j : ℕ) (at : AtRecord w k j) where
  abbrev from : ℕ
  from = k * record_size

  abbrev to : ℕ
  to = j * record_size

  from_fits : from + record_size ≤ length w
  from_fits = omega (arith, at.sized, at.few)

  to_fits : to + record_size ≤ length w
  to_fits = omega (arith, at.sized, at.few, at.low)

  pub moved_length : length (moved k j w) ≡ length w
  moved_length = put_length w to record_size (part w from record_size) to_fits (part_length w from record_size from_fits)

  -- what `copy_within` leaves
  pub moved_by : copy_within w from (from + record_size) to ≡ moved k j w
  moved_by =
      let same : from + record_size - from ≡ record_size = omega arith in
      ap (λ (n : ℕ). paste w to (drop from w) n) same
      ∙ append_assoc (take to w) (part w from record_size) (drop (to + record_size) w)
      ∙ ap (λ (ys : List ℕ). take to w ++ (part w from record_size ++ ys)) (sym (drop-drop record_size to w))

-- ---- one record, by the table of names
module _ (names w : List ℕ) (k before : ℕ) where
  pub gone : stays names k ≡ false → Kept names k before w w before
  gone e = record { is = sym (ap (λ (b : Bool). cond b (moved k before w) w) e); count = omega (arith, ap (λ (b : Bool). cond {A = ℕ} b 1 0) e) }

  pub kept : stays names k ≡ true → Kept names k before w (moved k before w) (before + 1)
  kept e = record { is = sym (ap (λ (b : Bool). cond b (moved k before w) w) e); count = ap (λ (b : Bool). before + cond b 1 0) (sym e) }

-- ---- one record more, of those that stay so far
module _ (names all : List ℕ) (made : ℕ) where
  abbrev pub StaySoFar : List ℕ → ℕ → ℕ → Type 0
  StaySoFar w k kept = KeptBelow (stays names) (chunks record_size made all) (chunks record_size made w) k kept

  module _ (w : List ℕ) (k before : ℕ) (so_far : StaySoFar w k before) where
    pub stay_all : length w ≡ length all → made ≤ k → k ≤ made → Removal names made all w before
    stay_all size h g =
        let all_seen : k ≡ made = omega arith in
        let low : before ≤ made = omega (arith, count_most (stays names) k, so_far.count) in
        record {
          sized = size;
          are = sym (chunks_take record_size before made w low) ∙ kept_all (stays names) (chunks record_size made all) (chunks record_size made w) k before so_far (omega (arith, chunks_length record_size made all));
          count = so_far.count ∙ ap (count_below (stays names)) all_seen;
        }

    module _ (at : AtRecord w k before) (few : made ≤ records_most) (there : k < made) (v : List ℕ) (kept : ℕ) (next : Kept names k before w v kept) where
      abbrev records : List (List ℕ)
      records = chunks record_size made w

      there_all : k < length (chunks record_size made all)
      there_all = omega (arith, chunks_length record_size made all)

      moved_records : chunks record_size made (moved k before w) ≡ set records before (get_or records k [])
      moved_records =
          chunks_put record_size made w before (part w (k * record_size) record_size) (part_length w (k * record_size) record_size (from_fits w k before at)) (omega (arith, at.low)) (omega (arith, at.sized))
          ∙ ap (set records before) (sym (chunks_at record_size made w k there))

      pub stay_next : StaySoFar v (k + 1) kept × (length v ≡ length w)
      stay_next = go (stays names k) refl
        where
          go : (b : Bool) → stays names k ≡ b → StaySoFar v (k + 1) kept × (length v ≡ length w)
          go true e =
              let is : v ≡ moved k before w = next.is ∙ ap (λ (b : Bool). cond b (moved k before w) w) e in
              let more : before + 1 ≡ kept = sym (next.count ∙ ap (λ (b : Bool). before + cond b 1 0) e) in
              let step = kept_moved (stays names) (chunks record_size made all) records k before so_far [] there_all e in
              (rw (is, moved_records, ← more) step, ap length is ∙ moved_length w k before at)
          go false e =
              let is : v ≡ w = next.is ∙ ap (λ (b : Bool). cond b (moved k before w) w) e in
              let same : before ≡ kept = omega (arith, next.count ∙ ap (λ (b : Bool). before + cond b 1 0) e) in
              let step = kept_over (stays names) (chunks record_size made all) records k before so_far [] there_all e in
              (rw (is, ← same) step, ap length is)
