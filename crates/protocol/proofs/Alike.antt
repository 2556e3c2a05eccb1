-- Commits alike: those that read and write the same, whatever values their reads were recorded with. The run of such commits is one run.
use mathlib.Core.Path.{◌≡◌, refl, ap, ap₂, ◌∙◌}
use mathlib.Core.Bool.{Bool, true, false}
use mathlib.Core.List.{List, [], ◌∷◌, ◌++◌, map}
use Prim.Native.Nat.{ℕ, suc, ◌<◌}
use lib.IntN.{ℤ, pos}
use lib.ListN.{length, get_or}
use Rattle.timestamp_order.specs.Timestamp.{Stamp}
use Rattle.site_operations.specs.Operations.{Op, reads, recorded, written, Work, worked}
use Rattle.site_operations.proofs.Works.{read_no_write}
use Rattle.records.specs.Records.{Record}
use Rattle.lists.specs.Lists.{keep, up_to}
use Rattle.lists.proofs.Matched.{Matched, matched_length, matched_at, matched_add, matched_keep, matched_sorted}
use Rattle.protocol.specs.Network.{no_record, record_at}
use Rattle.protocol.specs.Run.{Turn, numbered, comes_first, in_turn, after, seen, run, start_table, find, shown, is_up_to, value_at}

-- the same work on every table
abbrev pub AlikeOps : List Op → List Op → Type 0
AlikeOps os us = (table : List ℤ) → worked table os ≡ worked table us

pub record Alike (r c : Record) : Type 0 where
  pub site_same : r.site ≡ c.site
  pub stamp_same : r.stamp ≡ c.stamp
  pub ops_alike : AlikeOps r.ops c.ops

abbrev pub AllAlike : List Record → List Record → Type 0
AllAlike h cs = Matched Alike h cs

pub all_alike_add : (h cs : List Record) (r c : Record) → AllAlike h cs → Alike r c → AllAlike (h ++ (r ∷ [])) (cs ++ (c ∷ []))
all_alike_add h cs r c m e = matched_add Alike h cs r c m e

-- as many, and each with the timestamp of the other
module _ (h cs : List Record) (m : AllAlike h cs) where
  pub alike_many : length h ≡ length cs
  alike_many = matched_length Alike h cs m

  pub alike_stamp : (k : ℕ) → k < length h → (record_at h k).stamp ≡ (record_at cs k).stamp
  alike_stamp k l = (matched_at Alike h cs k no_record m l).stamp_same

-- ---- operations recorded with values are alike to those without: a read is read again, and writes nothing
module _ (table : List ℤ) (o : Op) (t : List ℤ) where
  recorded_again : recorded t (recorded table o) ≡ recorded t o
  recorded_again = go (reads o) refl
    where
      go : (r : Bool) → reads o ≡ r → recorded t (recorded table o) ≡ recorded t o
      go true e = simp e
      go false e = simp e

  written_again : written t (recorded table o) ≡ written t o
  written_again = go (reads o) refl
    where
      go : (r : Bool) → reads o ≡ r → written t (recorded table o) ≡ written t o
      go true e = rw (e, read_no_write o e)
      go false e = rw e

pub worked_alike : (table : List ℤ) (os : List Op) → AlikeOps (worked table os).ops os
unfolding worked
worked_alike table [] t = refl
worked_alike table (o ∷ os) t =
    let rest : worked (written t (recorded table o)) (worked (written table o) os).ops ≡ worked (written t o) os
    = ap (λ (l : List ℤ). worked l (worked (written table o) os).ops) (written_again table o t) ∙ worked_alike (written table o) os (written t o) in
    λ i. record { table = (rest i).table; ops = recorded_again table o t i ∷ (rest i).ops }

-- ---- turns alike
abbrev AlikeTurns : Turn → Turn → Type 0
AlikeTurns c d = (c.number ≡ d.number) × Alike c.commit d.commit

numbered_alike : (j : ℕ) (h cs : List Record) → AllAlike h cs → Matched AlikeTurns (numbered j h) (numbered j cs)
numbered_alike j [] [] m = tt
numbered_alike j [] (c ∷ cs) m = absurd m
numbered_alike j (r ∷ h) [] m = absurd m
numbered_alike j (r ∷ h) (c ∷ cs) m = ((refl, m.0), numbered_alike (suc j) h cs m.1)

-- between two turns alike: all but the operations of each
abbrev between : (c d : Turn) → AlikeTurns c d → 𝕀 → Turn
between c d e i = record { number = e.0 i; commit = record { site = e.1.site_same i; stamp = e.1.stamp_same i; ops = c.commit.ops } }

module _ (place : ℕ → ℕ) where
  first_alike : (c d x y : Turn) → AlikeTurns c d → AlikeTurns x y → comes_first place c x ≡ comes_first place d y
  first_alike c d x y e f i = comes_first place (between c d e i) (between x y f i)

  upto_alike : (t : Stamp) (c d : Turn) → AlikeTurns c d → is_up_to place t c ≡ is_up_to place t d
  upto_alike t c d e i = is_up_to place t (between c d e i)

turns_alike : (place : ℕ → ℕ) (h cs : List Record) → AllAlike h cs → Matched AlikeTurns (in_turn place h) (in_turn place cs)
turns_alike place h cs m = matched_sorted AlikeTurns _ (first_alike _) (numbered 0 h) (numbered 0 cs) (numbered_alike 0 h cs m)

-- ---- one run
table_alike : (table : List ℤ) (c d : Turn) → AlikeTurns c d → (worked table c.commit.ops).table ≡ (worked table d.commit.ops).table
table_alike table c d e = ap (λ (w : Work). w.table) (e.1.ops_alike table)

after_alike : (table : List ℤ) (xs ys : List Turn) → Matched AlikeTurns xs ys → after table xs ≡ after table ys
after_alike table [] [] m = refl
after_alike table [] (y ∷ ys) m = absurd m
after_alike table (x ∷ xs) [] m = absurd m
after_alike table (x ∷ xs) (y ∷ ys) m = after_alike (worked table x.commit.ops).table xs ys m.1 ∙ ap (λ (t : List ℤ). after t ys) (table_alike table x y m.0)

seen_alike : (table : List ℤ) (c d : Turn) → AlikeTurns c d → seen table c ≡ seen table d
seen_alike table c d e = simp (e.0, e.1.site_same, e.1.stamp_same, e.1.ops_alike)

run_alike : (table : List ℤ) (xs ys : List Turn) → Matched AlikeTurns xs ys → run table xs ≡ run table ys
run_alike table [] [] m = refl
run_alike table [] (y ∷ ys) m = absurd m
run_alike table (x ∷ xs) [] m = absurd m
run_alike table (x ∷ xs) (y ∷ ys) m =
    ap₂ {C = List Turn} (λ c cs. c ∷ cs) (seen_alike table x y m.0)
    (run_alike (worked table x.commit.ops).table xs ys m.1 ∙ ap (λ (t : List ℤ). run t ys) (table_alike table x y m.0))

module _ (place : ℕ → ℕ) (h cs : List Record) (m : AllAlike h cs) where
  pub alike_shown : shown place start_table h ≡ shown place start_table cs
  unfolding shown
  alike_shown =
      ap₂ (λ (ts : List Turn) (n : ℕ). map (find ts) (up_to 0 n)) (run_alike start_table (in_turn place h) (in_turn place cs) (turns_alike place h cs m)) (alike_many h cs m)

  -- the values after the turns that pass a test that does not tell those alike apart: by timestamp, or by number
  alike_after : (q : Turn → Bool) → ((c d : Turn) → AlikeTurns c d → q c ≡ q d) → after start_table (keep q (in_turn place h)) ≡ after start_table (keep q (in_turn place cs))
  alike_after q same =
      after_alike start_table (keep q (in_turn place h)) (keep q (in_turn place cs)) (matched_keep AlikeTurns q same (in_turn place h) (in_turn place cs) (turns_alike place h cs m))

  pub alike_value : (t : Stamp) (x : ℕ) → value_at place start_table h t x ≡ value_at place start_table cs t x
  unfolding value_at
  alike_value t x = ap (λ (l : List ℤ). get_or l x (pos 0)) (alike_after (is_up_to place t) (upto_alike place t))

  pub alike_numbers : (p : ℕ → Bool) → after start_table (keep (λ (c : Turn). p c.number) (in_turn place h)) ≡ after start_table (keep (λ (c : Turn). p c.number) (in_turn place cs))
  alike_numbers p = alike_after (λ c. p c.number) (λ c d e. ap p e.0)
