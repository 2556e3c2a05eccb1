-- The words of the lines that hold nothing, one line after another.
use mathlib.Core.Path.{◌≡◌, refl, sym, ap, ap₂, ◌∙◌}
use mathlib.Core.Bool.{true}
use mathlib.Core.List.{List, [], ◌∷◌, ◌++◌, map, map-append}
use Prim.Native.Nat.{ℕ, zero, suc, ◌+◌, ◌*◌, ◌≤◌, ◌<◌}
use native.Mathlib.Omega.{arith}
use native.Mathlib.Numerals.{add-one}
use lib.ListN.{length, get_or, replicate}
use Rattle.words.specs.Words.{part, put, chunks}
use Rattle.lists.specs.Lists.{every}
use Rattle.words.proofs.Parts.{part_get_d, put_here}
use Rattle.words.proofs.Chunks.{mul_room, chunks_last, chunks_below}
use Rattle.lists.proofs.Every.{every_snoc}
use Rattle.lines.specs.Lines.{Line, no_line}
use Rattle.lines.specs.InWords.{line_in, line_range, line_size}
use Rattle.protocol.specs.Network.{lines_most}
use Rattle.network_new_lines.specs.Cleared.{Cleared, ClearingNext}

-- a line whose two counts are 0 holds nothing, whatever its other words
module _ (x : List ℕ) (held : get_or x 0 0 ≡ 0) (arrived : get_or x 1 0 ≡ 0) where
  empty_meant : line_in x ≡ no_line
  unfolding line_in
  empty_meant = rw (held, arrived)

  empty_ranged : line_range x ≡ true
  unfolding line_range
  empty_ranged = rw held

replicate_snoc : {A : Type 0} (k : ℕ) (x : A) → replicate k x ++ (x ∷ []) ≡ replicate (suc k) x
replicate_snoc zero x = refl
replicate_snoc {A} (suc k) x = ap {B = List A} (λ l. x ∷ l) (replicate_snoc k x)

pub none_cleared : (w : List ℕ) → Cleared w 0
unfolding chunks
none_cleared w = record { are = refl; ranged = refl }

-- line k behind those before it
module _ (w : List ℕ) (k : ℕ) (s : ClearingNext w k) where
  pub inside : k * line_size + 2 ≤ length w
  inside = omega (arith, s.sized, mul_room k lines_most line_size s.room)

-- its counts put there
module _ (w v : List ℕ) (k : ℕ) (s : ClearingNext w k) (new : v ≡ put w (k * line_size) 2 (0 ∷ (0 ∷ []))) where
  abbrev at : ℕ
  at = k * line_size

  abbrev counts : List ℕ
  counts = 0 ∷ (0 ∷ [])

  abbrev line : List ℕ
  line = part v at line_size

  count : (i : ℕ) → i < 2 → get_or line i 0 ≡ get_or counts i 0
  count i h =
      part_get_d v at line_size i (omega arith)
      ∙ ap (λ (x : List ℕ). get_or x (at + i) 0) new
      ∙ sym (part_get_d (put w at 2 counts) at 2 i h)
      ∙ ap (λ (x : List ℕ). get_or x i 0) (put_here w at 2 counts (inside w k s) refl)

  clear_chunks : chunks line_size (k + 1) v ≡ chunks line_size k w ++ (line ∷ [])
  clear_chunks =
      ap (λ (n : ℕ). chunks line_size n v) (add-one k)
      ∙ chunks_last line_size k v
      ∙ ap {B = List (List ℕ)} (λ (x : List (List ℕ)). x ++ (line ∷ []))
      (ap (chunks line_size k) new ∙ chunks_below line_size k w at 2 counts (omega arith) (inside w k s) refl)

  pub one_cleared : Cleared v (k + 1)
  one_cleared =
      let held = count 0 (omega arith) in
      let arrived = count 1 (omega arith) in
      record {
        are =
            ap (map line_in) clear_chunks
            ∙ map-append line_in (chunks line_size k w) (line ∷ [])
            ∙ ap₂ {C = List Line} (λ (ls : List Line) (x : Line). ls ++ (x ∷ [])) s.so_far.are (empty_meant line held arrived)
            ∙ replicate_snoc k no_line
            ∙ ap (λ (n : ℕ). replicate n no_line) (sym (add-one k));
        ranged = ap (every line_range) clear_chunks ∙ every_snoc line_range (chunks line_size k w) line s.so_far.ranged (empty_ranged line held arrived);
      }
