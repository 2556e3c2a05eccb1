-- The lines of a state renamed one after another.
use mathlib.Core.Path.{◌≡◌, refl, ap, ap₂, ◌∙◌}
use mathlib.Core.List.{List}
use Prim.Native.Nat.{ℕ, ◌+◌, ◌≤◌, ◌<◌}
use native.Mathlib.Omega.{arith}
use lib.ListN.{length, get_or}
use Rattle.lists.proofs.Lists.{mapped, mapped_at, mapped_next, mapped_all}
use Rattle.lists.proofs.Some.{none_at}
use Rattle.lines.specs.Lines.{Line, no_line}
use Rattle.line_renaming.specs.Renaming.{line_renamed_by}
use Rattle.protocol.specs.Network.{Network, lines_most, with_line, with_lines}
use Rattle.network_layout.specs.Layout.{state_size}
use Rattle.network_layout.specs.InWords.{network_in, LineStep}
use Rattle.network_layout.specs.At.{AtState}
use Rattle.network_layout.proofs.Performs.{lines_count}
use Rattle.network_renaming.specs.Renamed.{line_gone, Renaming, RenamingLine, RenamedStep}

-- those before line k
pub record RenamedBelow (names w v : List ℕ) (k : ℕ) : Type 0 where
  pub at : AtState v
  pub are : network_in v ≡ with_lines (network_in w) (mapped (line_renamed_by names) (network_in w).lines k)

module _ (names w : List ℕ) where
  abbrev lines : List Line
  lines = (network_in w).lines

  pub lines_none : AtState w → RenamedBelow names w w 0
  lines_none at = record { at = at; are = refl }

  module _ (v : List ℕ) (k : ℕ) (s : RenamedBelow names w v k) where
    module _ (few : k < lines_most) where
      there : k < length lines
      there = omega (arith, lines_count w)

      same : get_or (network_in v).lines k no_line ≡ get_or lines k no_line
      same = ap (λ (n : Network). get_or n.lines k no_line) s.are ∙ mapped_at (line_renamed_by names) lines k no_line there

      pub line_next : Renaming w names → RenamingLine v names k
      line_next r =
          record {
            at = record { sized = s.at.sized; ranged = s.at.ranged; few = few };
            none = ap (line_gone names) same ∙ none_at (line_gone names) lines k no_line r.none there;
          }

      pub lines_next : (x : List ℕ) → length x ≡ state_size → LineStep v x k (line_renamed_by names) → RenamedBelow names w x (k + 1)
      lines_next x size step =
          record {
            at = record { sized = size; ranged = step.ranged };
            are = step.meant
                ∙ ap₂ (λ (n : Network) (l : Line). with_line n k (line_renamed_by names l)) s.are same
                ∙ ap (with_lines (network_in w)) (mapped_next (line_renamed_by names) lines k no_line there);
          }

    pub lines_all : lines_most ≤ k → RenamedStep names w v
    lines_all h = record { meant = s.are ∙ ap (with_lines (network_in w)) (mapped_all (line_renamed_by names) lines k (omega (arith, lines_count w))); ranged = s.at.ranged }
