-- What renaming the messages on all lines asks of a state's words, and what it leaves of them.
use Rattle.std.specs.Prelude.{◌≡◌, Bool, true, false, List, map, ℕ, get_or}
use Rattle.lists.specs.Lists.{any}
use Rattle.lines.specs.Lines.{Line, no_line}
use Rattle.line_renaming.specs.Renaming.{names_gone, line_renamed_by}
use Rattle.protocol.specs.Network.{Network, with_lines}
use Rattle.network_layout.specs.InWords.{network_in, in_range}
use Rattle.network_layout.specs.At.{AtState, AtLine}

-- a message of a line names a commit that goes
abbrev pub line_gone : List ℕ → Line → Bool
line_gone names l = any (names_gone names) l.messages

abbrev pub some_gone : List ℕ → Network → Bool
some_gone names n = any (line_gone names) n.lines

-- ---- what is asked
-- no message names a commit that goes
pub record Renaming (w names : List ℕ) : Type 0 where
  pub at : AtState w
  pub none : some_gone names (network_in w) ≡ false

-- none of line k does
pub record RenamingLine (w names : List ℕ) (k : ℕ) : Type 0 where
  pub at : AtLine w k
  pub none : line_gone names (get_or (network_in w).lines k no_line) ≡ false

-- ---- what is left
pub record RenamedStep (names entry exit : List ℕ) : Type 0 where
  pub meant : network_in exit ≡ with_lines (network_in entry) (map (line_renamed_by names) (network_in entry).lines)
  pub ranged : in_range exit ≡ true
