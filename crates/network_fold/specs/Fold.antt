-- What folding asks of a state's words, and what it leaves of them.
use Rattle.std.specs.Prelude.{◌≡◌, true, List, ℕ, ℤ, pos, length, get_or, set}
use Rattle.protocol.specs.Network.{Network}
use Rattle.protocol.specs.Collect.{folded_base}
use Rattle.network_layout.specs.InWords.{network_in, in_range, with_base}
use Rattle.network_layout.specs.At.{AtState, HasItem}
use Rattle.network_writers.specs.Writers.{LastSoFar}
use Rattle.network_last_writes.specs.LastWrites.{is_folded}

-- b is the last in turn of the records that are to be folded and write item x, or a number that no record has
abbrev pub LastFolded : Network → ℕ → ℕ → Type 0
LastFolded n x b = LastSoFar n (is_folded n x) (length n.history) b

-- ---- what is asked
pub record FoldingItem (w : List ℕ) (x b : ℕ) : Type 0 where
  pub at : AtState w
  pub item : HasItem w x
  pub last : LastFolded (network_in w) x b

-- ---- what is left
-- a network with other base values
abbrev pub with_values : Network → List ℤ → Network
with_values n vs = with_base n (record { values = vs; folded = n.base.folded })

-- its base value of item x folded
abbrev pub folded_at : Network → ℕ → Network
folded_at n x = with_values n (set n.base.values x (get_or (folded_base n).values x (pos 0)))

pub record ItemStep (entry exit : List ℕ) (x : ℕ) : Type 0 where
  pub meant : network_in exit ≡ folded_at (network_in entry) x
  pub ranged : in_range exit ≡ true

-- all of them; whether commits have been removed is said as before
pub record FoldStep (entry exit : List ℕ) : Type 0 where
  pub meant : network_in exit ≡ with_values (network_in entry) (folded_base (network_in entry)).values
  pub ranged : in_range exit ≡ true
