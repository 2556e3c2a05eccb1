-- What removing records leaves of a state in range.
use Rattle.std.specs.Prelude.{◌≡◌, Bool, true, not, ◌||◌, List, ℕ, length}
use Rattle.lists.specs.Lists.{keep_from, some_below, count_below}
use Rattle.protocol.specs.Network.{Network}
use Rattle.record_names.specs.Names.{stays}
use Rattle.network_layout.specs.InWords.{network_in, in_range, with_history, with_base}

-- record k goes
abbrev pub goes_by : List ℕ → ℕ → Bool
goes_by names k = not (stays names k)

-- what is said of whether commits have been removed
abbrev pub flagged : Network → Bool → Network
flagged n b = with_base n (record { values = n.base.values; folded = b })

-- the records that stay, and whether some have gone, before or now
abbrev pub without_gone : List ℕ → Network → Network
without_gone names n = flagged (with_history n (keep_from (stays names) 0 n.history)) (n.base.folded || some_below (goes_by names) (length n.history))

pub record FlagStep (entry exit : List ℕ) (some : Bool) : Type 0 where
  pub meant : network_in exit ≡ flagged (network_in entry) ((network_in entry).base.folded || some)
  pub ranged : in_range exit ≡ true

pub record RemovalStep (names entry exit : List ℕ) (removed : ℕ) : Type 0 where
  pub meant : network_in exit ≡ without_gone names (network_in entry)
  pub ranged : in_range exit ≡ true
  pub count : removed ≡ count_below (goes_by names) (length (network_in entry).history)
