-- What leads the file of a network, and what writing it asks.
use Rattle.std.specs.Prelude.{◌≡◌, cond, List, ℕ, ◌+◌, ◌*◌, ◌≤◌, length}
use Rattle.limits.specs.Limits.{sites_most, items_most}
use Rattle.placement.specs.Places.{places_of}
use Rattle.network_layout.specs.InWords.{network_in}
use Rattle.network_layout.specs.At.{AtNetwork}
use Rattle.history_file.specs.Bytes.{value_size}
use Rattle.history_file.specs.File.{History, history_of, is_numbers}
use Rattle.history_lead.specs.declared.Lead.{Lead}

-- the history of a state
abbrev pub own : List ℕ → History
own w = history_of (network_in w)

-- the places of its sites; a table of all of them where they are not the numbers; all base values where a record was removed
pub record Leads (w : List ℕ) (given : Lead) : Type 0 where
  pub places_are : given.places ≡ places_of (network_in w).items
  pub table_is : given.table ≡ cond (is_numbers (own w).places) 0 (own w).sites
  pub values_are : given.values ≡ cond (own w).folded (own w).items 0

-- no more than a file has
pub record Few (given : Lead) : Type 0 where
  pub few_places : given.table ≤ sites_most
  pub few_values : given.values ≤ items_most

-- the bytes of n base values
pub record ForBase (b w : List ℕ) (n : ℕ) : Type 0 where
  pub there : AtNetwork w
  pub few : n ≤ length (network_in w).items
  pub sized : length b ≡ n * value_size

-- the bytes of the table and the base values
pub record ForLead (b w : List ℕ) (given : Lead) : Type 0 where
  pub there : AtNetwork w
  pub leads : Leads w given
  pub sized : length b ≡ given.table + given.values * value_size
