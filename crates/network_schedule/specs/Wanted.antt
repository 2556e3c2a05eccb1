-- The writes of a message that a site wants, in words, and what the functions that gather them ask.
use Rattle.std.specs.Prelude.{◌≡◌, List, ℕ, ◌≤◌, ◌<◌, length}
use Rattle.lists.specs.Lists.{keep}
use Rattle.limits.specs.Limits.{ops_most}
use Rattle.site_operations.specs.Operations.{Op}
use Rattle.site_operations.specs.InWords.{ops_in}
use Rattle.protocol.specs.Steps.{wanted_at}
use Rattle.network_layout.specs.Layout.{state_size}
use Rattle.network_layout.specs.InWords.{network_in}
use Rattle.network_layout.specs.At.{AtNetwork}

-- these operations, at most so many, in words
pub record Laid (most count : ℕ) (out : List ℕ) (os : List Op) : Type 0 where
  pub few : count ≤ most
  pub are : ops_in count out ≡ os

-- ---- what is asked
-- the words of a network, and a record of its history
pub record Recorded (w : List ℕ) (k : ℕ) : Type 0 where
  pub net : AtNetwork w
  pub there : k < length (network_in w).history

pub record Wanting (w : List ℕ) (n : ℕ) : Type 0 where
  pub sized : length w ≡ state_size
  pub few : n ≤ ops_most

-- the operations before number i are gathered
pub record Gathering (w out : List ℕ) (count : ℕ) (ops : List ℕ) (i j : ℕ) : Type 0 where
  pub sized : length w ≡ state_size
  pub few : i < ops_most
  pub so_far : Laid i count out (keep (wanted_at (network_in w).items j) (ops_in i ops))
