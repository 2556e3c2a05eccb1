-- The last write of each item among the records that go: what a walk over the records notes, and what its functions ask.
use Rattle.std.specs.Prelude.{◌≡◌, Bool, ◌&&◌, List, ℕ, ◌<◌, length, get_or}
use Rattle.limits.specs.Limits.{items_most}
use Rattle.site_operations.specs.Operations.{touches}
use Rattle.record_names.specs.Names.{Names}
use Rattle.protocol.specs.Network.{Network, nth_record}
use Rattle.protocol.specs.Collect.{is_past}
use Rattle.network_layout.specs.InWords.{network_in}
use Rattle.network_layout.specs.At.{AtState, HasRecord, PlacesAre}
use Rattle.network_writers.specs.Writers.{LastSoFar}

-- record i is to be folded, and writes item x
abbrev pub is_folded : Network → ℕ → ℕ → Bool
is_folded n x i = is_past n i && touches x (nth_record n i).ops

-- a table of the last writes: of each item the last in turn of the records below j that are to be folded and write it
pub record LastWrites (n : Network) (j : ℕ) (table : List ℕ) : Type 0 where
  pub sized : length table ≡ items_most
  pub each : (x : ℕ) → x < items_most → LastSoFar n (is_folded n x) j (get_or table x 0)

-- ---- what is asked
-- the names by which the records not later than the point go, and the places of the sites
pub record Folding (w names places : List ℕ) : Type 0 where
  pub at : AtState w
  pub names_are : Names (is_past (network_in w)) (length (network_in w).history) names
  pub places_are : PlacesAre w places

-- .. record j, and a table of those below it
pub record NotingNext (w names table : List ℕ) (j : ℕ) (places : List ℕ) : Type 0 where
  pub folding : Folding w names places
  pub next : HasRecord w j
  pub so_far : LastWrites (network_in w) j table
