-- What the inner functions ask of a state's words: that every number in them is in range, and that there is such a site, line, item or record.
use Rattle.std.specs.Prelude.{◌≡◌, true, List, ℕ, ◌<◌, ◌≤◌, length}
use Rattle.limits.specs.Limits.{sites_most, items_most, ops_most, records_most}
use Rattle.lists.specs.Lists.{every}
use Rattle.site_operations.specs.Operations.{Op}
use Rattle.records.specs.Records.{op_fits}
use Rattle.placement.specs.Places.{places_of}
use Rattle.protocol.specs.Network.{lines_most}
use Rattle.network_layout.specs.Layout.{site_count, item_count, record_count, state_size}
use Rattle.network_layout.specs.InWords.{network_in, in_range, shaped}

-- ---- where the state is in range
pub record AtState (w : List ℕ) : Type 0 where
  pub sized : length w ≡ state_size
  pub ranged : in_range w ≡ true

pub record AtSite (w : List ℕ) (i : ℕ) : Type 0 where
  pub sized : length w ≡ state_size
  pub ranged : in_range w ≡ true
  pub there : i < site_count w
  pub few : i < sites_most

pub record AtLine (w : List ℕ) (k : ℕ) : Type 0 where
  pub sized : length w ≡ state_size
  pub ranged : in_range w ≡ true
  pub few : k < lines_most

-- the places of the sites are those that the state's items give
abbrev pub PlacesAre : List ℕ → List ℕ → Type 0
PlacesAre w places = places ≡ places_of (network_in w).items

-- a record more, of n operations, which a record has room for
pub record AtRoom (w : List ℕ) (n : ℕ) (os : List Op) : Type 0 where
  pub sized : length w ≡ state_size
  pub ranged : in_range w ≡ true
  pub room : record_count w < records_most
  pub some : 1 ≤ n
  pub few : n ≤ ops_most
  pub fitting : every (op_fits items_most) os ≡ true

-- ---- what is only read need not be in range
pub record HasItem (w : List ℕ) (k : ℕ) : Type 0 where
  pub sized : length w ≡ state_size
  pub there : k < item_count w

pub record HasLine (w : List ℕ) (k : ℕ) : Type 0 where
  pub sized : length w ≡ state_size
  pub few : k < lines_most

pub record HasRecord (w : List ℕ) (k : ℕ) : Type 0 where
  pub sized : length w ≡ state_size
  pub there : k < record_count w
  pub few : k < records_most

-- the words of a network
pub record AtNetwork (w : List ℕ) : Type 0 where
  pub sized : length w ≡ state_size
  pub formed : shaped w ≡ true

-- the line between two sites
pub record AtPair (w : List ℕ) (p c : ℕ) : Type 0 where
  pub sized : length w ≡ state_size
  pub ranged : in_range w ≡ true
  pub from : p < sites_most
  pub to : c < sites_most
