-- What the functions that put the items of a report in order ask and answer.
use Rattle.std.specs.Prelude.{◌≡◌, Bool, true, false, cond, List, ℕ, ◌+◌, ◌-◌, ◌≤◌, ◌<◌, length, get_or, take, drop}
use Rattle.limits.specs.Limits.{items_most}
use Rattle.lists.specs.Lists.{padded}
use Rattle.lists.specs.Sorting.{insert}
use Rattle.protocol.specs.Network.{Network, place_of}
use Rattle.protocol.specs.Earliest.{no_later}
use Rattle.protocol.specs.Waiting.{is_waiting, waiting_items}
use Rattle.network_layout.specs.declared.Report.{Report}
use Rattle.network_layout.specs.InWords.{network_in}
use Rattle.network_layout.specs.At.{AtSite, HasRecord, PlacesAre}
use Rattle.network_noting.specs.Noting.{stamp_at}
use Rattle.network_earliest_writes.specs.Noted.{EarliestAre}

-- the record with an item's earliest write, and the order of two items by these
abbrev pub earliest_of : List ℕ → ℕ → ℕ
earliest_of writers x = get_or writers x 0

abbrev pub earliest_before : List ℕ → List ℕ → ℕ → ℕ → Bool
earliest_before w writers j k = no_later (place_of (network_in w).items) (stamp_at (network_in w) (earliest_of writers j)) (stamp_at (network_in w) (earliest_of writers k))

-- ---- asked
-- item k of site i, and the earliest writes on the lines into it
pub record Asking (w writers : List ℕ) (i k : ℕ) : Type 0 where
  pub at : AtSite w i
  pub earliest_are : EarliestAre (network_in w) i writers
  pub few : k < items_most

-- a message writes item x
pub record Written (w writers : List ℕ) (x : ℕ) : Type 0 where
  pub placed : x < length writers
  pub has : HasRecord w (earliest_of writers x)

-- .. each of two, which are compared by the places of the sites
pub record BothWritten (w writers places : List ℕ) (j k : ℕ) : Type 0 where
  pub first : Written w writers j
  pub second : Written w writers k
  pub places_are : PlacesAre w places

-- the place of item k is sought among items that are in order
pub record Seeking (items w writers : List ℕ) (k : ℕ) : Type 0 where
  pub item : Written w writers k
  pub written : (a : ℕ) → a < length items → Written w writers (get_or items a 0)
  pub ordered : (a b : ℕ) → a < b → b < length items → earliest_before w writers (get_or items a 0) (get_or items b 0) ≡ true

pub record Placing (items w writers places : List ℕ) (k : ℕ) : Type 0 where
  pub seeking : Seeking items w writers k
  pub places_are : PlacesAre w places

-- it is not before the items below `low`, and before those from `high` on
pub record Between (items w writers : List ℕ) (k low high : ℕ) : Type 0 where
  pub rising : low ≤ high
  pub within : high ≤ length items
  pub behind : (a : ℕ) → a < low → earliest_before w writers k (get_or items a 0) ≡ false
  pub before : (a : ℕ) → high ≤ a → a < length items → earliest_before w writers k (get_or items a 0) ≡ true

pub record Narrowing (items w writers places : List ℕ) (k low high : ℕ) : Type 0 where
  pub placing : Placing items w writers places k
  pub between : Between items w writers k low high
  pub some : low < high

pub record Narrowed (items w writers : List ℕ) (k size low high : ℕ) : Type 0 where
  pub between : Between items w writers k low high
  pub fewer : high - low < size

-- ---- item k is put among the `count` items above it
pub record Putting (items w writers places : List ℕ) (count site k : ℕ) : Type 0 where
  pub asking : Asking w writers site k
  pub places_are : PlacesAre w places
  pub room : count < length items
  pub seeking : Written w writers k → Seeking (take count items) w writers k

pub record PutIn (w writers : List ℕ) (site k count count' : ℕ) (entry exit : List ℕ) : Type 0 where
  pub above : count ≤ count'
  pub below : count' ≤ count + 1
  pub items_are : take count' exit ≡ cond (is_waiting (network_in w) site k) (insert (earliest_before w writers) k (take count entry)) (take count entry)
  pub rest_is : drop count' exit ≡ drop count' entry

-- ---- all are put in
pub record AllPut (n : Network) (site : ℕ) (r : Report) : Type 0 where
  pub count_is : r.count ≡ length (waiting_items n site)
  pub items_are : r.items ≡ padded items_most 0 (waiting_items n site)
  pub few : r.count ≤ items_most
