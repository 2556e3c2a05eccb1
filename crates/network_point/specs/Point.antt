-- What the point and the table of names are while they are looked for, and what is asked.
use Rattle.std.specs.Prelude.{◌≡◌, Bool, cond, List, ℕ, ◌+◌, ◌≤◌, ◌<◌, set, drop}
use Rattle.limits.specs.Limits.{records_most}
use Rattle.lists.specs.Lists.{fold}
use Rattle.lists.specs.Sorting.{former}
use Rattle.protocol.specs.Network.{Network, site_at, site_stamps, place_of}
use Rattle.protocol.specs.Earliest.{no_later}
use Rattle.protocol.specs.Collect.{point_of}
use Rattle.network_layout.specs.InWords.{network_in}
use Rattle.network_layout.specs.At.{AtNetwork, AtSite, HasRecord, PlacesAre}

-- ---- the point
-- the sites from i on are left to look at; of those below it b is the first with the earliest timestamp
pub record EarliestSoFar (n : Network) (i b : ℕ) : Type 0 where
  pub low : b < i
  pub left : point_of n ≡ fold (former (no_later (place_of n.items))) (site_at n b).stamp (drop i (site_stamps n))

-- the site that has the point
pub record IsPoint (w : List ℕ) (i : ℕ) : Type 0 where
  pub site : AtSite w i
  pub is : (site_at (network_in w) i).stamp ≡ point_of (network_in w)

-- ---- the table
-- one more record named
pub record NamedNext (entry : List ℕ) (k before : ℕ) (goes : Bool) (exit : List ℕ) (kept : ℕ) : Type 0 where
  pub is : exit ≡ set entry k (cond goes records_most before)
  pub count : kept ≡ before + cond goes 0 1

-- ---- what is asked
-- the words of a network and the places of its sites
pub record Asked (w places : List ℕ) : Type 0 where
  pub net : AtNetwork w
  pub places_are : PlacesAre w places

-- two sites
pub record AtSites (w : List ℕ) (i j : ℕ) : Type 0 where
  pub first : AtSite w i
  pub second : AtSite w j

-- one more site, and the best of those below it
pub record LookingAt (w : List ℕ) (i b : ℕ) (places : List ℕ) : Type 0 where
  pub next : AtSite w i
  pub so_far : EarliestSoFar (network_in w) i b
  pub places_are : PlacesAre w places

-- a record and the site that has the point
pub record AtPoint (w : List ℕ) (k i : ℕ) (places : List ℕ) : Type 0 where
  pub there : HasRecord w k
  pub point : IsPoint w i
  pub places_are : PlacesAre w places

-- a record's number, and how many of those before it stay
pub record Naming (k kept : ℕ) : Type 0 where
  pub few : k < records_most
  pub low : kept ≤ k
