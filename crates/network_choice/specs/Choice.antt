-- Which message a schedule takes: the best parent so far, and what the functions that look for it ask.
use Rattle.std.specs.Prelude.{◌≡◌, true, List, ℕ, ◌<◌}
use Rattle.timestamp.specs.declared.Timestamp.{Timestamp}
use Rattle.timestamp.specs.Value.{PlainValue}
use Rattle.limits.specs.Limits.{sites_most}
use Rattle.placement.specs.Placement.{is_line}
use Rattle.protocol.specs.Network.{Network}
use Rattle.protocol.specs.Steps.{schedule_number, head_stamp, earliest}
use Rattle.network_layout.specs.InWords.{network_in}
use Rattle.network_layout.specs.At.{AtNetwork, PlacesAre}
use Rattle.network_schedule_causes.specs.Parents.{parents_mask}

-- of the parents of j below k the earliest, and the timestamp of its oldest message
pub record Best (n : Network) (j k parent : ℕ) (stamp : Timestamp) : Type 0 where
  pub is : parent ≡ earliest n j k
  pub stamped : parent < sites_most → PlainValue (head_stamp n parent j) stamp

-- the same parent, before its timestamp is read: where it is a site it is a parent
pub record Leading (n : Network) (j k parent : ℕ) : Type 0 where
  pub is : parent ≡ earliest n j k
  pub line : parent < sites_most → is_line n.items parent j ≡ true

-- ---- what is asked: the words of a network, with
-- site j, whose schedule no cause refuses
pub record Choosing (w : List ℕ) (j : ℕ) : Type 0 where
  pub net : AtNetwork w
  pub none : schedule_number (network_in w) j ≡ 0

-- the same and a parent p
pub record ChoosingFrom (w : List ℕ) (p j : ℕ) : Type 0 where
  pub free : Choosing w j
  pub line : is_line (network_in w).items p j ≡ true

-- the same, a number p that may be a parent, the best parent below it, and the places of the sites
pub record Comparing (w : List ℕ) (mask p j parent : ℕ) (places : List ℕ) : Type 0 where
  pub free : Choosing w j
  pub few : p < sites_most
  pub parents : mask ≡ parents_mask (network_in w).items j
  pub best : Leading (network_in w) j p parent
  pub places_are : PlacesAre w places
