-- What a collect answers and leaves.
use Rattle.std.specs.Prelude.{◌≡◌, true, false, List, [], ℕ, length}
use Rattle.std.specs.declared.result.Result.{Result}
use Rattle.causes.specs.declared.Refusal.{Refusal}
use Rattle.causes.specs.Refusals.{number_of, answered}
use Rattle.lists.specs.Lists.{count_below}
use Rattle.protocol.specs.Network.{no_stamp}
use Rattle.protocol.specs.Collect.{is_past, collect_network, removed_by}
use Rattle.protocol.specs.Calls.{collect}
use Rattle.record_names.specs.Names.{Names}
use Rattle.network_layout.specs.InWords.{network_in, in_range, meaning}
use Rattle.network_layout.specs.At.{AtNetwork, PlacesAre}
use Rattle.network_layout.specs.Promises.{Performed}
use Rattle.network_renaming.specs.Renamed.{some_gone}

pub record CollectAnswered (entry exit : List ℕ) (r : Result ℕ Refusal) : Type 0 where
  pub performed : Performed collect entry exit (number_of r) 0 no_stamp []
  pub removed_is : answered 0 (λ removed. removed) r ≡ removed_by (meaning entry)

-- what is asked: the words of a network, the names by which the records not later than the point go, none of which a message names, and the places of the sites
pub record Collecting (w names places : List ℕ) : Type 0 where
  pub net : AtNetwork w
  pub names_are : Names (is_past (network_in w)) (length (network_in w).history) names
  pub none : some_gone names (network_in w) ≡ false
  pub places_are : PlacesAre w places

pub record CollectStep (entry exit : List ℕ) (removed : ℕ) : Type 0 where
  pub meant : network_in exit ≡ collect_network (network_in entry)
  pub ranged : in_range exit ≡ true
  pub count : removed ≡ count_below (is_past (network_in entry)) (length (network_in entry).history)
