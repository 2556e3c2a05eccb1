-- What holds of a set-up or step that no cause refuses.
use Rattle.std.specs.Prelude.{◌≡◌, true, false, List, map, ℕ, ◌≤◌, ◌<◌, length}
use Rattle.limits.specs.Limits.{sites_most, items_most, ops_most, records_most}
use Rattle.lists.specs.Lists.{some_below}
use Rattle.lists.specs.Numbers.{first_number}
use Rattle.site_operations.specs.Operations.{Op}
use Rattle.placement.specs.Placement.{is_line, has_parents}
use Rattle.placement.specs.Places.{placement_number}
use Rattle.protocol.specs.Network.{Network, site_at, line_at}
use Rattle.protocol.specs.Steps.{items_of, op_number, due, some_line_full, count_at_most, lacks_arrived}

pub record SetUpAllowed (sites items : ℕ) (primaries masks : List ℕ) : Type 0 where
  pub some_sites : 1 ≤ sites
  pub few_sites : sites ≤ sites_most
  pub some_items : 1 ≤ items
  pub few_items : items ≤ items_most
  pub each_primary : length primaries ≡ items
  pub each_mask : length masks ≡ items
  pub placed : placement_number sites (items_of primaries masks) ≡ 0

-- the lists of a commit's fields
pub record ListsAllowed (kinds items values : ℕ) : Type 0 where
  pub some : 1 ≤ kinds
  pub few : kinds ≤ ops_most
  pub each_item : items ≡ kinds
  pub each_value : values ≡ kinds

pub record CommitAllowed (n : Network) (i : ℕ) (os : List Op) : Type 0 where
  pub there : i < length n.sites
  pub each_op : first_number (map (op_number n.items i) os) ≡ 0
  pub room : length n.history < records_most
  pub lines_free : some_line_full n i (due n.items os) ≡ false
  pub count_free : count_at_most n i ≡ false

pub record DummyAllowed (n : Network) (i : ℕ) : Type 0 where
  pub there : i < length n.sites
  pub lines_free : some_line_full n i (is_line n.items i) ≡ false
  pub count_free : count_at_most n i ≡ false

pub record EpochAllowed (n : Network) (i e : ℕ) : Type 0 where
  pub there : i < length n.sites
  pub orphan : has_parents n.items i ≡ false
  pub newer : (site_at n i).stamp.epoch < e

pub record DeliverAllowed (n : Network) (p c : ℕ) : Type 0 where
  pub parent : p < length n.sites
  pub child : c < length n.sites
  pub line : is_line n.items p c ≡ true
  pub on_way_lem : (line_at n p c).arrived < length (line_at n p c).messages

pub record ScheduleAllowed (n : Network) (j : ℕ) : Type 0 where
  pub there : j < length n.sites
  pub parents : has_parents n.items j ≡ true
  pub all_arrived_lem : some_below (lacks_arrived n j) sites_most ≡ false
