-- What is read of a network by number: the values of a table, and the counts of a line.
use Rattle.std.specs.Prelude.{◌≡◌, List, ℕ, ◌≤◌, ℤ, pos, length, get_or, take}
use Rattle.limits.specs.Limits.{items_most, held_most}
use Rattle.lists.specs.Lists.{padded}
use Rattle.lines.specs.Lines.{no_line}
use Rattle.protocol.specs.Network.{Network, site_at}
use Rattle.network_layout.specs.declared.Lined.{Lined}
use Rattle.network_layout.specs.declared.Tabled.{Tabled}

-- ---- a table: a value for each item
abbrev pub table_of : ℕ → Network → List ℤ
table_of i n = take (length n.items) (site_at n i).table

pub record TableAt (vs : List ℤ) (r : Tabled) : Type 0 where
  pub count_is : r.count ≡ length vs
  pub values_are : r.values ≡ padded items_most (pos 0) vs

-- so many words of values are there, and places for them
pub record Values (w : List ℕ) (n : ℕ) : Type 0 where
  pub there : n ≤ length w
  pub few : n ≤ items_most

-- ---- a line: how many messages it holds, and how many of them have arrived
pub record LineAt (n : Network) (k : ℕ) (r : Lined) : Type 0 where
  pub held_is : r.held ≡ length (get_or n.lines k no_line).messages
  pub arrived_is : r.arrived ≡ (get_or n.lines k no_line).arrived
  pub few : r.held ≤ held_most
