-- A new network in words, and what is asked where they are laid down.
use Rattle.std.specs.Prelude.{◌≡◌, true, List, [], map, ℕ, ◌+◌, ◌≤◌, ◌<◌, length, replicate}
use Rattle.words.specs.Words.{chunks}
use Rattle.lists.specs.Lists.{every}
use Rattle.limits.specs.Limits.{sites_most, items_most}
use Rattle.site.specs.InWords.{site_in, site_range, site_size}
use Rattle.placement.specs.Placement.{Item}
use Rattle.lines.specs.Lines.{no_line}
use Rattle.protocol.specs.Network.{lines_most, Network, start_base}
use Rattle.protocol.specs.Steps.{start_sites}
use Rattle.network_layout.specs.Layout.{state_size, items_size, sites_size}
use Rattle.network_layout.specs.InWords.{network_in, in_range}

-- so many sites at their start, these items, nothing on the lines, nothing recorded and no base value but 0
abbrev pub new_network : ℕ → List Item → Network
new_network sites xs = record { sites = start_sites 0 sites; items = xs; lines = replicate lines_most no_line; history = []; base = start_base (length xs) }

-- its words
pub record Begun (w : List ℕ) (sites : ℕ) (xs : List Item) : Type 0 where
  pub meant : network_in w ≡ new_network sites xs
  pub ranged : in_range w ≡ true

-- the first n sites of the sites' words are at their start
pub record Started (w : List ℕ) (n : ℕ) : Type 0 where
  pub are : map site_in (chunks site_size n w) ≡ start_sites 0 n
  pub ranged : every site_range (chunks site_size n w) ≡ true

-- ---- what is asked
-- a state and the items' words, and counts in range
pub record LayingOut (w placed : List ℕ) (sites items : ℕ) : Type 0 where
  pub sized : length w ≡ state_size
  pub placed_sized : length placed ≡ items_size
  pub some_sites : 1 ≤ sites
  pub few_sites : sites ≤ sites_most
  pub some_items : 1 ≤ items
  pub few_items : items ≤ items_most

-- a state whose sites' words start at a place, for n of them
pub record StartingAt (w : List ℕ) (at n : ℕ) : Type 0 where
  pub inside : at + sites_size ≤ length w
  pub few : n ≤ sites_most

-- the sites' words, for n of them
pub record Starting (w : List ℕ) (n : ℕ) : Type 0 where
  pub sized : length w ≡ sites_size
  pub few : n ≤ sites_most

-- the same with i of them started, and room for one more
pub record StartingNext (w : List ℕ) (i : ℕ) : Type 0 where
  pub sized : length w ≡ sites_size
  pub room : i < sites_most
  pub so_far : Started w i
