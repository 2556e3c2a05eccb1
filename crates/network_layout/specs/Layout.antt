-- The layout of a state in words: its head, the placement, the sites, the lines, the history, the base.
use Rattle.std.specs.Prelude.{List, ℕ, ◌+◌, ◌*◌, get_or}
use Rattle.protocol.specs.Network.{lines_most}
use Rattle.site.specs.InWords.{site_size}
use Rattle.placement.specs.InWords.{item_size}
use Rattle.limits.specs.Limits.{items_most, sites_most, records_most}
use Rattle.lines.specs.InWords.{line_size}
use Rattle.records.specs.InWords.{record_size}

-- the head: how many sites, how many items, how many records
abbrev pub site_count : List ℕ → ℕ
site_count w = get_or w 0 0

abbrev pub item_count : List ℕ → ℕ
item_count w = get_or w 1 0

abbrev pub record_count : List ℕ → ℕ
record_count w = get_or w 2 0

abbrev pub head_size : ℕ
head_size = 3

abbrev pub items_at : ℕ
items_at = head_size

abbrev pub items_size : ℕ
items_size = items_most * item_size

abbrev pub sites_at : ℕ
sites_at = items_at + items_size

abbrev pub sites_size : ℕ
sites_size = sites_most * site_size

abbrev pub lines_at : ℕ
lines_at = sites_at + sites_size

abbrev pub lines_size : ℕ
lines_size = lines_most * line_size

abbrev pub history_at : ℕ
history_at = lines_at + lines_size

abbrev pub history_size : ℕ
history_size = records_most * record_size

abbrev pub base_at : ℕ
base_at = history_at + history_size

-- whether commits have been removed, and a value for each item
abbrev pub base_size : ℕ
base_size = 1 + items_most

abbrev pub state_size : ℕ
state_size = base_at + base_size
