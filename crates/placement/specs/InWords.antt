-- Placement in words, two for each item: its primary and its mask.
use Rattle.std.specs.Prelude.{List, map, ℕ, ◌*◌, get_or}
use Rattle.words.specs.Words.{part, chunks}
use Rattle.placement.specs.Placement.{Item}

abbrev pub item_size : ℕ
item_size = 2

abbrev pub item_in : List ℕ → Item
item_in w = record { primary = get_or w 0 0; mask = get_or w 1 0 }

-- item k of the words
abbrev pub item_words : List ℕ → ℕ → List ℕ
item_words w k = part w (k * item_size) item_size

abbrev pub item_at : List ℕ → ℕ → Item
item_at w k = item_in (item_words w k)

-- the first n items of the words
abbrev pub items_in : ℕ → List ℕ → List Item
items_in n w = map item_in (chunks item_size n w)
