-- What the test for shape asks of a state, thing by thing: of its words that they are in range, and of what they mean that it fits.
use Rattle.std.specs.Prelude.{◌≡◌, Bool, true, ◌&&◌, List, ℕ, ◌*◌, ◌≤◌, ◌<◌, length, eqb}
use Rattle.words.specs.Words.{part, chunks}
use Rattle.lists.specs.Lists.{every, every_from}
use Rattle.limits.specs.Limits.{sites_most, items_most, records_most}
use Rattle.timestamp_words.specs.InWords.{stamp_shaped}
use Rattle.placement.specs.Placement.{Item, items_number, LineBits}
use Rattle.placement.specs.Places.{places_of}
use Rattle.placement.specs.InWords.{items_in}
use Rattle.lines.specs.InWords.{line_in, line_size}
use Rattle.records.specs.Records.{Record, record_fits}
use Rattle.records.specs.InWords.{record_in, record_range, record_size}
use Rattle.protocol.specs.Network.{lines_most, base_fits}
use Rattle.network_layout.specs.Layout.{site_count, item_count, record_count, items_at, items_size, history_at, history_size, lines_size, base_at, base_size, state_size}
use Rattle.network_layout.specs.InWords.{site_words, line_words, record_words, base_in}
use Rattle.network_counts.specs.Counts.{counts_fit}
use Rattle.network_line_shape.specs.LineTests.{history_in, line_test, Places}

-- ---- one thing
abbrev pub record_test : (ℕ → ℕ) → ℕ → ℕ → List ℕ → Bool
record_test place sites items x = record_range x && record_fits place sites items (record_in x)

-- a line that holds nothing, and says that nothing has arrived: most lines are idle
abbrev pub idle : List ℕ → Bool
idle x = eqb (length (line_in x).messages) 0 && eqb (line_in x).arrived 0

-- the word of the value 0
abbrev pub is_zero_word : ℕ → Bool
is_zero_word v = eqb v 0

-- of the lines from number k on, those before number r are idle
pub record Skipped (w : List ℕ) (k r : ℕ) : Type 0 where
  pub from : k ≤ r
  pub few : r ≤ lines_most
  pub between : (i : ℕ) → k ≤ i → i < r → idle (part w (i * line_size) line_size) ≡ true

-- the test of all lines by their bits and the places of the sites: that of every placement that gives these
abbrev pub LinesTested : ℕ → List ℕ → List Record → List ℕ → Bool → Type 0
LinesTested given places h w r =
    (xs : List Item) → LineBits xs given → places ≡ places_of xs → r ≡ every_from (line_test xs h) 0 (chunks line_size lines_most w)

-- ---- all things of a state
abbrev pub placed_in : List ℕ → List Item
placed_in w = items_in (item_count w) (part w items_at items_size)

-- the counts, and each item by itself
unfoldable pub group_shaped : List ℕ → Bool
group_shaped w = counts_fit (site_count w) (item_count w) (record_count w) && eqb (items_number (site_count w) (placed_in w)) 0

-- by the places of the sites, which the items give
unfoldable pub sites_shaped : (ℕ → ℕ) → List ℕ → Bool
sites_shaped place w = every_from (stamp_shaped place) 0 (site_words w)

unfoldable pub history_shaped : (ℕ → ℕ) → List ℕ → Bool
history_shaped place w = every (record_test place (site_count w) (item_count w)) (record_words w)

unfoldable pub lines_shaped : List ℕ → Bool
lines_shaped w = every_from (line_test (placed_in w) (history_in (part w history_at history_size) (record_count w))) 0 (line_words w)

unfoldable pub base_shaped : List ℕ → Bool
base_shaped w = base_fits (base_in (item_count w) (part w base_at base_size))

abbrev pub ranked_shaped : (ℕ → ℕ) → List ℕ → Bool
ranked_shaped place w = sites_shaped place w && (history_shaped place w && (lines_shaped w && base_shaped w))

-- ---- what the functions ask
-- the counts of a state are not too large
pub record Counted (w : List ℕ) : Type 0 where
  pub sized : length w ≡ state_size
  pub few_sites : site_count w ≤ sites_most
  pub few_items : item_count w ≤ items_most
  pub few_records : record_count w ≤ records_most

-- and the placement gives these lines, and the sites these places
pub record Ranked (w : List ℕ) (given : ℕ) (places : List ℕ) : Type 0 where
  pub counted : Counted w
  pub given_are : LineBits (placed_in w) given
  pub places_are : places ≡ places_of (placed_in w)

-- all lines, beside the history that they are held against
pub record LinesAsked (w kept : List ℕ) (made : ℕ) : Type 0 where
  pub sized : length w ≡ lines_size
  pub history : Places kept record_size records_most made
