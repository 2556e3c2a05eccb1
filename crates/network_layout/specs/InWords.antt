-- The network that a state's words stand for, or nothing where they are not well shaped.
use Rattle.std.specs.Prelude.{◌≡◌, Bool, true, not, cond, ◌&&◌, List, map, ℕ, get_or, eqb, leb}
use Rattle.std.proofs.Math.Option.{Option, none, some}
use Rattle.words.specs.Words.{part, chunks}
use Rattle.lists.specs.Lists.{every}
use Rattle.site.specs.Site.{Site}
use Rattle.site.specs.InWords.{site_in, site_range, site_size}
use Rattle.site_operations.specs.InWords.{table_in}
use Rattle.placement.specs.InWords.{items_in}
use Rattle.limits.specs.Limits.{sites_most, items_most, records_most}
use Rattle.lines.specs.Lines.{Line, no_line}
use Rattle.messages.specs.Messages.{Message}
use Rattle.lines.specs.InWords.{line_in, line_range, line_size}
use Rattle.records.specs.Records.{Record}
use Rattle.records.specs.InWords.{record_in, record_range, record_size}
use Rattle.network_layout.specs.Layout.{site_count, item_count, record_count, items_at, items_size, sites_at, sites_size, lines_at, lines_size, history_at, history_size, base_at, base_size}
use Rattle.protocol.specs.Network.{lines_most, Network, Base, site_at, with_site, with_line, with_lines, with_record, well_shaped}
use Rattle.protocol.specs.Steps.{sent_to}

-- ---- the words of each site, each line and each record held
abbrev pub site_words : List ℕ → List (List ℕ)
site_words w = chunks site_size (site_count w) (part w sites_at sites_size)

abbrev pub line_words : List ℕ → List (List ℕ)
line_words w = chunks line_size lines_most (part w lines_at lines_size)

abbrev pub record_words : List ℕ → List (List ℕ)
record_words w = chunks record_size (record_count w) (part w history_at history_size)

-- the base of so many items: its first word is 0 where no commit has been removed, then a value for each item; what stands past them means nothing
abbrev pub base_in : ℕ → List ℕ → Base
base_in items w = record { values = table_in (part w 1 items); folded = not (eqb (get_or w 0 0) 0) }

unfoldable pub network_in : List ℕ → Network
network_in w =
    record {
      sites = map site_in (site_words w);
      items = items_in (item_count w) (part w items_at items_size);
      lines = map line_in (line_words w);
      history = map record_in (record_words w);
      base = base_in (item_count w) (part w base_at base_size);
    }

-- every number of things is in range: sites, items, records, and in each of them what it holds
unfoldable pub in_range : List ℕ → Bool
in_range w =
    leb 1 (site_count w)
    && (leb (site_count w) sites_most
    && (leb 1 (item_count w)
    && (leb (item_count w) items_most
    && (leb (record_count w) records_most
    && (every site_range (site_words w)
    && (every line_range (line_words w)
    && every record_range (record_words w)))))))

unfoldable pub shaped : List ℕ → Bool
shaped w = in_range w && well_shaped (network_in w)

unfoldable pub meaning : List ℕ → Option Network
meaning w = cond (shaped w) (some (network_in w)) none

-- the number of a step on words: 6 where they are not well shaped, else that of the step on the network
unfoldable pub number_in : List ℕ → (Network → ℕ) → ℕ
number_in w number = cond (shaped w) (number (network_in w)) 6

-- ---- a network with another history, with another base
abbrev pub with_history : Network → List Record → Network
with_history n rs = record { sites = n.sites; items = n.items; lines = n.lines; history = rs; base = n.base }

abbrev pub with_base : Network → Base → Network
with_base n b = record { sites = n.sites; items = n.items; lines = n.lines; history = n.history; base = b }

-- ---- what the code's own steps leave of a state in range
pub record SiteStep (entry exit : List ℕ) (i : ℕ) (step : Site → Site) : Type 0 where
  pub meant : network_in exit ≡ with_site (network_in entry) i (step (site_at (network_in entry) i))
  pub ranged : in_range exit ≡ true

pub record LineStep (entry exit : List ℕ) (k : ℕ) (step : Line → Line) : Type 0 where
  pub meant : network_in exit ≡ with_line (network_in entry) k (step (get_or (network_in entry).lines k no_line))
  pub ranged : in_range exit ≡ true

pub record RecordStep (entry exit : List ℕ) (r : Record) : Type 0 where
  pub meant : network_in exit ≡ with_record (network_in entry) r
  pub ranged : in_range exit ≡ true

pub record SentStep (entry exit : List ℕ) (gets : ℕ → Bool) (i : ℕ) (m : Message) (k : ℕ) : Type 0 where
  pub meant : network_in exit ≡ with_lines (network_in entry) (sent_to gets i m k (network_in entry).lines)
  pub ranged : in_range exit ≡ true
