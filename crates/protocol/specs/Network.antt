-- A network: its sites, the placement of its items, its lines, its history and what collected commits left; and which networks are well shaped.
use Rattle.std.specs.Prelude.{Bool, false, ◌&&◌, ◌||◌, List, [], ◌∷◌, ◌++◌, map, ℕ, ◌+◌, ◌*◌, ◌/◌, ◌%◌, ℤ, pos, negsuc, length, get_or, set, replicate, eqb, ltb, leb}
use Rattle.lists.specs.Lists.{every, every_from, is_empty}
use Rattle.timestamp_order.specs.Timestamp.{Stamp}
pub use Rattle.timestamp_order.specs.Timestamp.{no_stamp}
use Rattle.timestamp_order.specs.Made.{made_by}
use Rattle.site_operations.specs.Operations.{Op}
use Rattle.site.specs.Site.{Site}
use Rattle.placement.specs.Placement.{Item, is_line}
unfoldable pub use Rattle.placement.specs.Places.{place_of}
use Rattle.placement.specs.Places.{placement_number}
use Rattle.limits.specs.Limits.{sites_most}
use Rattle.lines.specs.Lines.{Line, no_line}
use Rattle.messages.specs.Messages.{Message, commit, dummy}
use Rattle.records.specs.Records.{Record, record_fits}

-- what the commits that collects have removed since set-up left: a value for each item, and whether there are such commits
pub record Base : Type 0 where
  pub values : List ℤ
  pub folded : Bool

-- none removed: 0 for each of n items
abbrev pub start_base : ℕ → Base
start_base n = record { values = replicate n (pos 0); folded = false }

pub record Network : Type 0 where
  pub sites : List Site
  pub items : List Item
  pub lines : List Line
  pub history : List Record
  pub base : Base

-- what stands where there is nothing
abbrev pub no_site : Site
no_site = record { table = []; stamp = no_stamp }

abbrev pub no_record : Record
no_record = record { site = 0; stamp = no_stamp; ops = [] }

-- the record of a number, from 0 on in the order made
abbrev pub record_at : List Record → ℕ → Record
record_at h k = get_or h k no_record

abbrev pub nth_record : Network → ℕ → Record
nth_record n k = record_at n.history k

abbrev pub site_at : Network → ℕ → Site
site_at n i = get_or n.sites i no_site

abbrev pub site_stamps : Network → List Stamp
site_stamps n = map (λ (s : Site). s.stamp) n.sites

-- a line for each two sites, that from p to c at number 8 p + c
abbrev pub lines_most : ℕ
lines_most = sites_most * sites_most

-- the line from p to c
abbrev pub line_number : ℕ → ℕ → ℕ
line_number p c = p * sites_most + c

abbrev pub line_at : Network → ℕ → ℕ → Line
line_at n p c = get_or n.lines (line_number p c) no_line

-- ---- a network with another site, another line, a record more
abbrev pub with_site : Network → ℕ → Site → Network
with_site n i s = record { sites = set n.sites i s; items = n.items; lines = n.lines; history = n.history; base = n.base }

abbrev pub with_line : Network → ℕ → Line → Network
with_line n k l = record { sites = n.sites; items = n.items; lines = set n.lines k l; history = n.history; base = n.base }

abbrev pub with_lines : Network → List Line → Network
with_lines n ls = record { sites = n.sites; items = n.items; lines = ls; history = n.history; base = n.base }

abbrev pub with_record : Network → Record → Network
with_record n r = record { sites = n.sites; items = n.items; lines = n.lines; history = n.history ++ (r ∷ []); base = n.base }

-- ---- what a message carries
abbrev pub message_stamp : List Record → Message → Stamp
message_stamp h (commit k) = (record_at h k).stamp
message_stamp h (dummy t) = t

abbrev pub message_ops : List Record → Message → List Op
message_ops h (commit k) = (record_at h k).ops
message_ops h (dummy t) = []

-- ---- well shaped
-- a message on a line from p names a recorded commit of p, or is a dummy that p made
abbrev pub message_fits : (ℕ → ℕ) → List Record → ℕ → Message → Bool
message_fits place h p (commit k) = ltb k (length h) && eqb (record_at h k).site p
message_fits place h p (dummy t) = made_by place p t

-- the line of a number: arrived not above held, nothing held where the placement gives no line, and every message fits
unfoldable pub line_fits : List Item → List Record → ℕ → Line → Bool
line_fits xs h k l =
    leb l.arrived (length l.messages)
    && ((is_empty l.messages || is_line xs (k / sites_most) (k % sites_most)) && every (message_fits (place_of xs) h (k / sites_most)) l.messages)

abbrev pub is_zero : ℤ → Bool
is_zero (pos k) = eqb k 0
is_zero (negsuc k) = false

-- where no commit has been removed every base value is 0
abbrev pub base_fits : Base → Bool
base_fits b = b.folded || every is_zero b.values

-- the placement as set-up demands; every site's timestamp its own; every record, every line and the base values fitting
unfoldable pub well_shaped : Network → Bool
well_shaped n =
    let place = place_of n.items in
    eqb (placement_number (length n.sites) n.items) 0
    && (every_from (λ i s. made_by place i s.stamp) 0 n.sites
    && (every (record_fits place (length n.sites) (length n.items)) n.history
    && (every_from (line_fits n.items n.history) 0 n.lines
    && base_fits n.base)))
