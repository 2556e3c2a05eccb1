-- The statements on history files: what is written reads back to the same history, each accepted file is the only one for its history, its
-- tuples name sites of its group, and files without a table of places and without base values are what they were before there were any.
use Rattle.std.specs.Prelude.{◌≡◌, Bool, true, false, not, ◌&&◌, ◌||◌, List, [], ◌∷◌, ◌++◌, ℕ, ◌+◌, ◌-◌, ◌≤◌, ◌<◌, pos, length, take, replicate, ltb, leb}
use Rattle.words.specs.Words.{part}
use Rattle.limits.specs.Limits.{sites_most, items_most, records_most}
use Rattle.lists.specs.Lists.{every, up_to}
use Rattle.lists.specs.Numbers.{first_number, number_if, outside}
use Rattle.timestamp_order.specs.Timestamp.{Pair}
use Rattle.timestamp_order.specs.Order.{by_number}
use Rattle.placement.specs.Placement.{is_line}
use Rattle.records.specs.Records.{Record}
use Rattle.protocol.specs.Network.{Network}
use Rattle.network_layout.specs.Layout.{state_size}
use Rattle.network_layout.specs.InWords.{network_in, meaning}
use Rattle.history_file.specs.Bytes.{is_byte, all_zero}
use Rattle.history_file.specs.File.{History, history_of, is_numbers, trailer, trailer_size, body, file_of}
use Rattle.history_file.specs.Reading.{within, records_read, records_fill, trailer_at, marked, count_read, distance_read, sites_read, items_read, flag_read, start_read, file_number, history_read, file_read, part_read}
use Rattle.history_file.specs.Promises.{export_of}

-- every number is one of 32 bits; of 8
abbrev pub AreWords : List ℕ → Type 0
AreWords w = every (λ x. ltb x 4294967296) w ≡ true

abbrev pub AreBytes : List ℕ → Type 0
AreBytes b = every is_byte b ≡ true

-- what an export of a state wrote into a buffer b, alone or behind any bytes, is accepted and reads back to the history of the state
unfoldable pub ReadsBack : Type 0
ReadsBack =
    (w b : List ℕ) → AreWords w → length w ≡ state_size → (export_of (meaning w) b).number ≡ 0 → (before : List ℕ)
    → (file_number (before ++ take (export_of (meaning w) b).size (export_of (meaning w) b).buffer) ≡ 0)
    × (history_read (before ++ take (export_of (meaning w) b).size (export_of (meaning w) b).buffer) ≡ history_of (network_in w))

-- accepted files with the same history are the same bytes, from the file's start to the end
unfoldable pub OnlyFile : Type 0
OnlyFile = (a b : List ℕ) → AreBytes a → AreBytes b → file_number a ≡ 0 → file_number b ≡ 0 → history_read a ≡ history_read b → file_read a ≡ file_read b

-- every tuple of every record of an accepted file names a site of the file's group
unfoldable pub TuplesInside : Type 0
TuplesInside =
    (b : List ℕ) → file_number b ≡ 0
    → every (λ (r : Record). every (λ (p : Pair). ltb p.site (sites_read b)) r.stamp.tuples) (history_read b).records ≡ true

-- ---- before there were places and collects: both bytes behind the items were 00, nothing led the records, a site's number was its place, and
-- no record was ever removed
abbrev pub part_before : List ℕ → List ℕ
part_before b = part b (start_read b) (distance_read b - trailer_size)

unfoldable pub valid_before : List ℕ → Bool
valid_before b =
    (within 1 sites_most (sites_read b) && (within 1 items_most (items_read b) && all_zero (part b (trailer_at b + 14) 2)))
    && (leb (count_read b) records_most && records_fill by_number (sites_read b) (items_read b) (count_read b) (part_before b))

unfoldable pub number_before : List ℕ → ℕ
number_before b =
    first_number
    (number_if (ltb (length b) trailer_size || not (marked b)) 21
    ∷ number_if (outside trailer_size (length b) (distance_read b)) 22
    ∷ number_if (not (valid_before b)) 23
    ∷ [])

-- bytes whose flag byte is 00 are accepted or refused as before, with the same part and the same records; each site's place is its number, no
-- record was removed, and every base value is 0
unfoldable pub OldFiles : Type 0
OldFiles =
    (b : List ℕ) → flag_read b ≡ 0
    → (file_number b ≡ number_before b)
    × (file_number b ≡ 0
    → history_read b
    ≡ record {
      sites = sites_read b;
      items = items_read b;
      places = up_to 0 (sites_read b);
      folded = false;
      base = replicate (items_read b) (pos 0);
      records = records_read (count_read b) (part_before b);
    })
    × (file_number b ≡ 0 → part_read b ≡ part_before b)

-- and a history in which each site's place is its number and no record was removed is written as before
unfoldable pub OldHistories : Type 0
OldHistories =
    (h : History) → is_numbers h.places ≡ true → h.folded ≡ false
    → file_of h ≡ body h ++ trailer (length h.records) (length (body h) + trailer_size) h.sites h.items 0

-- and so is the history of a network whose lines all go to a higher number and of which no record was removed
unfoldable pub OldNetworks : Type 0
OldNetworks =
    (n : Network) → length n.sites ≤ sites_most → ((p c : ℕ) → p < sites_most → c < sites_most → is_line n.items p c ≡ true → p < c)
    → n.base.folded ≡ false
    → file_of (history_of n)
    ≡ body (history_of n) ++ trailer (length n.history) (length (body (history_of n)) + trailer_size) (length n.sites) (length n.items) 0
