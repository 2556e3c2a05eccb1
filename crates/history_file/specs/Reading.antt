-- What a list of bytes means: whether it ends with a history file, and the history in it.
use Rattle.std.specs.Prelude.{Bool, false, not, cond, ◌&&◌, ◌||◌, List, [], ◌∷◌, map, ℕ, zero, suc, ◌+◌, ◌*◌, ◌-◌, ◌/◌, ◌%◌, ℤ, pos, length, get_or, drop, replicate, eqb, ltb, leb}
use Rattle.std.proofs.Common.{to_z}
use Rattle.std.specs.Int.{w32}
use Rattle.words.specs.Words.{part, chunks}
use Rattle.lists.specs.Lists.{every, is_empty, up_to, occurrences}
use Rattle.timestamp_order.specs.Timestamp.{Pair, room}
use Rattle.timestamp_order.specs.Order.{rank}
use Rattle.site_operations.specs.Operations.{Op}
use Rattle.limits.specs.Limits.{ops_most, sites_most, items_most, records_most}
use Rattle.lists.specs.Numbers.{first_number, number_if, outside}
use Rattle.records.specs.Records.{Record, record_fits}
use Rattle.history_file.specs.Bytes.{value_size, unit_size, number_at, value_read, padded, same}
use Rattle.history_file.specs.File.{History, is_numbers, mark, trailer_size}

-- ---- a record at the front of some bytes
abbrev pub pair_read : List ℕ → Pair
pair_read u = record { site = get_or u 0 0; count = number_at u 4 }

abbrev pub op_read : List ℕ → Op
op_read u = record { kind = get_or u 0 0; item = get_or u 1 0; value = to_z w32 (number_at u 4) }

-- how many tuples and operations it says
abbrev pub tuple_count : List ℕ → ℕ
tuple_count b = get_or b 1 0

abbrev pub op_count : List ℕ → ℕ
op_count b = get_or b 2 0

-- eight bytes for each tuple and each operation
abbrev pub tuple_units : List ℕ → List (List ℕ)
tuple_units b = chunks unit_size (tuple_count b) (drop unit_size b)

abbrev pub ops_from : List ℕ → ℕ
ops_from b = unit_size + unit_size * tuple_count b

abbrev pub op_units : List ℕ → List (List ℕ)
op_units b = chunks unit_size (op_count b) (drop (ops_from b) b)

unfoldable pub record_read : List ℕ → Record
record_read b =
    record {
      site = get_or b 0 0;
      stamp = record { epoch = number_at b 4; tuples = map pair_read (tuple_units b) };
      ops = map op_read (op_units b);
    }

unfoldable pub size_read : List ℕ → ℕ
size_read b = ops_from b + unit_size * op_count b

abbrev pub within : ℕ → ℕ → ℕ → Bool
within low high k = leb low k && leb k high

-- 1 to 8 tuples and 1 to 8 operations
abbrev pub counts_fit : ℕ → ℕ → Bool
counts_fit tuples ops = within 1 room tuples && within 1 ops_most ops

-- every 00 byte is zero: one of the head, three of each tuple, two of each operation
abbrev pub pads_zero : List ℕ → Bool
pads_zero b = eqb (get_or b 3 0) 0 && (every (padded 1) (tuple_units b) && every (padded 2) (op_units b))

-- the bytes start with a whole record, every field of it in range, of a group of that many sites and items, each site at its `place`
unfoldable pub record_valid : (ℕ → ℕ) → ℕ → ℕ → List ℕ → Bool
record_valid place sites items b =
    leb (size_read b) (length b) && (counts_fit (tuple_count b) (op_count b) && (pads_zero b && record_fits place sites items (record_read b)))

-- ---- n records, one after another
unfoldable pub records_read : ℕ → List ℕ → List Record
records_read zero b = []
records_read (suc n) b = record_read b ∷ records_read n (drop (size_read b) b)

-- they fill the bytes exactly
unfoldable pub records_fill : (ℕ → ℕ) → ℕ → ℕ → ℕ → List ℕ → Bool
records_fill place sites items zero b = is_empty b
records_fill place sites items (suc n) b = record_valid place sites items b && records_fill place sites items n (drop (size_read b) b)

-- where record k starts
unfoldable pub start_of : ℕ → List ℕ → ℕ
start_of zero b = 0
start_of (suc k) b = size_read b + start_of k (drop (size_read b) b)

-- ---- the trailer, the last 16 bytes
abbrev pub trailer_at : List ℕ → ℕ
trailer_at b = length b - trailer_size

abbrev pub marked : List ℕ → Bool
marked b = same (part b (trailer_at b) 4) mark

abbrev pub count_read : List ℕ → ℕ
count_read b = number_at b (trailer_at b + 4)

abbrev pub distance_read : List ℕ → ℕ
distance_read b = number_at b (trailer_at b + 8)

abbrev pub sites_read : List ℕ → ℕ
sites_read b = get_or b (trailer_at b + 12) 0

abbrev pub items_read : List ℕ → ℕ
items_read b = get_or b (trailer_at b + 13) 0

abbrev pub flag_read : List ℕ → ℕ
flag_read b = get_or b (trailer_at b + 14) 0

-- the flag of weight 1: a table of places leads the file
abbrev pub has_table : List ℕ → Bool
has_table b = eqb (flag_read b % 2) 1

-- the flag of weight 2: the base values stand after the table
abbrev pub has_base : List ℕ → Bool
has_base b = eqb (flag_read b / 2 % 2) 1

-- ---- the file that ends the bytes
-- where it starts, found by the distance
abbrev pub start_read : List ℕ → ℕ
start_read b = length b - distance_read b

-- how many bytes lead the records: a table, and base values
abbrev pub table_size : List ℕ → ℕ
table_size b = cond (has_table b) (sites_read b) 0

abbrev pub base_size : List ℕ → ℕ
base_size b = cond (has_base b) (items_read b * value_size) 0

abbrev pub lead_size : List ℕ → ℕ
lead_size b = table_size b + base_size b

-- the place of each site: its number where there is no table
unfoldable pub places_read : List ℕ → List ℕ
places_read b = cond (has_table b) (part b (start_read b) (sites_read b)) (up_to 0 (sites_read b))

-- the base value of each item: 0 where no base values are there
unfoldable pub base_read : List ℕ → List ℤ
base_read b =
    cond (has_base b) (map value_read (chunks value_size (items_read b) (part b (start_read b + table_size b) (base_size b)))) (replicate (items_read b) (pos 0))

-- the part from the first record to the trailer
unfoldable pub part_read : List ℕ → List ℕ
part_read b = part b (start_read b + lead_size b) (distance_read b - (lead_size b + trailer_size))

-- the bytes from the file's start to the end
unfoldable pub file_read : List ℕ → List ℕ
file_read b = drop (start_read b) b

-- the trailer's sites and items in range, no flag but those of weight 1 and 2, its last byte zero
abbrev pub trailer_fits : List ℕ → Bool
trailer_fits b =
    within 1 sites_most (sites_read b)
    && (within 1 items_most (items_read b) && (leb (flag_read b) 3 && eqb (get_or b (trailer_at b + 15) 0) 0))

-- every place from 0 on stands in it, once
unfoldable pub holds_each : List ℕ → Bool
holds_each ps = every (λ k. eqb (occurrences k ps) 1) (up_to 0 (length ps))

-- where there is a table, it holds each place once and is not the numbers
unfoldable pub table_fits : List ℕ → Bool
table_fits b = not (has_table b) || (holds_each (places_read b) && not (is_numbers (places_read b)))

-- the trailer and the table fit, and at most 256 records fill the part
unfoldable pub valid : List ℕ → Bool
valid b =
    trailer_fits b
    && (leb (lead_size b + trailer_size) (distance_read b)
    && (table_fits b
    && (leb (count_read b) records_most && records_fill (rank (places_read b)) (sites_read b) (items_read b) (count_read b) (part_read b))))

-- the number for which the bytes are refused, or 0
unfoldable pub file_number : List ℕ → ℕ
file_number b =
    first_number
    (number_if (ltb (length b) trailer_size || not (marked b)) 21
    ∷ number_if (outside trailer_size (length b) (distance_read b)) 22
    ∷ number_if (not (valid b)) 23
    ∷ [])

abbrev pub no_history : History
no_history = record { sites = 0; items = 0; places = []; folded = false; base = []; records = [] }

-- the history in the bytes, and nothing where they are refused
unfoldable pub history_read : List ℕ → History
history_read b =
    cond (eqb (file_number b) 0)
    (record {
      sites = sites_read b;
      items = items_read b;
      places = places_read b;
      folded = has_base b;
      base = base_read b;
      records = records_read (count_read b) (part_read b);
    })
    no_history
