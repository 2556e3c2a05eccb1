-- The history file: the bytes that a history is written as.
use Rattle.std.specs.Prelude.{Bool, cond, List, [], ◌∷◌, ◌++◌, map, ℕ, ◌+◌, ℤ, length, take}
use Rattle.std.proofs.Common.{of_z}
use Rattle.std.specs.Int.{w32}
use Rattle.lists.specs.Lists.{up_to}
use Rattle.timestamp_order.specs.Timestamp.{Pair}
use Rattle.placement.specs.Places.{places_of}
use Rattle.site_operations.specs.Operations.{Op}
use Rattle.records.specs.Records.{Record}
use Rattle.protocol.specs.Network.{Network}
use Rattle.history_file.specs.Bytes.{byte, little, value_bytes, unit, joined, same}

-- a history: its records in order, with the numbers of sites and items, the place of each site, whether a collect has removed a record since
-- set-up, and the base value of each item
pub record History : Type 0 where
  pub sites : ℕ
  pub items : ℕ
  pub places : List ℕ
  pub folded : Bool
  pub base : List ℤ
  pub records : List Record

abbrev pub history_of : Network → History
history_of n =
    record {
      sites = length n.sites;
      items = length n.items;
      places = take (length n.sites) (places_of n.items);
      folded = n.base.folded;
      base = n.base.values;
      records = n.history;
    }

-- per tuple: site, three 00, count
abbrev pub pair_bytes : Pair → List ℕ
pair_bytes p = unit p.site 0 0 p.count

-- per operation: kind, item, two 00, value in two's complement
abbrev pub op_bytes : Op → List ℕ
op_bytes o = unit o.kind o.item 0 (of_z w32 o.value)

-- a record: site, tuple count, operation count, 00, epoch; its tuples; its operations
unfoldable pub record_bytes : Record → List ℕ
record_bytes r =
    unit r.site (length r.stamp.tuples) (length r.ops) r.stamp.epoch
    ++ (joined pair_bytes r.stamp.tuples ++ joined op_bytes r.ops)

-- ---- in front of the records: the table of places, and the base values behind it
-- each site's place is its number
abbrev pub is_numbers : List ℕ → Bool
is_numbers ps = same ps (up_to 0 (length ps))

-- where places and numbers differ, byte k is the place of site k
abbrev pub table_lead : History → List ℕ
table_lead h = cond (is_numbers h.places) [] (map byte h.places)

-- where a collect has removed a record, four bytes for each item
abbrev pub base_lead : History → List ℕ
base_lead h = cond h.folded (joined value_bytes h.base) []

unfoldable pub lead : History → List ℕ
lead h = table_lead h ++ base_lead h

-- the flags: weight 1 says that the table is there, weight 2 that the base values are
abbrev pub table_flag : History → ℕ
table_flag h = cond (is_numbers h.places) 0 1

abbrev pub base_flag : History → ℕ
base_flag h = cond h.folded 2 0

unfoldable pub flag : History → ℕ
flag h = table_flag h + base_flag h

-- ---- the trailer: the mark, record count, distance from the end back to the file's start, sites, items, flags, 00
abbrev pub mark : List ℕ
mark = 0x53 ∷ (0x45 ∷ (0x41 ∷ (0x54 ∷ [])))

abbrev pub trailer_size : ℕ
trailer_size = 16

unfoldable pub trailer : ℕ → ℕ → ℕ → ℕ → ℕ → List ℕ
trailer count distance sites items flag = mark ++ (little count ++ (little distance ++ (byte sites ∷ (byte items ∷ (byte flag ∷ (0 ∷ []))))))

abbrev pub body : History → List ℕ
body h = joined record_bytes h.records

unfoldable pub file_of : History → List ℕ
file_of h =
    lead h ++ (body h ++ trailer (length h.records) (length (lead h) + (length (body h) + trailer_size)) h.sites h.items (flag h))
