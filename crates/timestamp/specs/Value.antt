-- What the values of the code mean: of eight places the first `len` are tuples, all eight where `len` is more.
use Rattle.std.specs.Prelude.{◌≡◌, map, take}
use Rattle.lists.specs.Lists.{Filled}
use Rattle.timestamp_order.specs.Timestamp.{Pair, Stamp, no_pair, room}
use Rattle.timestamp.specs.declared.Tuple.{Tuple}
use Rattle.timestamp.specs.declared.Timestamp.{Timestamp}

abbrev pub pair_of : Tuple → Pair
pair_of t = record { site = t.site; count = t.count.0 }

abbrev pub stamp_of : Timestamp → Stamp
stamp_of t = record { epoch = t.epoch.0; tuples = map pair_of (take t.len t.tuples) }

-- ---- plain: no more than eight said, and 0 at the places past the last tuple, so that equal timestamps are equal values
abbrev pub Plain : Timestamp → Type 0
Plain t = Filled no_pair room t.len (map pair_of t.tuples)

-- the plain value of a timestamp
pub record PlainValue (s : Stamp) (t : Timestamp) : Type 0 where
  pub means : stamp_of t ≡ s
  pub plain : Plain t
