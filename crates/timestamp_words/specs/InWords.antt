-- A timestamp in words: its epoch, how many tuples it has, and eight places of site and count.
use Rattle.std.specs.Prelude.{Bool, ◌&&◌, List, [], ◌∷◌, ℕ, zero, suc, ◌+◌, ◌*◌, length, take, get_or, leb}
use Rattle.timestamp_order.specs.Timestamp.{Pair, Stamp, no_pair, room}
use Rattle.timestamp_order.specs.Made.{made_by}

-- where the tuples start, the words of one, and where tuple i starts
abbrev pub pairs_start : ℕ
pairs_start = 2

abbrev pub pair_size : ℕ
pair_size = 2

abbrev pub pair_place : ℕ → ℕ
pair_place i = pairs_start + i * pair_size

abbrev pub stamp_size : ℕ
stamp_size = pair_place room

-- ---- read
-- the tuple whose words start at a place
abbrev pub pair_at : List ℕ → ℕ → Pair
pair_at w at = record { site = get_or w at 0; count = get_or w (at + 1) 0 }

-- n tuples, one after another from a place on
abbrev pub pairs_at : List ℕ → ℕ → ℕ → List Pair
pairs_at w at zero = []
pairs_at w at (suc n) = pair_at w at ∷ pairs_at w (at + pair_size) n

-- what place i of a timestamp's words has, nothing past the eighth
abbrev pub tuple_in : List ℕ → ℕ → Pair
tuple_in w i = get_or (pairs_at w pairs_start room) i no_pair

unfoldable pub stamp_in : List ℕ → Stamp
stamp_in w = record { epoch = get_or w 0 0; tuples = take (get_or w 1 0) (pairs_at w pairs_start room) }

-- they say no more tuples than there are places
abbrev pub stamp_range : List ℕ → Bool
stamp_range w = leb (get_or w 1 0) room

-- they are those of a timestamp that site j made: at most eight tuples, as many as they say
unfoldable pub stamp_shaped : (ℕ → ℕ) → ℕ → List ℕ → Bool
stamp_shaped place j w = stamp_range w && made_by place j (stamp_in w)

-- ---- written
-- the words of n tuples from number i on, zeros where there is none
abbrev pub words_from : List Pair → ℕ → ℕ → List ℕ
words_from ps i zero = []
words_from ps i (suc n) = (get_or ps i no_pair).site ∷ ((get_or ps i no_pair).count ∷ words_from ps (suc i) n)

unfoldable pub stamp_words : Stamp → List ℕ
stamp_words s = s.epoch ∷ (length s.tuples ∷ words_from s.tuples 0 room)
