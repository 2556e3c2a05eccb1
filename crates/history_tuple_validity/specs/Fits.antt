-- What is asked of the bytes of tuples, with their 00 bytes.
use Rattle.std.specs.Prelude.{Bool, ◌&&◌, List, map, ℕ}
use Rattle.words.specs.Words.{chunks}
use Rattle.lists.specs.Lists.{every}
use Rattle.timestamp_order.specs.Made.{made_by}
use Rattle.history_file.specs.Bytes.{unit_size, padded}
use Rattle.history_file.specs.Reading.{pair_read}

-- n tuples are those of a timestamp that the site made, each site at its `place`
abbrev pub tuples_fit : (ℕ → ℕ) → ℕ → ℕ → List ℕ → Bool
tuples_fit place site n b = every (padded 1) (chunks unit_size n b) && made_by place site (record { epoch = 0; tuples = map pair_read (chunks unit_size n b) })
