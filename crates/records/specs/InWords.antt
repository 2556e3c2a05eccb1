-- A record in words: its site, how many operations it has, its timestamp, eight codes as the bytes of two words, and eight values.
use Rattle.std.specs.Prelude.{◌≡◌, Bool, true, ◌&&◌, List, map, ℕ, ◌+◌, ◌≤◌, min, length, get_or, take, leb, ltb}
use Rattle.lists.specs.Lists.{every}
use Rattle.words.specs.Words.{part}
use Rattle.timestamp_order.specs.Timestamp.{Stamp}
use Rattle.timestamp_words.specs.InWords.{stamp_in, stamp_size, stamp_range}
use Rattle.site_operations.specs.InWords.{ops_in, ops_size}
use Rattle.limits.specs.Limits.{ops_most}
use Rattle.record_codes.specs.Codes.{stamp_at, values_at, codes_most, codes_in, places_in, coded}
use Rattle.records.specs.Records.{Record}

-- its site, the number of its operations, its timestamp, their codes and their values
abbrev pub record_size : ℕ
record_size = values_at + ops_most

abbrev pub count_in : List ℕ → ℕ
count_in w = min (get_or w 1 0) ops_most

unfoldable pub record_in : List ℕ → Record
record_in w = record { site = get_or w 0 0; stamp = stamp_in (part w stamp_at stamp_size); ops = take (count_in w) (places_in w) }

-- it says 1 to 8 operations, at most eight tuples, and codes of one of 64 items
unfoldable pub record_range : List ℕ → Bool
record_range w = leb 1 (get_or w 1 0) && (leb (get_or w 1 0) ops_most && (stamp_range (part w stamp_at stamp_size) && every (λ c. ltb c codes_most) (take (count_in w) (codes_in w))))

-- what writing a record leaves: words of another size as they were, and so where the operations' words are of another size
pub record Written (entry exit : List ℕ) (site count : ℕ) (stamp : Stamp) (ops : List ℕ) : Type 0 where
  pub meant : length entry ≡ record_size → length ops ≡ ops_size → record_in exit ≡ record { site = site; stamp = stamp; ops = map coded (ops_in (min count ops_most) ops) }
  pub ranged : length entry ≡ record_size → length ops ≡ ops_size → 1 ≤ count → count ≤ ops_most → record_range exit ≡ true
  pub kept : (length entry ≡ record_size → length ops ≡ ops_size → ⊥) → exit ≡ entry
