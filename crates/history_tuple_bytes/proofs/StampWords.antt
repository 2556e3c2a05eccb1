-- The tuples of a timestamp's words, one by one.
use mathlib.Core.Path.{◌≡◌, sym, ap, ◌∙◌}
use mathlib.Core.List.{List}
use Prim.Native.Nat.{ℕ, ◌<◌}
use native.Mathlib.Omega.{arith}
use lib.ListN.{length, get_or}
use Rattle.timestamp_order.specs.Timestamp.{no_pair, room}
use Rattle.timestamp_words.specs.InWords.{pair_at, pairs_start, pair_place, stamp_in}
use Rattle.timestamp_words.proofs.Shaped.{size_law, tuple_law, pairs_at_lem}
use Rattle.history_file.specs.File.{pair_bytes}

-- the bytes of a tuple are those of its words
pub tuple_written : (w : List ℕ) (i : ℕ) → i < length (stamp_in w).tuples → pair_bytes (pair_at w (pair_place i)) ≡ pair_bytes (get_or (stamp_in w).tuples i no_pair)
tuple_written w i h = ap pair_bytes (sym (tuple_law w i h ∙ pairs_at_lem w pairs_start room i (omega (arith, size_law w))))
