-- `compare` writes both to words, which mean the same.
use mathlib.Core.Path.{◌≡◌, ap, ◌∙◌}
use mathlib.Core.List.{List}
use Prim.Native.Nat.{ℕ, ◌≤◌}
use lib.ListN.{length}
use Rattle.timestamp_order.specs.Timestamp.{Stamp, room}
use Rattle.timestamp_order.proofs.PartingLaws.{compares_as}
use Rattle.timestamp.specs.Value.{stamp_of}
use Rattle.timestamp_words.specs.InWords.{stamp_in, stamp_words}
use Rattle.timestamp_words.proofs.Words.{words_back}
use Rattle.timestamp_comparison.proofs.compare.Goals as goal

-- what was written, read
back : (w : List ℕ) (s : Stamp) → (w ≡ stamp_words s) × (length s.tuples ≤ room) → stamp_in w ≡ s
back w s told = ap stamp_in told.0 ∙ words_back s told.1

pub returns : goal.returns
returns c =
    let A = c.args in
    compares_as (back c.to_words-first.result (stamp_of A.a) c.to_words-first.ensures) (back c.to_words-second.result (stamp_of A.b) c.to_words-second.ensures) c.compare_words.ensures
