-- Where the value of a read came from: after a write of its item in its own commit that commit, else the last commit before it in timestamp order that writes the item.
use Rattle.std.specs.Prelude.{Bool, cond, List, ℕ, take, eqb}
use Rattle.std.proofs.Math.Option.{Option, some, map}
use Rattle.lists.specs.Lists.{before_first, last_of}
use Rattle.site_operations.specs.Operations.{Op, touches}
use Rattle.records.specs.Records.{Record}
use Rattle.protocol.specs.Network.{Network, nth_record, place_of}
use Rattle.protocol.specs.Run.{Turn, in_turn}
use Rattle.protocol.specs.Questions.{nth_op}

-- the commits before commit k in timestamp order: equal timestamps stand in the order made, as in the run
abbrev pub turns_before : (ℕ → ℕ) → List Record → ℕ → List Turn
turns_before place h k = before_first (λ (c : Turn). eqb c.number k) (in_turn place h)

-- the last of them that writes item x, where there is one
abbrev pub last_writer : (ℕ → ℕ) → List Record → ℕ → ℕ → Option Turn
last_writer place h k x = last_of (λ (c : Turn). touches x c.commit.ops) (turns_before place h k)

-- the operations of commit k before operation a
abbrev pub ops_before : Network → ℕ → ℕ → List Op
ops_before n k a = take a (nth_record n k).ops

-- one of them writes the item of operation a
abbrev pub own_write : Network → ℕ → ℕ → Bool
own_write n k a = touches (nth_op n k a).item (ops_before n k a)

-- of operation a of commit k the record number of the commit that it came from, or none for the base value
unfoldable pub origin_of : Network → ℕ → ℕ → Option ℕ
origin_of n k a = cond (own_write n k a) (some k) (map (λ (c : Turn). c.number) (last_writer (place_of n.items) n.history k (nth_op n k a).item))
