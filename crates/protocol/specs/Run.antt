-- The one-copy run: the commits one after another by rising timestamp, equal ones in the order made, on one copy of each item. Each
-- site's `place` in the order of sites is given.
use Rattle.std.specs.Prelude.{Bool, cond, List, [], ◌∷◌, map, ℕ, suc, ℤ, pos, length, get_or, replicate, eqb}
use Rattle.timestamp_order.specs.Timestamp.{Stamp}
use Rattle.timestamp_order.specs.Order.{order_by, not_later}
use Rattle.site_operations.specs.Operations.{worked}
use Rattle.site.specs.InWords.{table_size}
use Rattle.records.specs.Records.{Record}
use Rattle.protocol.specs.Network.{no_record}
use Rattle.lists.specs.Sorting.{sorted}
use Rattle.lists.specs.Lists.{keep, up_to}

-- a commit with its number in the order made
pub record Turn : Type 0 where
  pub number : ℕ
  pub commit : Record

abbrev pub numbered : ℕ → List Record → List Turn
numbered k [] = []
numbered k (c ∷ cs) = record { number = k; commit = c } ∷ numbered (suc k) cs

-- ---- by rising timestamp; a commit made before others goes before those that equal it
abbrev pub comes_first : (ℕ → ℕ) → Turn → Turn → Bool
comes_first place c d = not_later (order_by place c.commit.stamp d.commit.stamp)

abbrev pub in_turn : (ℕ → ℕ) → List Record → List Turn
in_turn place cs = sorted (comes_first place) (numbered 0 cs)

-- ---- the run: the operations of each commit one after another, on the table that the commits before it leave
abbrev pub after : List ℤ → List Turn → List ℤ
after table [] = table
after table (c ∷ cs) = after (worked table c.commit.ops).table cs

-- a commit with the values that its reads get
abbrev pub seen : List ℤ → Turn → Turn
seen table c =
    let r = c.commit in
    record { number = c.number; commit = record { site = r.site; stamp = r.stamp; ops = (worked table r.ops).ops } }

abbrev pub run : List ℤ → List Turn → List Turn
run table [] = []
run table (c ∷ cs) = seen table c ∷ run (worked table c.commit.ops).table cs

-- every item starts at 0
abbrev pub start_table : List ℤ
start_table = replicate table_size (pos 0)

-- ---- what the run shows
-- the commit of that number
abbrev pub find : List Turn → ℕ → Record
find [] k = no_record
find (c ∷ cs) k = cond (eqb c.number k) c.commit (find cs k)

-- the commits in the order made, each read with the value that the run has there
unfoldable pub shown : (ℕ → ℕ) → List ℤ → List Record → List Record
shown place start cs = map (find (run start (in_turn place cs))) (up_to 0 (length cs))

-- the commit is not later than a timestamp
abbrev pub is_up_to : (ℕ → ℕ) → Stamp → Turn → Bool
is_up_to place t c = not_later (order_by place c.commit.stamp t)

-- the run's value of an item after exactly the commits not later than a timestamp
unfoldable pub value_at : (ℕ → ℕ) → List ℤ → List Record → Stamp → ℕ → ℤ
value_at place start cs t x = get_or (after start (keep (is_up_to place t) (in_turn place cs))) x (pos 0)
