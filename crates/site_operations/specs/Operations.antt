-- The operations of a commit: what each reads, and what they do to a table.
use Rattle.std.specs.Prelude.{Bool, cond, ◌&&◌, List, [], ◌∷◌, ℕ, ℤ, pos, set, get_or, eqb}
use Rattle.std.proofs.Math.Option.{Option, map}
use Rattle.limits.specs.Limits.{items_most}
use Rattle.lists.specs.Lists.{any, last_of}

-- an operation: kind 0 reads, kind 1 writes
pub record Op : Type 0 where
  pub kind : ℕ
  pub item : ℕ
  pub value : ℤ

-- what stands where there is no operation
abbrev pub no_op : Op
no_op = record { kind = 0; item = 0; value = pos 0 }

abbrev pub reads : Op → Bool
reads o = eqb o.kind 0

abbrev pub writes : Op → Bool
writes o = eqb o.kind 1

-- the operation writes item k
abbrev pub writes_item : ℕ → Op → Bool
writes_item k o = writes o && eqb o.item k

-- the item that an operation writes, or a number that no item has
abbrev pub written_item : Op → ℕ
written_item o = cond (writes o) o.item items_most

-- some operation writes item k
abbrev pub touches : ℕ → List Op → Bool
touches k os = any (writes_item k) os

-- the value of the last write of item k, where there is one
abbrev pub last_written : ℕ → List Op → Option ℤ
last_written k os = map (λ (o : Op). o.value) (last_of (writes_item k) os)

-- an operation as the history keeps it: a read with the value that the table has then
abbrev pub recorded : List ℤ → Op → Op
recorded table o = cond (reads o) (record { kind = o.kind; item = o.item; value = get_or table o.item (pos 0) }) o

-- a table after an operation
abbrev pub written : List ℤ → Op → List ℤ
written table o = cond (writes o) (set table o.item o.value) table

-- what a list of operations leaves: the table after them, and the operations as the history keeps them
pub record Work : Type 0 where
  pub table : List ℤ
  pub ops : List Op

-- the operations one after another, each on the table that those before it leave
unfoldable pub worked : List ℤ → List Op → Work
worked table [] = record { table = table; ops = [] }
worked table (o ∷ os) =
    let rest = worked (written table o) os in
    record { table = rest.table; ops = recorded table o ∷ rest.ops }

-- the values of the reads, in order
abbrev pub values_read : List Op → List ℤ
values_read [] = []
values_read (o ∷ os) = cond (reads o) (o.value ∷ values_read os) (values_read os)
