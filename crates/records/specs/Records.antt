-- A record of the history: the site that made the commit, its timestamp, and its operations, a read with the value it gave.
use Rattle.std.specs.Prelude.{Bool, ◌&&◌, List, ℕ, ltb, leb}
use Rattle.lists.specs.Lists.{every}
use Rattle.timestamp_order.specs.Timestamp.{Stamp}
use Rattle.timestamp_order.specs.Made.{made_by}
use Rattle.site_operations.specs.Operations.{Op}

pub record Record : Type 0 where
  pub site : ℕ
  pub stamp : Stamp
  pub ops : List Op

-- an operation of a known kind on one of the items
abbrev pub op_fits : ℕ → Op → Bool
op_fits items o = leb o.kind 1 && ltb o.item items

-- a record of a group of that many sites and items, each site at its `place`: its site is one of them and made its timestamp, and its
-- operations fit
unfoldable pub record_fits : (ℕ → ℕ) → ℕ → ℕ → Record → Bool
record_fits place sites items r = ltb r.site sites && (made_by place r.site r.stamp && every (op_fits items) r.ops)
