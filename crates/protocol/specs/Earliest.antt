-- The earliest of some timestamps, by the places of the sites.
use Rattle.std.specs.Prelude.{◌≡◌, Bool, List, ℕ, ◌<◌, length, get_or}
use Rattle.lists.specs.Sorting.{sorted}
use Rattle.timestamp_order.specs.Timestamp.{Stamp}
use Rattle.timestamp_order.specs.Order.{order_by, not_later, NotLater}
use Rattle.protocol.specs.Network.{no_stamp}

-- the first of two is not later than the second
abbrev pub no_later : (ℕ → ℕ) → Stamp → Stamp → Bool
no_later place s t = not_later (order_by place s t)

-- the first of them, sorted
unfoldable pub earliest_stamp : (ℕ → ℕ) → List Stamp → Stamp
earliest_stamp place ts = get_or (sorted (no_later place) ts) 0 no_stamp

-- ---- what is shown of it
-- t is one of them, and none of them is earlier
pub record Earliest (place : ℕ → ℕ) (ts : List Stamp) (t : Stamp) : Type 0 where
  pub which : ℕ
  pub there : which < length ts
  pub stamp_is : get_or ts which no_stamp ≡ t
  pub none_earlier : (a : ℕ) → a < length ts → NotLater place t (get_or ts a no_stamp)

-- where there are some, there is one such timestamp
pub record EarliestIs (place : ℕ → ℕ) (ts : List Stamp) : Type 0 where
  pub is : 0 < length ts → Earliest place ts (earliest_stamp place ts)
  pub alone : (t : Stamp) → Earliest place ts t → t ≡ earliest_stamp place ts
