-- What comes before what, of anything with a number and a timestamp: by timestamp, equal ones by number.
use Rattle.std.specs.Prelude.{Bool, cond, ℕ, ltb}
use Rattle.timestamp_order.specs.Timestamp.{Stamp}
use Rattle.timestamp_order.specs.Order.{order_by, not_later, is_earlier}

-- number m with timestamp s before number k with timestamp t
abbrev pub precedes_by : (ℕ → ℕ) → ℕ → Stamp → ℕ → Stamp → Bool
precedes_by place m s k t = let o = order_by place s t in cond (ltb m k) (not_later o) (is_earlier o)
