-- Which timestamps a site makes: the places of their sites rise, and the last site is its own.
use Rattle.std.specs.Prelude.{Bool, true, ◌&&◌, List, [], ◌∷◌, ℕ, length, eqb, ltb}
use Rattle.timestamp_order.specs.Timestamp.{Pair, Stamp, own_site}

-- each site stands before the next
unfoldable pub rising : (ℕ → ℕ) → List Pair → Bool
rising place [] = true
rising place (x ∷ []) = true
rising place (x ∷ (y ∷ ys)) = ltb (place x.site) (place y.site) && rising place (y ∷ ys)

-- a timestamp that site j made: it has a tuple, the places of its sites rise, and it ends with j
unfoldable pub made_by : (ℕ → ℕ) → ℕ → Stamp → Bool
made_by place j s = ltb 0 (length s.tuples) && (rising place s.tuples && eqb (own_site s) j)
