-- The order of timestamps: Definition 3.3, with epochs.
use Rattle.std.specs.Prelude.{◌≡◌, Bool, true, false, cond, List, [], ◌∷◌, ℕ, ◌<◌, get_or, ltb}
use Rattle.timestamp_order.specs.declared.Order.{Order}
use Rattle.timestamp_order.specs.declared.Order.TheVariants.{Earlier, Equal, Later}
use Rattle.timestamp_order.specs.Timestamp.{Pair, Stamp}

-- the first comparison decides; where it finds no difference, the second
abbrev pub then_by : Order → Order → Order
then_by Earlier second = Earlier
then_by Equal second = second
then_by Later second = Later

-- the lower number is earlier
unfoldable pub number_order : ℕ → ℕ → Order
number_order m n = cond (ltb m n) Earlier (cond (ltb n m) Later Equal)

-- the site of the HIGHER place is earlier. Two sites of one place, which no order of sites has, go by their numbers, so that the order is total whatever the places.
unfoldable pub place_order : (ℕ → ℕ) → ℕ → ℕ → Order
place_order place i j = then_by (number_order (place j) (place i)) (number_order j i)

-- for the same site the lower count is earlier
unfoldable pub pair_order : (ℕ → ℕ) → Pair → Pair → Order
pair_order place x y = then_by (place_order place x.site y.site) (number_order x.count y.count)

-- a proper prefix is earlier; else the first differing tuple decides
unfoldable pub tuples_order : (ℕ → ℕ) → List Pair → List Pair → Order
tuples_order place [] [] = Equal
tuples_order place [] (y ∷ ys) = Earlier
tuples_order place (x ∷ xs) [] = Later
tuples_order place (x ∷ xs) (y ∷ ys) = then_by (pair_order place x y) (tuples_order place xs ys)

-- the lower epoch is earlier; with equal epochs the tuples decide
unfoldable pub order_by : (ℕ → ℕ) → Stamp → Stamp → Order
order_by place a b = then_by (number_order a.epoch b.epoch) (tuples_order place a.tuples b.tuples)

-- ---- a site's place
-- by a table of places, its own number past the table
abbrev pub rank : List ℕ → ℕ → ℕ
rank places k = get_or places k k

-- its number
abbrev pub by_number : ℕ → ℕ
by_number n = n

abbrev pub order : Stamp → Stamp → Order
order a b = order_by by_number a b

-- where no two sites have one place, places alone tell
abbrev pub PlacesTell : Type 0
PlacesTell = (place : ℕ → ℕ) → ((i j : ℕ) → place i ≡ place j → i ≡ j) → (i j : ℕ) → place_order place i j ≡ number_order (place j) (place i)

-- ---- earlier, and not later: the two relations that everything above speaks of
abbrev pub not_later : Order → Bool
not_later Earlier = true
not_later Equal = true
not_later Later = false

abbrev pub is_earlier : Order → Bool
is_earlier Earlier = true
is_earlier Equal = false
is_earlier Later = false

abbrev pub IsEarlier : (ℕ → ℕ) → Stamp → Stamp → Type 0
IsEarlier place s t = order_by place s t ≡ Earlier

abbrev pub NotLater : (ℕ → ℕ) → Stamp → Stamp → Type 0
NotLater place s t = not_later (order_by place s t) ≡ true

-- every site of the list stands before j
abbrev pub Below : (ℕ → ℕ) → ℕ → List Pair → Type 0
Below place j [] = Unit {0}
Below place j (x ∷ xs) = (place x.site < place j) × Below place j xs
