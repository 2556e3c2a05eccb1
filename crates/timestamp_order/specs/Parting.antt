-- Where two timestamps part: at their epochs, or after the leading tuples that they share; and what a comparison answers.
use Rattle.std.specs.Prelude.{◌≡◌, Bool, ◌&&◌, cond, List, [], ◌∷◌, ℕ, suc, ◌≤◌, ◌<◌, length, get_or, take, drop, eqb}
use Rattle.std.proofs.Math.Option.{Option, none, some}
use Rattle.timestamp_order.specs.declared.Order.{Order}
use Rattle.timestamp_order.specs.declared.Order.TheVariants.{Equal}
use Rattle.timestamp_order.specs.declared.Parting.{Parting}
use Rattle.timestamp_order.specs.declared.Parting.TheVariants.{Epochs, After}
use Rattle.timestamp_order.specs.declared.Compared.{Compared}
use Rattle.timestamp_order.specs.Timestamp.{Pair, Stamp, no_pair}
use Rattle.timestamp_order.specs.Order.{number_order, tuples_order, order_by}

-- the same site and the same count, whatever the site's place
abbrev pub same_pair : Pair → Pair → Bool
same_pair x y = eqb x.site y.site && eqb x.count y.count

-- how many leading tuples two lists share, up to the first that differ
unfoldable pub shared : List Pair → List Pair → ℕ
shared [] ys = 0
shared (x ∷ xs) [] = 0
shared (x ∷ xs) (y ∷ ys) = cond (same_pair x y) (suc (shared xs ys)) 0

-- where two timestamps part: how many leading tuples they share; none where the epochs differ
unfoldable pub parting : Stamp → Stamp → Option ℕ
parting a b = cond (eqb a.epoch b.epoch) (some (shared a.tuples b.tuples)) none

-- the same of the code's answer
abbrev pub shared_of : Parting → Option ℕ
shared_of Epochs = none
shared_of (After n) = some n

-- the whole answer of a comparison, by the places of the sites
pub record Compares (place : ℕ → ℕ) (a b : Stamp) (r : Compared) : Type 0 where
  pub order_is : r.order ≡ order_by place a b
  pub parting_is : shared_of r.parting ≡ parting a b

-- ---- what is shown of it
-- both have n tuples, which are the same; where both have one behind them, those differ
pub record PartsAfter (xs ys : List Pair) (n : ℕ) : Type 0 where
  pub first_has : n ≤ length xs
  pub second_has : n ≤ length ys
  pub same : take n xs ≡ take n ys
  pub differ : n < length xs → n < length ys → get_or xs n no_pair ≡ get_or ys n no_pair → ⊥

abbrev pub PartsAt : Stamp → Stamp → Option ℕ → Type 0
PartsAt a b none = a.epoch ≡ b.epoch → ⊥
PartsAt a b (some n) = (a.epoch ≡ b.epoch) × PartsAfter a.tuples b.tuples n

-- they part there, and nowhere else
abbrev pub PartThere : Type 0
PartThere = (a b : Stamp) → PartsAt a b (parting a b) × ((p : Option ℕ) → PartsAt a b p → p ≡ parting a b)

-- equal timestamps share all
abbrev pub EqualShareAll : Type 0
EqualShareAll = (place : ℕ → ℕ) (a b : Stamp) → order_by place a b ≡ Equal → (parting a b ≡ some (length a.tuples)) × (parting a b ≡ some (length b.tuples))

-- the order that the spot gives: of the epochs where they differ, else of what stands right behind the shared tuples
abbrev pub order_there : (ℕ → ℕ) → Stamp → Stamp → Option ℕ → Order
order_there place a b none = number_order a.epoch b.epoch
order_there place a b (some n) = tuples_order place (take 1 (drop n a.tuples)) (take 1 (drop n b.tuples))

-- the spot decides the order, whatever the places of the sites
abbrev pub DecidedThere : Type 0
DecidedThere = (place : ℕ → ℕ) (a b : Stamp) → order_by place a b ≡ order_there place a b (parting a b)
