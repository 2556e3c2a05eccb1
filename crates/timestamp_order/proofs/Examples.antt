-- The three comparisons printed under Definition 3.3, and where timestamps part, by computation.
use mathlib.Core.Path.{◌≡◌, refl}
use mathlib.Core.List.{map}
use mathlib.Core.Option.{some}
use lib.ListN.{replicate}
use Rattle.timestamp_order.specs.declared.Order.TheVariants.{Earlier}
use Rattle.timestamp_order.specs.Order.{order, order_by, tuples_order, pair_order, place_order, number_order}
use Rattle.timestamp_order.specs.Parting.{shared, parting}
use Rattle.timestamp_order.specs.Examples.{Comparison, comparisons, Parted, parted}

pub comparisons_hold : map (λ (c : Comparison). order c.first c.second) comparisons ≡ replicate 3 Earlier
unfolding order_by tuples_order pair_order place_order number_order
comparisons_hold = refl

pub partings_hold : map (λ (c : Comparison). parting c.first c.second) comparisons ≡ replicate 3 (some 1)
unfolding parting shared
partings_hold = refl

parted_holds : map (λ (p : Parted). parting p.sides.first p.sides.second) parted ≡ map (λ (p : Parted). p.spot) parted
unfolding parting shared
parted_holds = refl
