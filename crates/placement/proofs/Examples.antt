-- Two worked placements, by computation: one whose order is not that of the numbers, and two sites with a copy at each other.
use mathlib.Core.Path.{◌≡◌, refl}
use mathlib.Core.List.{List, [], ◌∷◌}
use Rattle.placement.specs.Placement.{Item, item_number, is_line}
use Rattle.placement.specs.Places.{order_from, places_of, cyclic, placement_number}

-- lines from 3 to 0 and 2, and from 0 to 2: the sites in order are 1, 3, 0, 2
abbrev turned : List Item
turned = record { primary = 3; mask = 5 } ∷ (record { primary = 0; mask = 4 } ∷ [])

turned_places : places_of turned ≡ 2 ∷ (0 ∷ (3 ∷ (1 ∷ (4 ∷ (5 ∷ (6 ∷ (7 ∷ [])))))))
unfolding places_of order_from is_line
turned_places = refl

turned_passes : placement_number 4 turned ≡ 0
unfolding placement_number cyclic places_of order_from is_line item_number
turned_passes = refl

crossed_refused : placement_number 2 (record { primary = 0; mask = 2 } ∷ (record { primary = 1; mask = 1 } ∷ [])) ≡ 5
unfolding placement_number cyclic places_of order_from is_line item_number
crossed_refused = refl
