-- What the code keeps for an order of sites: the bits of all lines, and a table of places in which 8 stands for a site that is not placed.
use Rattle.std.specs.Prelude.{◌≡◌, Bool, not, cond, ◌&&◌, List, [], ◌∷◌, map, ℕ, suc, ◌+◌, ◌*◌, ◌<◌, get_or, eqb}
use Rattle.limits.specs.Limits.{sites_most}
use Rattle.lists.specs.Lists.{some_below, up_to}
use Rattle.placement.specs.Masks.{bit}
use Rattle.placement.specs.Places.{site_order, place_in}

-- the bits have a line from site p to site c
abbrev pub line_in : ℕ → ℕ → ℕ → Bool
line_in lines p c = bit lines (sites_most * p + c)

-- the places in the order that they give
abbrev pub places_by : ℕ → List ℕ
places_by lines = map (place_in (site_order sites_most (line_in lines))) (up_to 0 sites_most)

-- some line goes to site c
abbrev pub is_reached : ℕ → ℕ → Bool
is_reached lines c = some_below (λ p. line_in lines p c) sites_most

-- the bits r have the lines but those from site c
abbrev pub Without : ℕ → ℕ → ℕ → Type 0
Without lines c r = (p k : ℕ) → p < sites_most → k < sites_most → line_in r p k ≡ (line_in lines p k && not (eqb c p))

-- the table has no place for site c
abbrev pub is_open : List ℕ → ℕ → Bool
is_open table c = eqb (get_or table c 0) sites_most

-- site c has no place, and the mask does not name it
abbrev pub is_free : List ℕ → ℕ → ℕ → Bool
is_free table waiting c = is_open table c && not (bit waiting c)

-- the table where the sites without a place get those from n on, by their numbers
abbrev pub filled : ℕ → List ℕ → List ℕ
filled n [] = []
filled n (q ∷ qs) = cond (eqb q sites_most) (n ∷ filled (suc n) qs) (q ∷ filled n qs)
