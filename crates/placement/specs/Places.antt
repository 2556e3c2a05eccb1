-- The order of sites that lines give, a site's place in it, and lines that form a cycle.
use Rattle.std.specs.Prelude.{◌≡◌, Bool, true, not, cond, ◌&&◌, List, [], ◌∷◌, map, ℕ, zero, suc, ◌≤◌, ◌<◌, length, eqb, ltb}
use Rattle.limits.specs.Limits.{sites_most}
use Rattle.lists.specs.Lists.{some_below, any, before_first, up_to}
use Rattle.lists.specs.Numbers.{first_number, number_if}
use Rattle.timestamp_order.specs.Order.{rank}
use Rattle.placement.specs.Placement.{Item, items_number, is_line}

-- ---- the order of n sites, by a test for a line from one to another
-- site c is among those placed
abbrev pub is_placed : List ℕ → ℕ → Bool
is_placed placed c = any (λ d. eqb d c) placed

-- some parent of site c is not placed
abbrev pub waits : ℕ → (ℕ → ℕ → Bool) → List ℕ → ℕ → Bool
waits n line placed c = some_below (λ p. line p c && not (is_placed placed p)) n

-- a site that is not placed, whose parents all are
abbrev pub is_next : ℕ → (ℕ → ℕ → Bool) → List ℕ → ℕ → Bool
is_next n line placed c = not (is_placed placed c) && not (waits n line placed c)

-- of n numbers from c on the first that passes the test; c + n where none does
abbrev pub first_from : (ℕ → Bool) → ℕ → ℕ → ℕ
first_from p c zero = c
first_from p c (suc n) = cond (p c) c (first_from p (suc c) n)

-- up to k sites more, behind those placed: again and again the lowest-numbered whose parents are all placed
unfoldable pub order_from : ℕ → (ℕ → ℕ → Bool) → List ℕ → ℕ → List ℕ
order_from n line placed zero = []
order_from n line placed (suc k) =
    let c = first_from (is_next n line placed) 0 n in
    cond (ltb c n) (c ∷ order_from n line (c ∷ placed) k) []

abbrev pub site_order : ℕ → (ℕ → ℕ → Bool) → List ℕ
site_order n line = order_from n line [] n

-- a site's place in an order: how many stand before it; 8 where it is not in it
abbrev pub place_in : List ℕ → ℕ → ℕ
place_in o k = cond (is_placed o k) (length (before_first (λ d. eqb d k) o)) sites_most

-- ---- of a placement
-- All eight numbers are put in order, so that the items alone tell a site's place: one that is no site of the group has no parents, and stands behind
-- all that are (`GroupPlaces`).
unfoldable pub places_of : List Item → List ℕ
places_of xs = map (place_in (site_order sites_most (is_line xs))) (up_to 0 sites_most)

-- a site's place in the order that the placement gives
unfoldable pub place_of : List Item → ℕ → ℕ
place_of xs k = rank (places_of xs) k

-- some site cannot be placed
unfoldable pub cyclic : List Item → Bool
cyclic xs = any (λ q. eqb q sites_most) (places_of xs)

-- the number for which set-up refuses a placement, or 0: that of the first faulty item, and 5 where all items pass and the lines form a cycle
unfoldable pub placement_number : ℕ → List Item → ℕ
placement_number sites xs = first_number (items_number sites xs ∷ number_if (cyclic xs) 5 ∷ [])

-- ---- what is shown of it
-- a walk along lines, `steps` behind the first, that ends where it began
pub record Cycle (line : ℕ → ℕ → Bool) : Type 0 where
  pub steps : ℕ
  pub at : ℕ → ℕ
  pub goes : (i : ℕ) → i ≤ steps → line (at i) (at (suc i)) ≡ true
  pub back : at (suc steps) ≡ at 0

-- of items that pass 3 and 4 a site cannot be placed exactly where the lines form a cycle
abbrev pub CyclicMeansCycle : Type 0
CyclicMeansCycle =
    (sites : ℕ) (xs : List Item) → sites ≤ sites_most → items_number sites xs ≡ 0
    → (cyclic xs ≡ true → Cycle (is_line xs)) × (Cycle (is_line xs) → cyclic xs ≡ true)

-- the places of a group's sites are those in the order of these sites alone, each below their number; a number that is no site of the group is its own place
pub record InGroup (sites : ℕ) (xs : List Item) : Type 0 where
  pub own_order : (k : ℕ) → k < sites → place_of xs k ≡ place_in (site_order sites (is_line xs)) k
  pub inside : (k : ℕ) → k < sites → place_of xs k < sites
  pub missing : (k : ℕ) → sites ≤ k → place_of xs k ≡ k
  pub apart : (j k : ℕ) → place_of xs j ≡ place_of xs k → j ≡ k

abbrev pub GroupPlaces : Type 0
GroupPlaces = (sites : ℕ) (xs : List Item) → sites ≤ sites_most → placement_number sites xs ≡ 0 → InGroup sites xs

-- along a line the place rises
abbrev pub LinesRise : Type 0
LinesRise = (sites : ℕ) (xs : List Item) (p c : ℕ) → sites ≤ sites_most → placement_number sites xs ≡ 0 → is_line xs p c ≡ true → place_of xs p < place_of xs c

-- where every line goes to a higher number, each site's place is its number
abbrev pub NumbersStay : Type 0
NumbersStay = (xs : List Item) → ((p c : ℕ) → p < sites_most → c < sites_most → is_line xs p c ≡ true → p < c) → places_of xs ≡ up_to 0 sites_most
