-- What the laws use of the order of sites: along a line the place rises, below 8, and both ends are sites; and that tuples are of sites of the group.
use mathlib.Core.Path.{◌≡◌, refl}
use mathlib.Core.Bool.{Bool, true, false}
use mathlib.Core.List.{List}
use Prim.Native.Nat.{ℕ, ◌≤◌, ◌<◌}
use native.Mathlib.Omega.{arith}
use Rattle.timestamp_order.specs.declared.Order.{Order}
use lib.Dec.{ltb}
use borrow.Author.Tests.{ltb-true, ltb-false}
use Rattle.lists.specs.Lists.{every}
use Rattle.timestamp_order.specs.Timestamp.{Stamp}
use Rattle.timestamp_order.specs.Order.{order_by, IsEarlier, NotLater}
use Rattle.timestamp_order.specs.Made.{made_by}
use Rattle.timestamp_order.proofs.Made.{made_inside}
use Rattle.limits.specs.Limits.{sites_most}
use Rattle.placement.specs.Placement.{Item, is_line}
use Rattle.placement.specs.Places.{placement_number}
use Rattle.placement.proofs.Laws.{line_sites}
use Rattle.placement.proofs.Places.{lines_rise, place_below, placement_parts}
use Rattle.placement.proofs.Groups.{group_places}
use Rattle.protocol.specs.Network.{Network, place_of}
use Rattle.protocol.proofs.Times.{Times, times}

-- ---- a line of a placement that set-up does not refuse
module _ (sites : ℕ) (xs : List Item) (p c : ℕ) (placed : placement_number sites xs ≡ 0) (line : is_line xs p c ≡ true) where
  -- both ends are sites
  pub line_ends : (p < sites) × (c < sites)
  line_ends = line_sites sites xs p c (placement_parts sites xs placed).0 line

  module _ (few : sites ≤ sites_most) where
    pub line_rises : place_of xs p < place_of xs c
    line_rises = lines_rise sites xs p c few placed line

    -- a timestamp has room for a tuple of each site before the child, and for the child's own
    pub child_place : place_of xs c < sites_most
    child_place = place_below sites xs few placed c (omega (arith, line_ends.1))

-- ---- a timestamp that a site of the group made has tuples of the group's sites alone, though of each only the place is asked
module _ (sites : ℕ) (xs : List Item) (placed : placement_number sites xs ≡ 0) (few : sites ≤ sites_most) where
  site_before : (k j : ℕ) → j < sites → place_of xs k < place_of xs j → k < sites
  site_before k j near low = go (ltb k sites) refl
    where
      go : (b : Bool) → ltb k sites ≡ b → k < sites
      go true e = ltb-true k sites e
      go false e =
          let group = group_places sites xs few placed in
          let out = ltb-false k sites e in
          absurd (omega (arith, group.missing k out, group.inside j near))

  pub tuples_inside : (j : ℕ) (t : Stamp) → made_by (place_of xs) j t ≡ true → j < sites → every (λ p. ltb p.site sites) t.tuples ≡ true
  tuples_inside = made_inside (place_of xs) sites site_before

-- ---- the order of a network's sites
abbrev pub place_at : Network → ℕ → ℕ
place_at n = place_of n.items

abbrev pub order_at : Network → Stamp → Stamp → Order
order_at n = order_by (place_at n)

abbrev pub Before : Network → Stamp → Stamp → Type 0
Before n s t = IsEarlier (place_at n) s t

abbrev pub UpTo : Network → Stamp → Stamp → Type 0
UpTo n s t = NotLater (place_at n) s t

pub times_at : (n : Network) → Times (place_at n)
times_at n = times (place_at n)
