-- A schedule's number, cause by cause, and a bit of the mask of the parents.
use mathlib.Core.Path.{◌≡◌, ap, ◌∙◌}
use mathlib.Core.Bool.{true, false}
use mathlib.Core.List.{List}
use Prim.Native.Nat.{ℕ, ◌<◌}
use Rattle.lists.specs.Lists.{some_below}
use Rattle.limits.specs.Limits.{sites_most}
use Rattle.placement.specs.Masks.{bit}
use Rattle.placement.specs.Placement.{Item, is_line, has_parents}
use Rattle.placement.proofs.Laws.{bit_mask_of}
use Rattle.protocol.specs.Network.{Network}
use Rattle.protocol.specs.Steps.{no_such_site, lacks_arrived, schedule_number}
use Rattle.network_schedule_causes.specs.Parents.{parents_mask}

-- ---- the number
module _ (n : Network) (j : ℕ) where
  pub no_site_lem : no_such_site n j ≡ true → schedule_number n j ≡ 7
  unfolding schedule_number
  no_site_lem a = rw a

  module _ (a : no_such_site n j ≡ false) where
    pub no_parents : has_parents n.items j ≡ false → schedule_number n j ≡ 19
    unfolding schedule_number
    no_parents b = rw (a, b)

    module _ (b : has_parents n.items j ≡ true) where
      pub some_lack : some_below (lacks_arrived n j) sites_most ≡ true → schedule_number n j ≡ 20
      unfolding schedule_number
      some_lack c = rw (a, b, c)

      pub none_lack : some_below (lacks_arrived n j) sites_most ≡ false → schedule_number n j ≡ 0
      unfolding schedule_number
      none_lack c = rw (a, b, c)

-- a bit of the mask of the parents
pub parent_bit : (xs : List Item) (j mask p : ℕ) → mask ≡ parents_mask xs j → p < sites_most → bit mask p ≡ is_line xs p j
parent_bit xs j mask p e h = ap (λ (m : ℕ). bit m p) e ∙ bit_mask_of (λ q. is_line xs q j) sites_most p h
