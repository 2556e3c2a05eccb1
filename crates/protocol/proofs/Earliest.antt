-- The earliest of some timestamps: one of them, not later than any, and no other timestamp is so; found by one walk that keeps the earlier of two.
use mathlib.Core.Path.{◌≡◌, refl, sym, ap, subst, ◌∙◌}
use mathlib.Core.Bool.{Bool, true, false, not, cond, false≢true}
use mathlib.Core.List.{List, ◌∷◌}
use Prim.Native.Nat.{ℕ, zero, suc, ◌<◌}
use native.Mathlib.Omega.{arith}
use lib.ListN.{length, get_or}
use Rattle.lists.specs.Lists.{fold}
use Rattle.lists.specs.Sorting.{sorted, former}
use Rattle.lists.proofs.Chains.{each_at, each_by, chain_at}
use Rattle.lists.proofs.Some.{some_at, some_index}
use Rattle.lists.proofs.Sorting.{length_sorted, each_sorted, any_sorted, in_order}
use Rattle.lists.proofs.First.{first_sorted}
use Rattle.timestamp_order.specs.Timestamp.{Stamp}
use Rattle.timestamp_order.specs.Order.{order_by, is_earlier, NotLater}
use Rattle.timestamp_order.proofs.Comparisons.{not_later_both}
use Rattle.timestamp_order.proofs.OrderLaws.{order_laws}
use Rattle.protocol.specs.Network.{no_stamp}
use Rattle.protocol.specs.Earliest.{no_later, earliest_stamp, Earliest, EarliestIs}
use Rattle.protocol.proofs.Times.{times}

module _ (place : ℕ → ℕ) where
  open times place use {upto_self, upto_before, upto_trans, fails_later, upto_turned}

  -- ---- the test by which is sorted
  pub no_later_along : (s t u : Stamp) → no_later place s t ≡ true → no_later place t u ≡ true → no_later place s u ≡ true
  no_later_along = upto_trans

  pub no_later_either : (s t : Stamp) → no_later place s t ≡ false → no_later place t s ≡ true
  no_later_either s t h = upto_before t s (fails_later s t h)

  -- ---- by one walk
  -- of two elements with timestamps the one that stays
  pub earlier_former : {A : Type 0} (stamp : A → Stamp) (a b : A) → stamp (cond (is_earlier (order_by place (stamp b) (stamp a))) b a) ≡ former (no_later place) (stamp a) (stamp b)
  earlier_former stamp a b = go (is_earlier (order_by place (stamp b) (stamp a))) ∙ ap (λ (c : Bool). cond c (stamp a) (stamp b)) (upto_turned (stamp a) (stamp b))
    where
      go : (c : Bool) → stamp (cond c b a) ≡ cond (not c) (stamp a) (stamp b)
      go true = refl
      go false = refl

  pub earliest_fold : (t : Stamp) (us : List Stamp) → earliest_stamp place (t ∷ us) ≡ fold (former (no_later place)) t us
  unfolding earliest_stamp
  earliest_fold t us = first_sorted (no_later place) no_later_along no_later_either no_stamp t us

  module _ (ts : List Stamp) where
    abbrev ordered : List Stamp
    ordered = sorted (no_later place) ts

    abbrev first : Stamp
    first = get_or ordered 0 no_stamp

    -- ---- it is not later than any of them
    first_before : (a : ℕ) → a < length ordered → no_later place first (get_or ordered a no_stamp) ≡ true
    first_before zero l = upto_self first
    first_before (suc a) l = chain_at _ ordered no_stamp (in_order (no_later place) no_later_along no_later_either ts) 0 (suc a) (omega arith) l

    none_earlier : (a : ℕ) → a < length ts → NotLater place first (get_or ts a no_stamp)
    none_earlier a l = go (no_later place first (get_or ts a no_stamp)) refl
      where
        later : Stamp → Bool
        later t = not (no_later place first t)

        go : (b : Bool) → no_later place first (get_or ts a no_stamp) ≡ b → NotLater place first (get_or ts a no_stamp)
        go true e = e
        go false e =
            let found = some_index later ordered no_stamp (any_sorted (no_later place) later ts ∙ some_at later ts a no_stamp l (ap not e)) in
            absurd (false≢true (ap not (sym (first_before found.0 found.1)) ∙ found.2))

    -- ---- and one of them
    abbrev Among : Stamp → Type 0
    Among t = (a : ℕ) × (a < length ts) × (get_or ts a no_stamp ≡ t)

    first_earliest : 0 < length ts → Earliest place ts (earliest_stamp place ts)
    unfolding earliest_stamp
    first_earliest some =
        let among : Among first
        = each_at Among ordered no_stamp (each_sorted (no_later place) Among ts (each_by Among ts no_stamp (λ a l. (a, l, refl)))) 0 (omega (arith, length_sorted (no_later place) ts)) in
        record { which = among.0; there = among.1; stamp_is = among.2; none_earlier = none_earlier }

    only : (s t : Stamp) → Earliest place ts s → Earliest place ts t → s ≡ t
    only s t e f =
        not_later_both (order_by place) (order_laws place) s t
        (subst (NotLater place s) f.stamp_is (e.none_earlier f.which f.there))
        (subst (NotLater place t) e.stamp_is (f.none_earlier e.which e.there))

    pub earliest_is : EarliestIs place ts
    earliest_is = record { is = first_earliest; alone = λ t e. only t (earliest_stamp place ts) e (first_earliest (omega (arith, e.there))) }

    pub earliest_upto : (a : ℕ) → a < length ts → NotLater place (earliest_stamp place ts) (get_or ts a no_stamp)
    unfolding earliest_stamp
    earliest_upto = none_earlier

    -- what holds of each holds of it
    pub earliest_one : (P : Stamp → Type 0) → 0 < length ts → ((a : ℕ) → a < length ts → P (get_or ts a no_stamp)) → P (earliest_stamp place ts)
    earliest_one P some h = let first = first_earliest some in subst P first.stamp_is (h first.which first.there)
