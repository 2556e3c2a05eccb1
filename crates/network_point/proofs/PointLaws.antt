-- One more site looked at for the point; one more record named.
use mathlib.Core.Path.{◌≡◌, refl, sym, ap, ap₂, ◌∙◌}
use mathlib.Core.Bool.{Bool, true, false, not, cond}
use mathlib.Core.List.{List, [], ◌∷◌}
use Prim.Native.Nat.{ℕ, ◌+◌, ◌≤◌, ◌<◌}
use native.Mathlib.Omega.{arith}
use lib.ListN.{length, get_or, set, drop, length-set}
use lib.Seq.{get_or-set_same, get_or-set_other}
use lib.Dec.{eqb}
use borrow.Author.Tests.{eqb-true, eqb-false}
use Rattle.limits.specs.Limits.{records_most}
use Rattle.lists.specs.Lists.{fold}
use Rattle.lists.specs.Sorting.{former}
use Rattle.lists.proofs.Folds.{fold_next, fold_done}
use Rattle.lists.proofs.Renumber.{count_next}
use Rattle.timestamp_order.specs.Timestamp.{Stamp}
use Rattle.timestamp_order.specs.Order.{order_by, is_earlier}
use Rattle.protocol.specs.Network.{Network, no_stamp, site_at, site_stamps, place_of}
use Rattle.protocol.specs.Earliest.{no_later, earliest_stamp}
use Rattle.protocol.specs.Collect.{point_of, new_number}
use Rattle.protocol.proofs.Earliest.{earlier_former, earliest_fold}
use Rattle.protocol.proofs.Point.{stamps_many, stamps_at}
use Rattle.network_point.specs.Point.{EarliestSoFar, NamedNext}

-- ---- the point
earliest_first : (place : ℕ → ℕ) (ts : List Stamp) → 1 ≤ length ts → earliest_stamp place ts ≡ fold (former (no_later place)) (get_or ts 0 no_stamp) (drop 1 ts)
earliest_first place [] h = absurd (omega arith)
earliest_first place (t ∷ ts) h = earliest_fold place t ts

module _ (n : Network) where
  abbrev place : ℕ → ℕ
  place = place_of n.items

  abbrev former_stamp : Stamp → Stamp → Stamp
  former_stamp = former (no_later place)

  pub first_site : 1 ≤ length n.sites → EarliestSoFar n 1 0
  first_site h = record { low = omega arith; left = earliest_first place (site_stamps n) (omega (arith, stamps_many n)) ∙ ap (λ (t : Stamp). fold former_stamp t (drop 1 (site_stamps n))) (stamps_at n 0) }

  module _ (i b : ℕ) (s : EarliestSoFar n i b) where
    -- the earlier of the two
    pub next_site : i < length n.sites → (c : Bool) → is_earlier (order_by place (site_at n i).stamp (site_at n b).stamp) ≡ c → EarliestSoFar n (i + 1) (cond c i b)
    next_site there c e =
        record { low = low c; left = fold_next former_stamp (point_of n) (site_at n b).stamp (site_stamps n) i s.left no_stamp (site_at n (cond c i b)).stamp (omega (arith, stamps_many n)) (is c e) }
      where
        low : (c : Bool) → cond c i b < i + 1
        low true = omega arith
        low false = let l : b < i = s.low in omega arith

        is : (c : Bool) → is_earlier (order_by place (site_at n i).stamp (site_at n b).stamp) ≡ c → (site_at n (cond c i b)).stamp ≡ former_stamp (site_at n b).stamp (get_or (site_stamps n) i no_stamp)
        is c e = ap (λ (t : Bool). (site_at n (cond t i b)).stamp) (sym e) ∙ earlier_former place (λ (k : ℕ). (site_at n k).stamp) b i ∙ sym (ap (former_stamp (site_at n b).stamp) (stamps_at n i))

    pub last_site : length n.sites ≤ i → (site_at n b).stamp ≡ point_of n
    last_site all = fold_done former_stamp (point_of n) (site_at n b).stamp (site_stamps n) i s.left (omega (arith, stamps_many n))

-- ---- the names
-- the records below k have their names, and so many of them stay
pub record NamedBelow (goes : ℕ → Bool) (k kept : ℕ) (names : List ℕ) : Type 0 where
  pub sized : length names ≡ records_most
  pub each : (i : ℕ) → i < k → get_or names i 0 ≡ cond (goes i) records_most (new_number goes i)
  pub count : kept ≡ new_number goes k

module _ (goes : ℕ → Bool) where
  pub none_named : (names : List ℕ) → length names ≡ records_most → NamedBelow goes 0 0 names
  none_named names size = record { sized = size; each = λ i l. absurd (omega arith); count = refl }

  module _ (names exit : List ℕ) (k kept : ℕ) (s : NamedBelow goes k kept names) (few : k < records_most) where
    pub named_next : (gone : Bool) (more : ℕ) → gone ≡ goes k → NamedNext names k kept gone exit more → NamedBelow goes (k + 1) more exit
    named_next gone more is next =
        record {
          sized = ap length next.is ∙ length-set names k (cond gone records_most kept) ∙ s.sized;
          each = λ i l. ap (λ (w : List ℕ). get_or w i 0) next.is ∙ go i l (eqb i k) refl;
          count = next.count ∙ ap₂ (λ (a : ℕ) (b : Bool). a + cond b 0 1) s.count is ∙ turned (goes k) ∙ sym (count_next (λ i. not (goes i)) k (not (goes k)) refl);
        }
      where
        turned : (b : Bool) → new_number goes k + cond b 0 1 ≡ new_number goes k + cond (not b) 1 0
        turned true = refl
        turned false = refl

        here : cond gone records_most kept ≡ cond (goes k) records_most (new_number goes k)
        here = ap₂ (λ (b : Bool) (a : ℕ). cond b records_most a) is s.count

        go : (i : ℕ) → i < k + 1 → (b : Bool) → eqb i k ≡ b → get_or (set names k (cond gone records_most kept)) i 0 ≡ cond (goes i) records_most (new_number goes i)
        go i l true e =
            let same : i ≡ k = eqb-true i k e in
            ap (λ (j : ℕ). get_or (set names k (cond gone records_most kept)) j 0) same
            ∙ get_or-set_same names k (cond gone records_most kept) 0 (omega (arith, s.sized))
            ∙ here
            ∙ ap (λ (j : ℕ). cond (goes j) records_most (new_number goes j)) (sym same)
        go i l false e =
            let other = eqb-false i k e in
            get_or-set_other names k i (cond gone records_most kept) 0 other ∙ s.each i (omega (arith, other))
