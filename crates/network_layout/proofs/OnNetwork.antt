-- A step on the words of a network: what it is given, and what its contract says, refused or accepted.
use mathlib.Core.Path.{◌≡◌, refl, sym, ap, ◌∙◌}
use mathlib.Core.Bool.{true, false}
use mathlib.Core.List.{List, []}
use mathlib.Core.Option.{none, some}
use Prim.Native.Nat.{ℕ, ◌≤◌, ◌<◌}
use native.Mathlib.Omega.{arith}
use lib.IntN.{ℤ}
use lib.ListN.{length}
use Rattle.limits.specs.Limits.{sites_most, items_most}
use Rattle.timestamp_order.specs.declared.Compared.{Compared}
use Rattle.timestamp_order.specs.Timestamp.{Stamp}
use Rattle.timestamp_order.specs.Order.{rank, order_by}
use Rattle.timestamp_order.specs.Parting.{Compares}
use Rattle.protocol.specs.Network.{Network, no_stamp, line_number, place_of, well_shaped}
use Rattle.protocol.specs.Calls.{Call, Outcome, refused, judged, perform}
use Rattle.network_layout.specs.Layout.{record_count}
use Rattle.network_layout.specs.InWords.{network_in, in_range, shaped, meaning}
use Rattle.network_layout.specs.Promises.{Performed}
use Rattle.network_layout.specs.At.{AtState, AtSite, AtLine, PlacesAre, HasRecord, AtNetwork}
use Rattle.network_layout.proofs.Assembled.{parts_of, range_parts}
use Rattle.network_layout.proofs.Performs.{sites_count, items_count, records_count, records_few, shaped_range, shaped_well, number_shaped, performs_refused, performs_accepted, meaning_some}

-- a number below that of the records is one's name
pub has_record : (w : List ℕ) → AtState w → (k : ℕ) → k < record_count w → HasRecord w k
has_record w at k there = record { sized = at.sized; there = there; few = omega (arith, there, records_count w, records_few w at.ranged) }

module _ (w : List ℕ) (net : AtNetwork w) where
  pub ranged_on : in_range w ≡ true
  ranged_on = shaped_range w net.formed

  pub well_on : well_shaped (network_in w) ≡ true
  well_on = shaped_well w net.formed

  pub few_on : length (network_in w).sites ≤ sites_most
  unfolding parts_of
  few_on = omega (arith, sites_count w, (range_parts w ranged_on).few_sites)

  pub few_items_on : length (network_in w).items ≤ items_most
  unfolding parts_of
  few_items_on = omega (arith, items_count w 0, (range_parts w ranged_on).few_items)

  pub at_state : AtState w
  at_state = record { sized = net.sized; ranged = ranged_on }

  -- a site, a line or a record of the network, by the number that the code counts with
  module _ (i k : ℕ) (same : k ≡ i) where
    pub at_site : i < length (network_in w).sites → AtSite w k
    at_site there =
        record {
          sized = net.sized;
          ranged = ranged_on;
          there = omega (arith, there, same, sites_count w);
          few = omega (arith, there, same, few_on);
        }

    pub at_record : i < length (network_in w).history → HasRecord w k
    at_record there = has_record w at_state k (omega (arith, there, same, records_count w))

  pub at_line : (p c k : ℕ) → k ≡ line_number p c → p < sites_most → c < sites_most → AtLine w k
  at_line p c k same from to = record { sized = net.sized; ranged = ranged_on; few = omega (arith, same, from, to) }

-- ---- a call that needs a network: its number, and its outcome where no cause holds
module _ (call : Call) (at_none : perform none call ≡ refused 6 none) where
  pub unshaped : (w : List ℕ) → shaped w ≡ false → Performed call w w 6 0 no_stamp []
  unfolding meaning
  unshaped w e =
      let o : perform (meaning w) call ≡ refused 6 (meaning w) = rw e at_none in
      record {
        number_is = sym (ap (λ (x : Outcome). x.number) o);
        parent_is = sym (ap (λ (x : Outcome). x.parent) o);
        stamp_is = sym (ap (λ (x : Outcome). x.stamp) o);
        values_are = sym (ap (λ (x : Outcome). x.values) o);
        after_is = sym (ap (λ (x : Outcome). x.after) o);
        kept = λ z. refl;
      }

  module _ (number : Network → ℕ) (outcome : Network → Outcome) (at_some : (n : Network) → perform (some n) call ≡ judged (number n) (some n) (outcome n)) (w : List ℕ) (net : AtNetwork w) where
    pub refused_on : (r : ℕ) → r ≡ number (network_in w) → (r ≡ 0 → ⊥) → Performed call w w r 0 no_stamp []
    refused_on r e h = performs_refused call number outcome at_some at_none w r (e ∙ sym (number_shaped w number net.formed)) h

    pub accepted_on : (v : List ℕ) (p : ℕ) (t : Stamp) (vs : List ℤ) (after : Network) → number (network_in w) ≡ 0
        → outcome (network_in w) ≡ record { number = 0; parent = p; stamp = t; values = vs; after = some after }
        → in_range v ≡ true → network_in v ≡ after → well_shaped after ≡ true → Performed call w v 0 p t vs
    accepted_on v p t vs after z o ranged is well =
        performs_accepted call number outcome at_some at_none w v p t vs (number_shaped w number net.formed ∙ z)
        (sym (ap (λ (x : Outcome). x.number) o))
        (sym (ap (λ (x : Outcome). x.parent) o))
        (sym (ap (λ (x : Outcome). x.stamp) o))
        (sym (ap (λ (x : Outcome). x.values) o))
        (meaning_some v after ranged is well ∙ sym (ap (λ (x : Outcome). x.after) o))

-- what a comparison by the places of the sites found is the order of the network's timestamps
pub compared : (w places : List ℕ) → PlacesAre w places → {s t : Stamp} {f : Compared} → Compares (rank places) s t f → f.order ≡ order_by (place_of (network_in w).items) s t
unfolding place_of
compared w places are {s = s} {t = t} c = c.order_is ∙ ap (λ (ps : List ℕ). order_by (rank ps) s t) are
