-- The waiting report: each item that is waiting once, in order, and no other list is so; and the earliest write of each.
use mathlib.Core.Path.{◌≡◌, sym, ap, ◌∙◌}
use mathlib.Core.Bool.{true, false}
use mathlib.Core.List.{List}
use Prim.Native.Nat.{ℕ, ◌%◌, ◌^◌, ◌≤◌, ◌<◌}
use native.Mathlib.Omega.{arith}
use native.Mathlib.Nat.{zero-div}
use lib.ListN.{length, get_or-eq_default, length-map}
use lib.Dec.{eqb}
use Rattle.lists.specs.Lists.{any, keep, up_to}
use Rattle.lists.proofs.Chains.{Chain, chain_at, chain_by, chain_keep, chain_implied, numbers_rise}
use Rattle.lists.proofs.Every.{and_true}
use Rattle.lists.proofs.Some.{some_kept}
use Rattle.lists.proofs.Occurrences.{occurrences_sorted, once_kept, same_order}
use Rattle.placement.specs.Masks.{bit}
use Rattle.placement.specs.Placement.{Item, no_item, copies}
use Rattle.protocol.specs.Network.{Network, message_stamp}
use Rattle.protocol.specs.Precedes.{precedes_by}
use Rattle.protocol.specs.Waiting.{into, carries, is_waiting, earliest_write, write_stamps, waiting_items, EachOnce, ReportIs, EarliestWriteIs}
use Rattle.protocol.proofs.Places.{place_at}
use Rattle.protocol.proofs.Earliest.{earliest_is}
use Rattle.protocol.proofs.Precedes.{precedes_one_way, sorted_precede}

module _ (n : Network) (i : ℕ) where
  -- ---- the report
  abbrev Precedes : ℕ → ℕ → Type 0
  Precedes j k = precedes_by (place_at n) j (earliest_write n i j) k (earliest_write n i k) ≡ true

  abbrev numbers : List ℕ
  numbers = up_to 0 (length n.items)

  report_chain : Chain Precedes (waiting_items n i)
  unfolding waiting_items
  report_chain =
      sorted_precede (place_at n) (λ (k : ℕ). k) (earliest_write n i) (keep (is_waiting n i) numbers)
      (chain_keep (is_waiting n i) (λ j k. j < k) numbers (chain_implied (λ j k. j < k) _ (λ j k l _ _. l) numbers (numbers_rise 0 (length n.items))))

  -- an item that is not there has no copy
  past : (k : ℕ) → length n.items ≤ k → is_waiting n i k ≡ false
  unfolding is_waiting
  past k h =
      let none : copies n.items i k ≡ false
      = ap (λ (x : Item). bit x.mask i) (get_or-eq_default n.items no_item {n = k} h) ∙ ap (λ (q : ℕ). eqb (q % 2) 1) (zero-div (2 ^ i)) in
      rw none

  report_once : EachOnce n i (waiting_items n i)
  unfolding waiting_items
  report_once k =
      occurrences_sorted _ k (keep (is_waiting n i) numbers)
      ∙ once_kept (is_waiting n i) k 0 (length n.items) (omega arith) (λ l. past k (omega (arith, l)))

  pub report_is : ReportIs n i
  report_is =
      record {
        each_once = report_once;
        in_order = chain_at Precedes (waiting_items n i) 0 report_chain;
        alone = λ xs once order. same_order Precedes (λ j k. precedes_one_way (place_at n) (λ (k : ℕ). k) (earliest_write n i) j k)
            xs (waiting_items n i) (chain_by Precedes xs 0 order) report_chain (λ k. once k ∙ sym (report_once k));
      }

  -- ---- the earliest write of an item
  module _ (k : ℕ) where
    some_write : is_waiting n i k ≡ true → 0 < length (write_stamps n i k)
    unfolding is_waiting
    some_write waiting =
        let written : any (carries n k) (into n i) ≡ true = (and_true (copies n.items i k) (any (carries n k) (into n i)) waiting).1 in
        omega (arith, length-map (keep (carries n k) (into n i)) (message_stamp n.history), some_kept (carries n k) (into n i) written)

    pub earliest_write_is : EarliestWriteIs n i k
    unfolding earliest_write
    earliest_write_is = let known = earliest_is (place_at n) (write_stamps n i k) in record { is = λ waiting. known.is (some_write waiting); alone = known.alone }
