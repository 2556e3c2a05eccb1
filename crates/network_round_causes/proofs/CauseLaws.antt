-- A round's number, cause by cause, and the greatest epoch by a walk.
use mathlib.Core.Path.{◌≡◌, sym, ap, ◌∙◌}
use mathlib.Core.Bool.{Bool, true, false}
use mathlib.Core.List.{List, [], ◌∷◌}
use Prim.Native.Nat.{ℕ, suc, ◌+◌, ◌≤◌, ◌<◌, max}
use native.Mathlib.Omega.{arith}
use native.Mathlib.Numerals.{add-one}
use lib.ListN.{length, get_or, drop, drop_of_length-le}
use lib.Seq.{drop-cons}
use lib.Dec.{leb}
use borrow.Author.Tests.{le-leb, lt-leb, leb-false}
use Rattle.limits.specs.Limits.{held_most}
use Rattle.lists.specs.Lists.{any, some_below}
use Rattle.lists.specs.Numbers.{number_if}
use Rattle.lists.proofs.Numbers.{none_holds}
use Rattle.timestamp_order.specs.Timestamp.{Stamp, greatest}
use Rattle.lines.specs.Lines.{Line}
use Rattle.protocol.specs.Network.{Network, no_stamp, site_stamps}
use Rattle.protocol.specs.Steps.{count_at_most}
use Rattle.protocol.specs.Round.{greatest_epoch, round_number}

-- ---- the number
module _ (n : Network) where
  abbrev some_full : Bool
  some_full = any (λ (l : Line). leb held_most (length l.messages)) n.lines

  abbrev some_at_most : Bool
  some_at_most = some_below (count_at_most n) (length n.sites)

  pub line_full : some_full ≡ true → round_number n ≡ 13
  unfolding round_number
  line_full a = rw a

  module _ (a : some_full ≡ false) where
    pub count_at_most_lem : some_at_most ≡ true → round_number n ≡ 14
    unfolding round_number
    count_at_most_lem b = rw (a, b)

    module _ (b : some_at_most ≡ false) where
      pub epoch_at_most : greatest ≤ greatest_epoch (site_stamps n) → round_number n ≡ 16
      unfolding round_number
      epoch_at_most h = rw (a, b, le-leb greatest (greatest_epoch (site_stamps n)) h)

      pub no_cause : greatest_epoch (site_stamps n) < greatest → round_number n ≡ 0
      unfolding round_number
      no_cause h = rw (a, b, lt-leb greatest (greatest_epoch (site_stamps n)) h)

  -- where no cause holds, one more than the greatest epoch fits
  pub epoch_room : round_number n ≡ 0 → greatest_epoch (site_stamps n) < greatest
  unfolding round_number
  epoch_room z =
      let late = leb greatest (greatest_epoch (site_stamps n)) in
      let a = none_holds some_full 12 (number_if some_at_most 14 ∷ (number_if late 16 ∷ [])) z in
      let b = none_holds some_at_most 13 (number_if late 16 ∷ []) a.1 in
      leb-false greatest (greatest_epoch (site_stamps n)) (none_holds late 15 [] b.1).0

-- ---- the greatest epoch: those from i on are left
module _ (ts : List Stamp) (i most : ℕ) (e : greatest_epoch ts ≡ max most (greatest_epoch (drop i ts))) where
  pub epoch_next : (k : ℕ) → i < length ts → k ≡ max most (get_or ts i no_stamp).epoch → greatest_epoch ts ≡ max k (greatest_epoch (drop (i + 1) ts))
  epoch_next k h is =
      let rest = greatest_epoch (drop (suc i) ts) in
      let here : greatest_epoch (drop i ts) ≡ max (get_or ts i no_stamp).epoch rest = ap greatest_epoch (drop-cons ts i no_stamp h) in
      let same : greatest_epoch ts ≡ max k rest = omega (arith, e, here, is) in
      same ∙ ap (λ (j : ℕ). max k (greatest_epoch (drop j ts))) (sym (add-one i))

  pub epoch_done : length ts ≤ i → most ≡ greatest_epoch ts
  epoch_done h = let none : greatest_epoch (drop i ts) ≡ 0 = ap greatest_epoch (drop_of_length-le ts {i = i} h) in omega (arith, e, none)
