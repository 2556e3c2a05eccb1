-- The records that stay in the words of a state: the network that they mean, and what is said of those that go.
use mathlib.Core.Path.{◌≡◌, refl, sym, ap, ap₂, ◌∙◌}
use mathlib.Core.Bool.{Bool, true, false, ◌||◌, or-true, or-false}
use mathlib.Core.List.{List, map}
use Prim.Native.Nat.{ℕ, ◌-◌, ◌≤◌}
use native.Mathlib.Omega.{arith}
use lib.ListN.{length, set, length-set}
use lib.Dec.{ltb}
use borrow.Author.Tests.{lt-ltb, le-ltb, ltb-true, ltb-false}
use Rattle.limits.specs.Limits.{records_most}
use Rattle.lists.specs.Lists.{every, keep_from, some_below, count_below}
use Rattle.lists.proofs.Renumber.{count_most, count_both, count_some, keep_map, keep_every}
use Rattle.words.specs.Words.{part, put, chunks}
use Rattle.words.proofs.Parts.{put_length}
use Rattle.records.specs.InWords.{record_in, record_range, record_size}
use Rattle.record_names.specs.Names.{stays}
use Rattle.record_removal.specs.Removal.{Bank, Removal}
use Rattle.protocol.specs.Network.{Network}
use Rattle.network_layout.specs.Layout.{record_count, history_at, history_size, base_at}
use Rattle.network_layout.specs.InWords.{network_in, in_range, with_history}
use Rattle.network_layout.specs.At.{AtState}
use Rattle.network_layout.proofs.Assembled.{parts_of, range_parts, kept_size, history_put, history_range, flag_set, flag_range}
use Rattle.network_layout.proofs.Performs.{records_count}
use Rattle.network_removal.specs.Removed.{goes_by, flagged, FlagStep, RemovalStep}

module _ (w : List ℕ) (at : AtState w) (made : ℕ) (made_is : made ≡ record_count w) where
  few : made ≤ records_most
  unfolding parts_of
  few = omega (arith, (range_parts w at.ranged).few_records)

  pub bank : Bank (part w history_at history_size) made
  bank = record { sized = kept_size w at.sized; few = few }

  module _ (names ys : List ℕ) (kept : ℕ) (s : Removal names made (part w history_at history_size) ys kept) where
    fits : length ys ≡ history_size
    fits = s.sized ∙ kept_size w at.sized

    pub kept_few : kept ≤ made
    kept_few = omega (arith, s.count, count_most (stays names) made)

    history_is : map record_in (chunks record_size kept ys) ≡ keep_from (stays names) 0 (network_in w).history
    unfolding network_in
    history_is =
        let bank-words = part w history_at history_size in
        ap (map record_in) s.are
        ∙ keep_map record_in (stays names) 0 (chunks record_size made bank-words)
        ∙ ap (λ (k : ℕ). keep_from (stays names) 0 (map record_in (chunks record_size k bank-words))) made_is

    in_range_lem : every record_range (chunks record_size kept ys) ≡ true
    unfolding parts_of
    in_range_lem =
        let bank-words = part w history_at history_size in
        ap (every record_range) s.are
        ∙ keep_every record_range (stays names) 0 (chunks record_size made bank-words) (ap (λ (k : ℕ). every record_range (chunks record_size k bank-words)) made_is ∙ (range_parts w at.ranged).record_ranges)

    -- how many go, and whether some do
    gone_count : made - kept ≡ count_below (goes_by names) (length (network_in w).history)
    gone_count = omega (arith, s.count, count_both (stays names) made, ap (count_below (goes_by names)) (made_is ∙ sym (records_count w)))

    some_gone_lem : ltb kept made ≡ some_below (goes_by names) (length (network_in w).history)
    some_gone_lem = go (ltb kept made) refl ∙ ap (ltb 0) gone_count ∙ count_some (goes_by names) (length (network_in w).history)
      where
        go : (b : Bool) → ltb kept made ≡ b → ltb kept made ≡ ltb 0 (made - kept)
        go true e = e ∙ sym (lt-ltb 0 (made - kept) (omega (arith, ltb-true kept made e)))
        go false e = e ∙ sym (le-ltb 0 (made - kept) (omega (arith, ltb-false kept made e)))

    module _ (x : List ℕ) (is : x ≡ set (put w history_at history_size ys) 2 kept) where
      counted : network_in x ≡ with_history (network_in w) (keep_from (stays names) 0 (network_in w).history)
      counted = ap network_in is ∙ history_put w at.sized kept (omega (arith, kept_few, few)) ys fits ∙ ap (with_history (network_in w)) history_is

      pub counted_state : AtState x
      counted_state =
          record {
            sized = ap length is ∙ length-set (put w history_at history_size ys) 2 kept ∙ put_length w history_at history_size ys (omega (arith, at.sized)) fits ∙ at.sized;
            ranged = ap in_range is ∙ history_range w at.sized kept (omega (arith, kept_few, few)) ys fits at.ranged in_range_lem;
          }

      pub removed_by_lem : (v : List ℕ) → FlagStep x v (ltb kept made) → RemovalStep names w v (made - kept)
      removed_by_lem v flag =
          record {
            meant = flag.meant ∙ ap₂ (λ (n : Network) (b : Bool). flagged n (n.base.folded || b)) counted some_gone_lem;
            ranged = flag.ranged;
            count = gone_count;
          }

-- ---- the flag
module _ (w : List ℕ) (at : AtState w) where
  pub flag_stays : FlagStep w w false
  flag_stays = record { meant = ap (flagged (network_in w)) (sym (or-false (network_in w).base.folded)); ranged = at.ranged }

  pub flag_stored : (v : List ℕ) → v ≡ set w base_at 1 → FlagStep w v true
  flag_stored v is =
      record {
        meant = ap network_in is ∙ flag_set w at.sized 1 ∙ ap (flagged (network_in w)) (sym (or-true (network_in w).base.folded));
        ranged = ap in_range is ∙ flag_range w at.sized 1 at.ranged;
      }
