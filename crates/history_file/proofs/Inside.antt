-- The tuples of an accepted file name sites of its group.
use mathlib.Core.Path.{◌≡◌, refl, ap}
use mathlib.Core.Bool.{Bool, true, false, not}
use mathlib.Core.List.{List}
use Prim.Native.Nat.{ℕ, zero, suc, ◌<◌}
use native.Mathlib.Omega.{arith}
use lib.ListN.{drop}
use lib.Dec.{ltb}
use borrow.Author.Tests.{ltb-true, ltb-false}
use Rattle.lists.specs.Lists.{every}
use Rattle.lists.proofs.Every.{and_true}
use Rattle.timestamp_order.specs.Timestamp.{Pair}
use Rattle.timestamp_order.specs.Order.{rank}
use Rattle.timestamp_order.proofs.Made.{made_inside}
use Rattle.place_table.proofs.Ranks.{rank_past}
use Rattle.records.specs.Records.{Record}
use Rattle.protocol.proofs.WellShaped.{record_parts}
use Rattle.history_file.specs.File.{is_numbers}
use Rattle.history_file.specs.Reading.{record_read, size_read, record_valid, records_read, records_fill, count_read, sites_read, items_read, has_table, places_read, part_read, holds_each, table_fits, file_number, history_read}
use Rattle.history_file.proofs.Tables.{rank_numbers, read_few, rank_low}
use Rattle.history_file.proofs.Validity.{valid_parts}
use Rattle.history_file.proofs.Files.{accepted, good_parts, history_read_lem}

-- ---- where only sites of the group stand before one of them
module _ (place : ℕ → ℕ) (sites : ℕ) (before : (k j : ℕ) → j < sites → place k < place j → k < sites) where
  abbrev in_group : Record → Bool
  in_group r = every (λ (p : Pair). ltb p.site sites) r.stamp.tuples

  module _ (items : ℕ) where
    record_in_lem : (b : List ℕ) → record_valid place sites items b ≡ true → in_group (record_read b) ≡ true
    record_in_lem b v =
        let r = record_read b in
        let shape = record_parts place sites items r (valid_parts place sites items b v).fits in
        made_inside place sites before r.site r.stamp shape.made shape.at

    records_in : (n : ℕ) (b : List ℕ) → records_fill place sites items n b ≡ true → every in_group (records_read n b) ≡ true
    unfolding records_fill records_read
    records_in zero b e = refl
    records_in (suc n) b e =
        let rest = drop (size_read b) b in
        let p = and_true (record_valid place sites items b) (records_fill place sites items n rest) e in
        rw (record_in_lem b p.0) (records_in n rest p.1)

-- ---- the places of an accepted file
module _ (b : List ℕ) (e : file_number b ≡ 0) where
  table_holds : has_table b ≡ true → holds_each (places_read b) ≡ true
  unfolding table_fits
  table_holds t = (and_true (holds_each (places_read b)) (not (is_numbers (places_read b))) (rw t at (good_parts b (accepted b e)).table_fits_lem)).0

  place_low : (j : ℕ) → j < sites_read b → rank (places_read b) j < sites_read b
  unfolding places_read
  place_low j h = go (has_table b) refl
    where
      go : (t : Bool) → has_table b ≡ t → rank (places_read b) j < sites_read b
      go true t = rank_low (places_read b) (sites_read b) (read_few b) (table_holds t) j h
      go false t = rw t (omega (arith, ap (λ (place : ℕ → ℕ). place j) (rank_numbers (sites_read b))))

  only_before : (k j : ℕ) → j < sites_read b → rank (places_read b) k < rank (places_read b) j → k < sites_read b
  only_before k j h low = go (ltb k (sites_read b)) refl
    where
      go : (t : Bool) → ltb k (sites_read b) ≡ t → k < sites_read b
      go true t = ltb-true k (sites_read b) t
      go false t =
          let past = ltb-false k (sites_read b) t in
          absurd (omega (arith, rank_past (places_read b) k (omega (arith, read_few b)), place_low j h))

  pub tuples_inside : every (λ (r : Record). every (λ (p : Pair). ltb p.site (sites_read b)) r.stamp.tuples) (history_read b).records ≡ true
  tuples_inside =
      rw (history_read_lem b e) (records_in (rank (places_read b)) (sites_read b) only_before (items_read b) (count_read b) (part_read b) (good_parts b (accepted b e)).fills)
