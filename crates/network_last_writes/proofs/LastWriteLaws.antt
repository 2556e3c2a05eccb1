-- Laws of a table of last writes: none yet, and one record more.
use mathlib.Core.Path.{◌≡◌, refl, sym, ap, subst, ◌∙◌}
use mathlib.Core.Bool.{Bool, true, false, cond, ◌||◌}
use mathlib.Core.List.{List}
use Prim.Native.Nat.{ℕ, ◌+◌, ◌≤◌, ◌<◌}
use native.Mathlib.Omega.{arith}
use lib.ListN.{length, get_or, replicate, length-replicate, get_or-replicate}
use lib.Dec.{leb}
use borrow.Author.Tests.{lt-ltb, le-ltb, leb-true, leb-false}
use Rattle.limits.specs.Limits.{items_most, records_most}
use Rattle.site_operations.specs.Operations.{Op, touches}
use Rattle.site_operations.proofs.ChangedItems.{changed_length, written_changed}
use Rattle.protocol.specs.Network.{Network, nth_record, place_of}
use Rattle.protocol.specs.Collect.{is_past}
use Rattle.protocol.proofs.Places.{times_at}
use Rattle.protocol.proofs.Precedes.{number_of, stamp_of, lower_is}
use Rattle.origins.specs.Statements.{turn_at}
use Rattle.network_noting.specs.Noting.{stamp_at, noted_then, note_ops}
use Rattle.network_noting.proofs.NotingLaws.{noted_then_twice}
use Rattle.network_writers.specs.Writers.{comes_before, later_of, LastSoFar}
use Rattle.network_writers.proofs.WriterLaws.{none_looked_at, passed_over, last_below, taken}
use Rattle.network_last_writes.specs.LastWrites.{is_folded, LastWrites}

pub none_noted : (n : Network) → LastWrites n 0 (replicate items_most records_most)
none_noted n =
    record {
      sized = length-replicate items_most records_most;
      each = λ x few. subst (LastSoFar n (is_folded n x) 0) (sym (get_or-replicate items_most x records_most 0 few)) (none_looked_at n (is_folded n x));
    }

-- ---- one record more
module _ (n : Network) (j : ℕ) (table : List ℕ) (so_far : LastWrites n j table) where
  pub record_stays : is_past n j ≡ false → LastWrites n (j + 1) table
  record_stays stays = record { sized = so_far.sized; each = λ x few. passed_over n (is_folded n x) j (get_or table x 0) (so_far.each x few) (rw stays) }

  module _ (there : j < length n.history) (few-made : length n.history ≤ records_most) where
    open times_at n use {upto_turned}

    abbrev noting : ℕ → ℕ
    noting b = noted_then true n b j

    abbrev ops : List Op
    ops = (nth_record n j).ops

    -- the record noted stands below it, so that the later of the two is the last in turn
    last_noted : (x b : ℕ) → LastSoFar n (is_folded n x) j b → later_of n b j ≡ noting b
    last_noted x b best = go (leb records_most b) refl
      where
        go : (c : Bool) → leb records_most b ≡ c → cond (c || comes_before n b j) j b ≡ noting b
        go true e = rw (le-ltb b (length n.history) (omega (arith, leb-true records_most b e)))
        go false e =
            let below : b < j = (last_below n (is_folded n x) j b best (leb-false records_most b e)).low in
            rw (lt-ltb b (length n.history) (omega (arith, below)))
            (ap (λ (c : Bool). cond c j b) (lower_is (place_of n.items) number_of stamp_of (turn_at n.history b) (turn_at n.history j) below ∙ sym (upto_turned (stamp_at n b) (stamp_at n j))))

    pub record_goes : is_past n j ≡ true → LastWrites n (j + 1) (note_ops true n j table ops)
    record_goes goes =
        record {
          sized = changed_length noting table ops ∙ so_far.sized;
          each = λ x few. subst (LastSoFar n (is_folded n x) (j + 1)) (sym (written_changed noting x few (noted_then_twice true n j) table ops (omega (arith, so_far.sized)))) (go x few (touches x ops) refl);
        }
      where
        go : (x : ℕ) → x < items_most → (t : Bool) → touches x ops ≡ t → LastSoFar n (is_folded n x) (j + 1) (cond t (noting (get_or table x 0)) (get_or table x 0))
        go x few true e =
            let best = so_far.each x few in
            subst (LastSoFar n (is_folded n x) (j + 1)) (last_noted x (get_or table x 0) best) (taken n (is_folded n x) j (get_or table x 0) best (rw (goes, e)) (omega arith))
        go x few false e = passed_over n (is_folded n x) j (get_or table x 0) (so_far.each x few) (rw (goes, e))
