-- The read that is looked for; the last in turn of the records that pass a test, among one record more.
use mathlib.Core.Path.{◌≡◌, refl, sym, ap, ◌∙◌, subst}
use mathlib.Core.Bool.{Bool, true, false, cond, true≢false, ◌||◌}
use mathlib.Core.List.{List}
use mathlib.Core.Option.{Option, none, some}
use Prim.Native.Nat.{ℕ, suc, ◌+◌, ◌≤◌, ◌<◌}
use native.Mathlib.Omega.{arith}
use native.Mathlib.Numerals.{add-one}
use lib.ListN.{length, get_or}
use lib.Dec.{leb}
use borrow.Author.Tests.{lt-ltb, le-ltb, le-leb, lt-leb, leb-true, leb-false}
use Rattle.std.specs.Prelude.{not, Ok, Err}
use Rattle.causes.specs.declared.Refusal.TheVariants.{NoSuchRead}
use Rattle.limits.specs.Limits.{records_most}
use Rattle.site_operations.specs.Operations.{Op, no_op, reads}
use Rattle.site_operations.specs.InWords.{op_at as op_in, OpsLaid}
use Rattle.site_operations.proofs.Laws.{ops_at}
use Rattle.protocol.specs.Network.{Network, nth_record, place_of}
use Rattle.protocol.specs.Questions.{nth_op, no_such_read}
use Rattle.origins.specs.Statements.{LastBelow, FoundBelow}
use Rattle.origins.proofs.Found.{none_yet, found_first, found_later, found_kept, found_skip}
use Rattle.network_layout.specs.At.{HasRecord}
use Rattle.network_writers.specs.Writers.{sought, comes_before, writer_of, later_of, LastSoFar}

-- ---- the read that is looked for
module _ (n : Network) (k a : ℕ) where
  pub no_commit : length n.history ≤ k → no_such_read n k a ≡ true
  no_commit h = rw (le-leb (length n.history) k h)

  module _ (there : k < length n.history) where
    pub no_operation : length (nth_record n k).ops ≤ a → no_such_read n k a ≡ true
    no_operation h = rw (lt-leb (length n.history) k there, le-leb (length (nth_record n k).ops) a h)

    pub by_kind : (b : Bool) → a < length (nth_record n k).ops → reads (nth_op n k a) ≡ b → no_such_read n k a ≡ not b
    by_kind true h e = rw (lt-leb (length n.history) k there, lt-leb (length (nth_record n k).ops) a h, e)
    by_kind false h e = rw (lt-leb (length n.history) k there, lt-leb (length (nth_record n k).ops) a h, e)

  -- the operation in the words that were laid
  pub operation_is : (w : List ℕ) → a < length (nth_record n k).ops → OpsLaid (length (nth_record n k).ops) (nth_record n k).ops w → op_in w a ≡ nth_op n k a
  operation_is w h l = sym (ops_at (length (nth_record n k).ops) w a h) ∙ ap (λ (os : List Op). get_or os a no_op) l.ops_are

  pub not_found : no_such_read n k a ≡ true → Err NoSuchRead ≡ sought n k a
  not_found e = ap (λ (b : Bool). cond b (Err NoSuchRead) (Ok (nth_op n k a).item)) (sym e)

  pub found_read : (x : ℕ) → x ≡ (nth_op n k a).item → no_such_read n k a ≡ false → Ok x ≡ sought n k a
  found_read x same e = ap Ok same ∙ ap (λ (b : Bool). cond b (Err NoSuchRead) (Ok (nth_op n k a).item)) (sym e)

-- ---- a record's number, or one that no record has
pub writer_named : (b : ℕ) → b < records_most → writer_of b ≡ some b
writer_named b low = rw (lt-ltb b records_most low)

pub writer_none : (b : ℕ) → records_most ≤ b → writer_of b ≡ none
writer_none b high = rw (le-ltb b records_most high)

-- ---- one record more is looked at
module _ (n : Network) (passes : ℕ → Bool) where
  abbrev place : ℕ → ℕ
  place = place_of n.items

  abbrev Found : ℕ → Option ℕ → Type 0
  Found j o = FoundBelow place n.history passes j o

  pub none_looked_at : LastSoFar n passes 0 records_most
  none_looked_at = record { found = none_yet place n.history passes; few = omega arith }

  module _ (j b : ℕ) (so_far : LastSoFar n passes j b) where
    next : (c : ℕ) (o : Option ℕ) → c ≤ records_most → writer_of c ≡ o → Found (suc j) o → LastSoFar n passes (j + 1) c
    next c o few e f = record { found = rw (add-one j) (subst (Found (suc j)) (sym e) f); few = few }

    pub passed_over : passes j ≡ false → LastSoFar n passes (j + 1) b
    passed_over e = next b (writer_of b) so_far.few refl (found_skip place n.history passes j (λ w. true≢false (sym w ∙ e)) (writer_of b) so_far.found)

    -- the best so far, where there is one
    pub last_below : b < records_most → LastBelow place n.history passes j b
    last_below low = subst (Found j) (writer_named b low) so_far.found

    pub best_there : (w : List ℕ) → HasRecord w j → b < records_most → HasRecord w b
    best_there w next low = let below : b < j = (last_below low).low in record { sized = next.sized; there = omega (arith, next.there); few = low }

    -- record j passes: the last in turn of the two
    pub taken : passes j ≡ true → j < records_most → LastSoFar n passes (j + 1) (later_of n b j)
    taken one few = go (leb records_most b) refl (comes_before n b j) refl
      where
        go : (c : Bool) → leb records_most b ≡ c → (d : Bool) → comes_before n b j ≡ d → LastSoFar n passes (j + 1) (cond (c || d) j b)
        go true e d f =
            next j (some j) (omega arith) (writer_named j few) (found_first place n.history passes j one (subst (Found j) (writer_none b (leb-true records_most b e)) so_far.found))
        go false e true f = next j (some j) (omega arith) (writer_named j few) (found_later place n.history passes j b one (last_below (leb-false records_most b e)) f)
        go false e false f =
            let low : b < records_most = leb-false records_most b e in
            next b (some b) so_far.few (writer_named b low) (found_kept place n.history passes j b one (last_below low) f)
