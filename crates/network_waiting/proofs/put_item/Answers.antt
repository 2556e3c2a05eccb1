-- `put_item` leaves an item out, or inserts it where it has its place.
use mathlib.Core.Path.{◌≡◌, sym, ap, subst, ◌∙◌}
use mathlib.Core.Bool.{true}
use mathlib.Core.List.{List}
use Prim.Native.Nat.{ℕ, ◌+◌, ◌-◌}
use native.Mathlib.Omega.{arith}
use lib.ListN.{take}
use borrow.Author.Tests.{not-true, not-false}
use Rattle.lists.specs.Sorting.{place_in}
use Rattle.protocol.specs.Waiting.{is_waiting}
use Rattle.network_layout.specs.InWords.{network_in}
use Rattle.network_waiting.specs.Places.{earliest_before, Seeking}
use Rattle.network_waiting.proofs.ReportLaws.{not_put, put_in, waiting_written}
use Rattle.network_waiting.proofs.put_item.Goals as goal
use Rattle.network_waiting.proofs.put_item.Goals.{Else-not-is_waiting}

-- ---- where the item is waiting
module _ (c : Else-not-is_waiting) where
  abbrev w : List ℕ
  w = c.args.state.now

  abbrev writers : List ℕ
  writers = c.args.writers.now

  waits : is_waiting (network_in w) c.args.site c.args.k ≡ true
  waits = sym c.is_waiting.ensures ∙ not-false c.is_waiting.result c.if-not-is_waiting.false-raw

  seeks : Seeking (take c.args.count c.args.items.now) w writers c.args.k
  seeks =
      let P = c.requires in
      P.seeking (waiting_written w writers c.args.site (record { sized = P.asking.at.sized; ranged = P.asking.at.ranged }) P.asking.earliest_are c.args.k P.asking.few waits)

  -- the used words, as they are lent
  lent_used : c.args.count ≡ c.args.count - 0
  lent_used = omega arith

pub returns-then-not-is_waiting : goal.returns-then-not-is_waiting
returns-then-not-is_waiting c =
    let A = c.args in
    let asked = c.is_waiting in
    not_put A.state.now A.writers.now A.site A.k A.count A.items.now (sym asked.ensures ∙ not-true asked.result c.if-not-is_waiting.true-raw)

pub place_in-at-requires : goal.place_in-at-requires
place_in-at-requires c =
    record {
      seeking = subst (λ (m : ℕ). Seeking (take m c.args.items.now) (w (goal.at.place_in-at-requires c).Else-not-is_waiting) (writers (goal.at.place_in-at-requires c).Else-not-is_waiting) c.args.k) (lent_used (goal.at.place_in-at-requires c).Else-not-is_waiting) (seeks (goal.at.place_in-at-requires c).Else-not-is_waiting);
      places_are = c.requires.places_are;
    }

pub returns : goal.returns
returns c =
    let A = c.args in
    let found : c.place_in-at.result ≡ place_in (earliest_before (w (goal.at.returns c).Else-not-is_waiting) (writers (goal.at.returns c).Else-not-is_waiting)) A.k (take A.count A.items.now)
    = c.place_in-at.ensures ∙ ap (λ (m : ℕ). place_in (earliest_before (w (goal.at.returns c).Else-not-is_waiting) (writers (goal.at.returns c).Else-not-is_waiting)) A.k (take m A.items.now)) (sym (lent_used (goal.at.returns c).Else-not-is_waiting)) in
    put_in (w (goal.at.returns c).Else-not-is_waiting) (writers (goal.at.returns c).Else-not-is_waiting) A.site A.k A.count A.items.now c.requires.room (waits (goal.at.returns c).Else-not-is_waiting) (A.count + 1 - 0) (omega arith) c.place_in-at.result found _ c.insert.ensures
