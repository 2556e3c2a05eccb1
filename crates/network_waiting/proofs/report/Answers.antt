-- `report` puts the items in from the last down: those from k on that are waiting stand in order.
use mathlib.Core.Path.{◌≡◌, refl, sym, ap, subst, ◌∙◌}
use mathlib.Core.List.{List}
use Prim.Native.Nat.{ℕ, ◌-◌, ◌≤◌}
use native.Mathlib.Omega.{arith}
use lib.ListN.{length, take}
use lib.Seq.{length-take-le}
use Rattle.limits.specs.Limits.{items_most}
use Rattle.lists.specs.Lists.{padded}
use Rattle.lists.proofs.Filled.{filled_more, filled_padded}
use Rattle.protocol.specs.Waiting.{waiting_items}
use Rattle.network_layout.specs.InWords.{network_in}
use Rattle.network_layout.specs.At.{AtState}
use Rattle.network_layout.proofs.Performs.{items_count}
use Rattle.network_earliest_writes.specs.Noted.{EarliestAre}
use Rattle.network_earliest_writes.proofs.NotedLaws.{writers_are}
use Rattle.network_waiting.proofs.ReportLaws.{few_placed, in_place, placed_next, seeking, all_in_place}
use Rattle.network_waiting.proofs.report.Goals as goal
use Rattle.network_waiting.proofs.report.Goals.{At-loop-k}

-- ---- at the loop
module _ (h : At-loop-k) where
  abbrev w : List ℕ
  w = h.args.state.now

  abbrev placed : ℕ
  placed = h.item_count-k.result

  abbrev writers : List ℕ
  writers = h.earliest_writes-writers.result

  few : placed ≤ items_most
  few = omega (arith, h.item_count-k.ensures, few_placed w h.requires.ranged)

  at : AtState w
  at = record { sized = h.requires.sized; ranged = h.requires.ranged }

  are : EarliestAre (network_in w) h.args.site writers
  are = subst (EarliestAre (network_in w) h.args.site) (sym h.earliest_writes-writers.ensures) (writers_are w at h.args.site)

pub loop-k-init : goal.loop-k-init
loop-k-init c =
    let n = c.item_count-k.result in
    let none : 0 ≡ n - n = omega arith in
    let A = c.args in (
      omega arith,
      omega arith,
      ap (in_place A.state.now c.earliest_writes-writers.result A.site n) none,
      record { fits = omega arith; sized = refl; rest_is = refl },
    )

pub put_item-count-requires : goal.put_item-count-requires
put_item-count-requires c =
    let l = c.loop-k in
    let some = c.loop-k-test.true in
    record {
      asking = record { at = c.requires; earliest_are = are (goal.at.put_item-count-requires c).At-loop-k; few = omega (arith, some, l.invariant.0, few (goal.at.put_item-count-requires c).At-loop-k) };
      places_are = c.places-places.ensures;
      room = omega (arith, some, l.invariant.1, few (goal.at.put_item-count-requires c).At-loop-k, l.invariant.3.sized);
      seeking = λ here. seeking (w (goal.at.put_item-count-requires c).At-loop-k) (writers (goal.at.put_item-count-requires c).At-loop-k) c.args.site (at (goal.at.put_item-count-requires c).At-loop-k) (are (goal.at.put_item-count-requires c).At-loop-k) (take l.count l.items) l.k (placed (goal.at.put_item-count-requires c).At-loop-k - l.k) (l.k - 1) (omega (arith, l.invariant.0, few (goal.at.put_item-count-requires c).At-loop-k)) l.invariant.2 here;
    }

pub loop-k-preserved : goal.loop-k-preserved
loop-k-preserved c =
    let q = c.put_item-count in
    let l = c.loop-k in
    let some = c.loop-k-test.true in
    let e = q.ensures in (
      omega (arith, l.invariant.0),
      omega (arith, some, e.below, l.invariant.1),
      placed_next (w (goal.at.loop-k-preserved c).At-loop-k) (writers (goal.at.loop-k-preserved c).At-loop-k) c.args.site l.k (l.k - 1) (placed (goal.at.loop-k-preserved c).At-loop-k) (omega (arith, some)) l.invariant.0 (take l.count l.items) (take q.result q.new.items) l.invariant.2 e.items_are,
      filled_more 0 items_most l.count q.result l.items q.new.items l.invariant.3 e.above (omega (arith, some, e.below, l.invariant.1, few (goal.at.loop-k-preserved c).At-loop-k)) q.auto.items e.rest_is,
    )

pub returns : goal.returns
returns c =
    let l = c.loop-k in
    let site = c.args.site in
    let n = network_in (w (goal.at.returns c).At-loop-k) in
    let last : l.k ≡ 0 = omega (arith, c.loop-k-test.false) in
    let all : take l.count l.items ≡ waiting_items n site
    = l.invariant.2
    ∙ ap (λ (k : ℕ). in_place (w (goal.at.returns c).At-loop-k) (writers (goal.at.returns c).At-loop-k) site k (placed (goal.at.returns c).At-loop-k - k)) last
    ∙ all_in_place (w (goal.at.returns c).At-loop-k) (writers (goal.at.returns c).At-loop-k) site (at (goal.at.returns c).At-loop-k) (are (goal.at.returns c).At-loop-k) (placed (goal.at.returns c).At-loop-k - 0) (omega (arith, c.item_count-k.ensures, items_count (w (goal.at.returns c).At-loop-k) 0)) (omega (arith, few (goal.at.returns c).At-loop-k)) in
    record {
      count_is = sym (length-take-le l.count l.items (omega (arith, l.invariant.3.fits, l.invariant.3.sized))) ∙ ap length all;
      items_are = filled_padded 0 items_most l.count l.items l.invariant.3 ∙ ap (padded items_most 0) all;
      few = l.invariant.3.fits;
    }
