-- `narrow` compares the item with the one in the middle.
use mathlib.Core.Path.{sym, ◌∙◌}
use Prim.Native.Nat.{ℕ, ◌+◌, ◌-◌, ◌/◌, ◌≤◌, ◌<◌}
use native.Mathlib.Omega.{arith}
use Rattle.network_waiting.proofs.ReportLaws.{lower_half, upper_half}
use Rattle.network_waiting.proofs.narrow.Goals as goal
use Rattle.network_waiting.proofs.narrow.Goals.{Start}

-- ---- the middle
module _ (s : Start) where
  abbrev low : ℕ
  low = s.args.range.low

  abbrev high : ℕ
  high = s.args.range.high

  abbrev middle : ℕ
  middle = low + (high - low) / 2

  from : low ≤ middle
  from = omega arith

  to : middle < high
  to = omega (arith, s.requires.some)

pub earliest_before-requires : goal.earliest_before-requires
earliest_before-requires c =
    let P = c.requires in
    record {
      first = P.placing.seeking.item;
      second = P.placing.seeking.written (middle (goal.at.earliest_before-requires c).Start) (omega (arith, to (goal.at.earliest_before-requires c).Start, P.between.within));
      places_are = P.placing.places_are;
    }

pub returns-then-earliest_before : goal.returns-then-earliest_before
returns-then-earliest_before c =
    let A = c.args in
    lower_half A.state.now A.writers.now A.items.now A.k c.requires.placing.seeking (low (goal.at.returns-then-earliest_before c).Start) (high (goal.at.returns-then-earliest_before c).Start) c.requires.between (middle (goal.at.returns-then-earliest_before c).Start) (from (goal.at.returns-then-earliest_before c).Start) (to (goal.at.returns-then-earliest_before c).Start) (sym c.earliest_before.ensures ∙ c.if-earliest_before.true)

pub returns : goal.returns
returns c =
    let A = c.args in
    upper_half A.state.now A.writers.now A.items.now A.k c.requires.placing.seeking (low (goal.at.returns c).Start) (high (goal.at.returns c).Start) c.requires.between (middle (goal.at.returns c).Start) (from (goal.at.returns c).Start) (to (goal.at.returns c).Start) (sym c.earliest_before.ensures ∙ c.if-earliest_before.false)
