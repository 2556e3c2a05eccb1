-- `place_in` halves the places until one is left.
use native.Mathlib.Omega.{arith}
use Rattle.network_waiting.proofs.ReportLaws.{place_left}
use Rattle.network_waiting.proofs.place_in.Goals as goal

pub loop-range-init : goal.loop-range-init
loop-range-init c = record { rising = omega arith; within = omega arith; behind = λ a l. absurd (omega arith); before = λ a h l. absurd (omega arith) }

pub narrow-range-requires : goal.narrow-range-requires
narrow-range-requires c = record { placing = c.requires; between = c.loop-range.invariant; some = c.loop-range-test.true }

pub loop-range-smaller : goal.loop-range-smaller
loop-range-smaller c = c.narrow-range.ensures.fewer

pub loop-range-preserved : goal.loop-range-preserved
loop-range-preserved c = c.narrow-range.ensures.between

pub returns : goal.returns
returns c =
    let l = c.loop-range in
    place_left c.args.state.now c.args.writers.now c.args.items.now c.args.k c.requires.seeking l.range.low l.range.high l.invariant c.loop-range-test.false
