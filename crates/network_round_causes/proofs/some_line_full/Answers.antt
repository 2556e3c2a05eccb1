-- `some_line_full` goes over the lines and leaves at the first that has no room.
use mathlib.Core.Path.{refl, sym, ◌∙◌}
use mathlib.Core.List.{List}
use Prim.Native.Nat.{◌-◌}
use native.Mathlib.Omega.{arith}
use Rattle.lists.proofs.Some.{some_true, some_next, some_done}
use Rattle.lines.specs.Lines.{Line, no_line}
use Rattle.network_layout.specs.InWords.{network_in}
use Rattle.network_layout.proofs.Performs.{lines_count}
use Rattle.network_round_causes.proofs.some_line_full.Invariants.{full}
use Rattle.network_round_causes.proofs.some_line_full.Goals as goal

pub loop-k-init : goal.loop-k-init
loop-k-init c = refl

pub is_full-requires : goal.is_full-requires
is_full-requires c = record { sized = c.requires.sized; few = omega (arith, c.loop-k-test.true) }

pub returns-then-is_full : goal.returns-then-is_full
returns-then-is_full c =
    let lines : List Line = (network_in c.args.state.now).lines in
    sym (some_true full lines c.loop-k.k no_line c.loop-k.invariant (omega (arith, lines_count c.args.state.now, c.loop-k-test.true)) (sym c.is_full.ensures ∙ c.if-is_full.true))

pub loop-k-preserved : goal.loop-k-preserved
loop-k-preserved c =
    let lines : List Line = (network_in c.args.state.now).lines in
    some_next full lines c.loop-k.k no_line c.loop-k.invariant (omega (arith, lines_count c.args.state.now, c.loop-k-test.true)) (sym c.is_full.ensures ∙ c.if-is_full.false)

pub returns : goal.returns
returns c =
    let lines : List Line = (network_in c.args.state.now).lines in
    sym (some_done full lines c.loop-k.k no_line c.loop-k.invariant (omega (arith, lines_count c.args.state.now, c.loop-k-test.false)))
