-- `some_gone` goes over the lines and leaves at the first with a message that names a commit that goes.
use mathlib.Core.Path.{refl, sym, ◌∙◌}
use mathlib.Core.List.{List}
use Prim.Native.Nat.{◌-◌}
use native.Mathlib.Omega.{arith}
use Rattle.lists.proofs.Some.{some_true, some_next, some_done}
use Rattle.lines.specs.Lines.{Line, no_line}
use Rattle.network_layout.specs.InWords.{network_in}
use Rattle.network_layout.proofs.Performs.{lines_count}
use Rattle.network_renaming.specs.Renamed.{line_gone}
use Rattle.network_renaming.proofs.some_gone.Goals as goal
use Rattle.network_renaming.proofs.some_gone.Goals.{At-loop-k}

pub loop-k-init : goal.loop-k-init
loop-k-init c = refl

pub line_gone-requires : goal.line_gone-requires
line_gone-requires c = record { sized = c.requires.sized; few = omega (arith, c.loop-k-test.true) }

-- at the loop
module _ (h : At-loop-k) where
  abbrev lines : List Line
  lines = (network_in h.args.state.now).lines

pub returns-then-line_gone : goal.returns-then-line_gone
returns-then-line_gone c =
    let A = c.args in
    sym (some_true (line_gone A.names.now) (lines (goal.at.returns-then-line_gone c).At-loop-k) c.loop-k.k no_line c.loop-k.invariant (omega (arith, lines_count A.state.now, c.loop-k-test.true)) (sym c.line_gone.ensures ∙ c.if-line_gone.true))

pub loop-k-preserved : goal.loop-k-preserved
loop-k-preserved c =
    let A = c.args in
    some_next (line_gone A.names.now) (lines (goal.at.loop-k-preserved c).At-loop-k) c.loop-k.k no_line c.loop-k.invariant (omega (arith, lines_count A.state.now, c.loop-k-test.true)) (sym c.line_gone.ensures ∙ c.if-line_gone.false)

pub returns : goal.returns
returns c =
    let A = c.args in
    sym (some_done (line_gone A.names.now) (lines (goal.at.returns c).At-loop-k) c.loop-k.k no_line c.loop-k.invariant (omega (arith, lines_count A.state.now, c.loop-k-test.false)))
