-- `rename` goes over the lines: those before line k have been renamed.
use mathlib.Core.Path.{sym, ◌∙◌}
use Prim.Native.Nat.{◌-◌}
use Rattle.network_renaming.proofs.RenamedLaws.{lines_none, line_next, lines_next, lines_all}
use Rattle.network_renaming.proofs.rename.Goals as goal

pub loop-k-init : goal.loop-k-init
loop-k-init c = lines_none c.args.names.now c.args.state.now c.requires.at

pub rename_line-requires : goal.rename_line-requires
rename_line-requires c =
    line_next c.args.names.now c.args.state.now c.loop-k.state c.loop-k.k c.loop-k.invariant c.loop-k-test.true c.requires

pub loop-k-preserved : goal.loop-k-preserved
loop-k-preserved c =
    lines_next c.args.names.now c.args.state.now c.loop-k.state c.loop-k.k c.loop-k.invariant c.loop-k-test.true c.rename_line.new.state (c.rename_line.auto.state ∙ c.loop-k.invariant.at.sized) c.rename_line.ensures

pub shape_of-state : goal.shape_of-state
shape_of-state c =
    c.loop-k.invariant.at.sized ∙ sym c.requires.at.sized

pub returns : goal.returns
returns c =
    lines_all c.args.names.now c.args.state.now c.loop-k.state c.loop-k.k c.loop-k.invariant c.loop-k-test.false
