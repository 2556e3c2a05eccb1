-- `fold_flag` stores 1 where some records go.
use mathlib.Core.Path.{sym, subst}
use Rattle.network_removal.specs.Removed.{FlagStep}
use Rattle.network_removal.proofs.RemovedLaws.{flag_stays, flag_stored}
use Rattle.network_removal.proofs.fold_flag.Goals as goal

pub returns-then-some : goal.returns-then-some
returns-then-some c =
    let w = c.args.state.now in
    let v = c.store.new.w in
    subst (FlagStep w v) (sym c.if-some.true) (flag_stored w c.requires v c.store.ensures)

pub returns-else-some : goal.returns-else-some
returns-else-some c =
    let w = c.args.state.now in
    subst (FlagStep w w) (sym c.if-some.false) (flag_stays w c.requires)
