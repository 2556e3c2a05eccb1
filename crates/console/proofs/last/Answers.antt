-- `last` answers what is held and writes it.
use Rattle.console.proofs.Runs.{closed}
use Rattle.console.proofs.last.Goals as goal

pub returns : goal.returns
returns g c = closed c.requires c.finish-r.ensures
