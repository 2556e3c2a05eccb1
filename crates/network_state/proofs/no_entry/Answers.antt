-- `no_entry` has nothing in it.
use mathlib.Core.Path.{refl}
use Rattle.site_operations.proofs.Laws.{none_laid}
use Rattle.network_state.proofs.no_entry.Goals as goal

pub returns : goal.returns
returns c = record { site_is = refl; stamp_is = c.zero.ensures; laid = none_laid }
