-- `byte_at` answers 0 past the end.
use mathlib.Core.Path.{sym}
use lib.ListN.{get_or-eq_default}
use Rattle.history_numbers.proofs.byte_at.Goals as goal

pub returns : goal.returns
returns c = sym (get_or-eq_default c.args.b.now 0 c.if-i-b.false)
