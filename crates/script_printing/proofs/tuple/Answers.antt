-- `tuple` prints a site behind the byte and a count behind a point.
use native.Mathlib.Omega.{arith}
use Rattle.script_notation.proofs.Putting.{put_then}
use Rattle.script_printing.proofs.tuple.Goals as goal

pub returns : goal.returns
returns c = put_then (omega arith) c.behind_byte-end.ensures c.behind_byte.ensures
