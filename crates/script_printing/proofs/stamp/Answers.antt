-- `stamp` prints the epoch and then the tuples.
use native.Mathlib.Omega.{arith}
use Rattle.script_notation.proofs.Putting.{put_then}
use Rattle.script_printing.proofs.stamp.Goals as goal

pub returns : goal.returns
returns c = put_then (omega arith) c.behind_byte-end.ensures c.tuples.ensures
