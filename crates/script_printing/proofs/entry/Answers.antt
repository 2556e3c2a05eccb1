-- `entry` prints the site, the timestamp and the operations.
use native.Mathlib.Omega.{arith}
use Rattle.script_notation.proofs.Putting.{put_then, put_end}
use Rattle.script_printing.proofs.entry.Goals as goal

pub returns : goal.returns
returns c =
    let number = c.number-end.ensures in
    put_then (omega arith) number (put_then (omega (arith, put_end number)) c.stamp-behind.ensures c.operations.ensures)
