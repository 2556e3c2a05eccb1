-- `hold` copies as many bytes as are still held behind those that are.
use mathlib.Core.Path.{◌≡◌}
use native.Mathlib.Omega.{arith}
use lib.ListN.{length}
use Rattle.std.proofs.Common.{rules}
use Rattle.console_notation.specs.Lines.{clip_most}
use Rattle.console_held.proofs.Holding.{laid_there, held_there}
use Rattle.console_held.proofs.hold.Goals as goal

pub returns : goal.returns
returns c =
    let A = c.args in
    let at = c.min-at in
    let n = c.min-n in
    let full : length A.held.bytes ≡ clip_most = search rules in
    let laid = laid_there A.held.bytes A.from.now c.copy_from_slice.new.self at.result n.result (omega (arith, n.ensures)) (omega (arith, full, n.ensures, at.ensures)) c.copy_from_slice.ensures.after in
    held_there A.held.bytes A.from.now _ A.held.count at.result n.result _ full at.ensures (omega (arith, n.ensures)) laid
