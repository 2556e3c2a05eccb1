-- `assigned` cuts a write at its =.
use native.Mathlib.Omega.{arith}
use Rattle.script_notation.proofs.Places.{place_within}
use Rattle.script_notation.proofs.Parsing.{assigned_none}
use Rattle.script_parsing.proofs.assigned.Goals as goal

pub overflow_add-end : goal.overflow_add-end
overflow_add-end c = omega (arith, c.find-end.ensures, place_within 61 c.args.text.now)

pub returns-in_err-value : goal.returns-in_err-value
returns-in_err-value c =
    let T = c.args.text.now in
    rw c.from_residual.ensures (assigned_none T (omega (arith, c.find-end.ensures, c.in_err-value.ensures.lookup.0)))
