-- `deliver_on` refuses with its number, or has the line's oldest message on the way arrive.
use mathlib.Core.Path.{sym}
use native.Mathlib.Omega.{arith}
use Rattle.network_layout.specs.At.{AtLine}
use Rattle.network_deliver.proofs.DeliverLaws.{deliver_refused, deliver_pair, deliver_done}
use borrow.Author.Rules.{rules}
use Rattle.network_deliver.proofs.deliver_on.Goals as goal

pub returns-in_err-deliver_number : goal.returns-in_err-deliver_number
returns-in_err-deliver_number c =
    let A = c.args in
    deliver_refused A.state.now c.requires A.parent A.child c.from_residual.result c.in_err-deliver_number.field-0.0 c.from_residual.ensures.1 c.in_err-deliver_number.ensures

pub line_deliver-requires : goal.line_deliver-requires
line_deliver-requires c =
    let at = deliver_pair c.args.state.now c.requires c.args.parent c.args.child (sym c.in_ok-deliver_number.ensures) in
    let line : AtLine c.args.state.now c.line_number.result = record { sized = at.sized; ranged = at.ranged; few = omega (arith, at.from, at.to, c.line_number.ensures) } in
    search rules

pub returns : goal.returns
returns c =
    let A = c.args in
    deliver_done A.state.now c.requires A.parent A.child (sym c.in_ok-deliver_number.ensures) c.line_deliver.new.state c.line_number.result c.line_number.ensures c.line_deliver.ensures
