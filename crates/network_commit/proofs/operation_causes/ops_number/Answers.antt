-- `ops_number` leaves at the first faulty operation.
use mathlib.Core.Path.{refl, sym, ap, ◌∙◌}
use mathlib.Core.List.{[]}
use native.Mathlib.Omega.{arith}
use Rattle.causes.proofs.Refusals.{passed_on, refusal_some}
use Rattle.site_operations.specs.InWords.{op_in, ops_in}
use Rattle.site_operations.proofs.Laws.{ops_length, ops_at}
use Rattle.lists.proofs.Numbers.{first_here, first_next, first_done}
use Rattle.protocol.specs.Steps.{op_number}
use Rattle.network_layout.specs.InWords.{network_in}
use Rattle.network_commit.proofs.operation_causes.ops_number.Goals as goal

pub loop-k-init : goal.loop-k-init
loop-k-init c = refl

pub returns-in_err-op_number : goal.returns-in_err-op_number
returns-in_err-op_number c =
    let A = c.args in
    let f = op_number (network_in A.state.now).items A.site in
    let x = c.in_err-op_number.field-0.0 in
    let here = c.in_err-op_number.ensures ∙ ap f (sym (ops_at A.n A.ops.now c.loop-k.k (omega arith))) in
    passed_on c.from_residual.result x c.from_residual.ensures.1 ∙ here
    ∙ sym (first_here f (ops_in A.n A.ops.now) c.loop-k.k (op_in []) c.loop-k.invariant (omega (arith, ops_length A.n A.ops.now)) (λ z. refusal_some x (here ∙ z)))

pub loop-k-preserved : goal.loop-k-preserved
loop-k-preserved c =
    let A = c.args in
    let f = op_number (network_in A.state.now).items A.site in
    let here = c.in_ok-op_number.ensures ∙ ap f (sym (ops_at A.n A.ops.now c.loop-k.k (omega arith))) in
    first_next f (ops_in A.n A.ops.now) c.loop-k.k (op_in []) c.loop-k.invariant (omega (arith, ops_length A.n A.ops.now)) (sym here)

pub returns : goal.returns
returns c =
    let A = c.args in
    sym (first_done (op_number (network_in A.state.now).items A.site) (ops_in A.n A.ops.now) c.loop-k.k (op_in []) c.loop-k.invariant (omega (arith, ops_length A.n A.ops.now)))
