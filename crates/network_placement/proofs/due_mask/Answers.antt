-- `due_mask` gathers what each operation makes due: m has the bits of the operations before k.
use mathlib.Core.Path.{ap, sym, ◌∙◌}
use mathlib.Core.List.{[]}
use Prim.Native.Nat.{◌-◌}
use native.Mathlib.Omega.{arith}
use Rattle.limits.specs.Limits.{sites_most}
use Rattle.site_operations.specs.InWords.{op_in, ops_in}
use Rattle.site_operations.proofs.Laws.{ops_length, ops_at}
use Rattle.placement_lines.proofs.Gathered.{gather_none, gather_next, gather_mask}
use Rattle.network_placement.proofs.due_mask.Invariants.{wanted}
use Rattle.network_placement.proofs.due_mask.Goals as goal

pub loop-k-init : goal.loop-k-init
loop-k-init c =
    let A = c.args in
    gather_none sites_most (wanted A.state.now) (ops_in A.n A.ops.now)

pub loop-k-preserved : goal.loop-k-preserved
loop-k-preserved c =
    let few = c.loop-k-test.true in
    let A = c.args in
    gather_next sites_most (wanted A.state.now) (ops_in A.n A.ops.now) c.loop-k.m c.loop-k.k c.loop-k.invariant (op_in []) (omega (arith, ops_length A.n A.ops.now)) c.due_by-m.result
    (λ j g. c.due_by-m.ensures j g ∙ ap (wanted A.state.now j) (sym (ops_at A.n A.ops.now c.loop-k.k few)))

pub returns : goal.returns
returns c =
    let A = c.args in
    c.below.ensures
    ∙ gather_mask sites_most (wanted A.state.now) (ops_in A.n A.ops.now) c.loop-k.m c.loop-k.k c.loop-k.invariant (omega (arith, ops_length A.n A.ops.now))
