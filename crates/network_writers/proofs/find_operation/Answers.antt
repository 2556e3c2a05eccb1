-- `find_operation` asks whether there is such an operation, then for its kind.
use mathlib.Core.Path.{◌≡◌, sym, ap, ◌∙◌}
use mathlib.Core.Bool.{true, false}
use Prim.Native.Nat.{◌<◌}
use native.Mathlib.Omega.{arith}
use lib.ListN.{length}
use borrow.Author.Tests.{eq-eqb, ne_eqb}
use Rattle.site_operations.specs.Operations.{Op}
use Rattle.site_operations.specs.InWords.{op_at as op_in}
use Rattle.protocol.specs.Network.{nth_record}
use Rattle.protocol.specs.Questions.{nth_op}
use Rattle.network_layout.specs.InWords.{network_in}
use Rattle.network_layout.proofs.Performs.{records_count}
use Rattle.network_writers.proofs.WriterLaws.{no_operation, by_kind, operation_is, not_found, found_read}
use Rattle.network_writers.proofs.find_operation.Goals as goal

pub returns-then-operation_count-a : goal.returns-then-operation_count-a
returns-then-operation_count-a c =
    let A = c.args in
    let n = network_in A.state.now in
    -- record k is there
    let there : A.k < length n.history = omega (arith, records_count A.state.now, c.requires.there) in
    not_found n A.k A.a
    (no_operation n A.k A.a there (omega (arith, c.if-operation_count-a.true, c.operation_count.ensures.0)))

pub returns-then-kind-ne-READ : goal.returns-then-kind-ne-READ
returns-then-kind-ne-READ c =
    let A = c.args in
    let n = network_in A.state.now in
    let there : A.k < length n.history = omega (arith, records_count A.state.now, c.requires.there) in
    -- operation a of it is there, and was read
    let within : A.a < length (nth_record n A.k).ops = omega (arith, c.if-operation_count-a.false, c.operation_count.ensures.0) in
    let read : op_in c.record_ops-ops.result A.a ≡ nth_op n A.k A.a = operation_is n A.k A.a c.record_ops-ops.result within c.record_ops-ops.ensures in
    let kind = c.kind.ensures ∙ ap (λ (o : Op). o.kind) read in
    not_found n A.k A.a
    (by_kind n A.k A.a there false within (ne_eqb _ 0 (λ z. c.if-kind-ne-READ.true (kind ∙ z))))

pub returns : goal.returns
returns c =
    let A = c.args in
    let n = network_in A.state.now in
    let there : A.k < length n.history = omega (arith, records_count A.state.now, c.requires.there) in
    let within : A.a < length (nth_record n A.k).ops = omega (arith, c.if-operation_count-a.false, c.operation_count.ensures.0) in
    let read : op_in c.record_ops-ops.result A.a ≡ nth_op n A.k A.a = operation_is n A.k A.a c.record_ops-ops.result within c.record_ops-ops.ensures in
    let kind = c.kind.ensures ∙ ap (λ (o : Op). o.kind) read in
    found_read n A.k A.a _ (c.item.ensures ∙ ap (λ (o : Op). o.item) read) (by_kind n A.k A.a there true within (eq-eqb _ 0 (sym kind ∙ c.if-kind-ne-READ.false)))
