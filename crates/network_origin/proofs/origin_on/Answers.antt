-- `origin_on` refuses where there is no such read, names the reader after its own write, or the last writer before it.
use Rattle.std.proofs.Common.{◌≡◌, ◌∙◌, sym, ap, ℕ, Bool, true, false, List, length}
use Rattle.std.specs.Prelude.{Ok}
use mathlib.Core.Path.{subst}
use Rattle.site_operations.specs.Operations.{touches}
use Rattle.protocol.specs.Questions.{nth_op}
use Rattle.origins.specs.Origin.{ops_before, own_write}
use Rattle.network_layout.specs.declared.Origin.{Origin}
use Rattle.network_layout.specs.InWords.{network_in}
use Rattle.network_writers.specs.Writers.{writer_of, LastSoFar, is_writer}
use Rattle.network_origin.specs.Answer.{named, OriginAnswered}
use Rattle.network_origin.proofs.OriginLaws.{origin_refused, read_sought, origin_own, origin_found}
use Rattle.network_origin.proofs.origin_on.Goals as goal

-- the read's own commit was asked about its item
own_asked : (w : List ℕ) (reader operation item : ℕ) (r b : Bool) → item ≡ (nth_op (network_in w) reader operation).item → r ≡ touches item (ops_before (network_in w) reader operation) → r ≡ b → own_write (network_in w) reader operation ≡ b
own_asked w reader operation item r b is told e = sym (told ∙ ap (λ (x : ℕ). touches x (ops_before (network_in w) reader operation)) is) ∙ e

pub returns-in_err-item : goal.returns-in_err-item
returns-in_err-item c =
    let A = c.args in
    origin_refused A.state.now A.reader A.operation c.requires c.from_residual.result c.in_err-item.field-0.0 c.from_residual.ensures.1 c.in_err-item.ensures

pub returns-then-own_write : goal.returns-then-own_write
returns-then-own_write c =
    let A = c.args in
    let read = read_sought (network_in A.state.now) A.reader A.operation _ c.in_ok-item.ensures in
    origin_own A.state.now A.reader A.operation c.requires read.0 (own_asked A.state.now A.reader A.operation _ _ true read.1 c.own_write.ensures c.if-own_write.true)

pub returns : goal.returns
returns c =
    let A = c.args in
    let n = network_in A.state.now in
    let b = c.last_writer-writer.result in
    let read = read_sought n A.reader A.operation _ c.in_ok-item.ensures in
    let of-item = subst (λ (x : ℕ). LastSoFar n (is_writer n A.reader x) (length n.history) b) read.1 c.last_writer-writer.ensures in
    subst (λ (o : Origin). OriginAnswered A.reader A.operation A.state.now (Ok o)) (sym (c.named.ensures ∙ ap (λ (f : Bool). named f (writer_of b)) c.is_folded.ensures))
    (origin_found A.state.now A.reader A.operation c.requires read.0 (own_asked A.state.now A.reader A.operation _ _ false read.1 c.own_write.ensures c.if-own_write.false) b of-item)
