-- `line_in` refuses with its number, or reads the line.
use Rattle.std.proofs.Common.{◌∙◌, refl, sym}
use borrow.Author.Tests.{not-true, not-false}
use Rattle.causes.specs.declared.Refusal.TheVariants.{NoState}
use Rattle.protocol.specs.Questions.{asked_line}
use Rattle.network_layout.specs.At.{AtNetwork}
use Rattle.network_layout.proofs.Performs.{number_shaped, number_unshaped}
use Rattle.network_readers.proofs.ReaderLaws.{line_refused, line_found, line_there}
use Rattle.network_readers.proofs.line_in.Goals as goal

pub returns-then-not-shaped : goal.returns-then-not-shaped
returns-then-not-shaped c =
    let A = c.args in
    let none = sym c.shaped.ensures ∙ not-true c.shaped.result c.if-not-shaped.true-raw in
    line_refused A.state.now A.parent A.child _ NoState refl (number_unshaped A.state.now _ none)

pub line_number-requires : goal.line_number-requires
line_number-requires c =
    record { sized = c.requires; formed = sym c.shaped.ensures ∙ not-false c.shaped.result c.if-not-shaped.false-raw }

pub returns-in_err-line_number : goal.returns-in_err-line_number
returns-in_err-line_number c =
    let A = c.args in
    let formed = sym c.shaped.ensures ∙ not-false c.shaped.result c.if-not-shaped.false-raw in
    line_refused A.state.now A.parent A.child c.from_residual.result c.in_err-line_number.field-0.0 c.from_residual.ensures.1
    (c.in_err-line_number.ensures ∙ sym (number_shaped A.state.now (λ n. asked_line n A.parent A.child) formed))

pub line_at-requires : goal.line_at-requires
line_at-requires c =
    let A = c.args in
    let net : AtNetwork A.state.now = record { sized = c.requires; formed = sym c.shaped.ensures ∙ not-false c.shaped.result c.if-not-shaped.false-raw } in
    line_there A.state.now A.parent A.child net (sym c.in_ok-line_number.ensures) _ c.line_number-2.ensures

pub returns : goal.returns
returns c =
    let A = c.args in
    let net : AtNetwork A.state.now = record { sized = c.requires; formed = sym c.shaped.ensures ∙ not-false c.shaped.result c.if-not-shaped.false-raw } in
    line_found A.state.now A.parent A.child net (sym c.in_ok-line_number.ensures) _ c.line_number-2.ensures c.line_at.result c.line_at.ensures
