-- `held_shaped` tests what a line says of itself, whether the placement gives it, and its messages.
use mathlib.Core.Path.{◌≡◌, sym, ◌∙◌}
use borrow.Author.Tests.{not-true, not-false}
use Rattle.placement.specs.Masks.{bit as bit_of}
use Rattle.network_line_shape.specs.LineTests.{history_in}
use Rattle.network_line_shape.proofs.LineLaws.{line_uncounted, line_unplaced, line_by_messages}
use Rattle.network_line_shape.proofs.held_shaped.Goals as goal

pub returns-then-not-counted : goal.returns-then-not-counted
returns-then-not-counted c xs given ranked =
    let count = c.counted in
    let A = c.args in
    line_uncounted xs (history_in A.kept.now A.made) A.k A.l.now (sym count.ensures ∙ not-true _ c.if-not-counted.true-raw)

pub returns-then-not-is_given : goal.returns-then-not-is_given
returns-then-not-is_given c xs given ranked =
    let bit = c.is_given in
    let count = c.counted in
    let A = c.args in
    let own : bit.result ≡ bit_of A.given A.k = bit.ensures in
    line_unplaced xs (history_in A.kept.now A.made) A.k A.l.now (sym count.ensures ∙ not-false _ c.if-not-counted.false-raw) A.n c.requires.held c.requires.some (sym (given A.k c.requires.line.few) ∙ sym own ∙ not-true _ c.if-not-is_given.true-raw)

pub returns : goal.returns
returns c xs given ranked =
    let bit = c.is_given in
    let count = c.counted in
    let A = c.args in
    line_by_messages xs (history_in A.kept.now A.made) A.k A.l.now (sym count.ensures ∙ not-false _ c.if-not-counted.false-raw) A.n c.requires.held c.requires.some (sym (given A.k c.requires.line.few) ∙ sym bit.ensures ∙ not-false _ c.if-not-is_given.false-raw) A.places ranked c.messages_shaped.result c.messages_shaped.ensures
