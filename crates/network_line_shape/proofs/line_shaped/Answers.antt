-- `line_shaped` asks a line that holds nothing for its other count, and goes on with any other.
use mathlib.Core.Path.{sym, refl, ◌∙◌}
use lib.ListN.{length}
use borrow.Author.Tests.{eqb-true, eqb-false}
use Rattle.lines.specs.InWords.{line_in}
use Rattle.network_line_shape.specs.LineTests.{history_in}
use Rattle.network_line_shape.proofs.LineLaws.{line_empty}
use Rattle.network_line_shape.proofs.line_shaped.Goals as goal

pub returns-then-is_empty : goal.returns-then-is_empty
returns-then-is_empty c xs given ranked =
    let empty = c.is_empty in
    let A = c.args in
    let none = eqb-true (length (line_in A.l.now).messages) 0 (sym empty.ensures ∙ c.if-is_empty.true) in
    line_empty xs (history_in A.kept.now A.made) A.k A.l.now 0 (sym none) refl c.arrived.result c.arrived.ensures

pub held_shaped-requires : goal.held_shaped-requires
held_shaped-requires c =
    let held = c.held-n in
    let empty = c.is_empty in
    let A = c.args in
    record {
      line = c.requires;
      held = held.ensures.0;
      few = held.ensures.1;
      some = λ z. eqb-false (length (line_in A.l.now).messages) 0 (sym empty.ensures ∙ c.if-is_empty.false) (sym held.ensures.0 ∙ z);
    }

pub returns : goal.returns
returns c = c.held_shaped.ensures
