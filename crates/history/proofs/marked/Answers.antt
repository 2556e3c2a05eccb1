-- `marked` compares byte by byte.
use Rattle.history_file.proofs.Files.{mark_first, mark_second, mark_third, mark_fourth}
use Rattle.history.proofs.marked.Goals as goal

pub returns-then-b : goal.returns-then-b
returns-then-b c = mark_first c.args.b.now c.requires c.if-b.true

pub returns-then-b-2 : goal.returns-then-b-2
returns-then-b-2 c = mark_second c.args.b.now c.requires c.if-b.false c.if-b-2.true

pub returns-then-b-3 : goal.returns-then-b-3
returns-then-b-3 c = mark_third c.args.b.now c.requires c.if-b.false c.if-b-2.false c.if-b-3.true

pub returns : goal.returns
returns c = mark_fourth c.args.b.now c.requires c.if-b.false c.if-b-2.false c.if-b-3.false
