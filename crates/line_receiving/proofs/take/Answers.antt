-- `take` counts one message less, held and arrived, and moves the others to the front.
use Rattle.words.proofs.Steps.{not_stepped}
use Rattle.lines.specs.Lines.{taken_or_same}
use Rattle.lines.specs.InWords.{line_size, line_in, line_range}
use Rattle.line_receiving.proofs.Boxes.{taken_by, empty_step}
use Rattle.line_receiving.proofs.take.Goals as goal

pub returns-then-l-ne-WORDS : goal.returns-then-l-ne-WORDS
returns-then-l-ne-WORDS c = not_stepped line_size line_in line_range taken_or_same c.args.l.now c.if-l-ne-WORDS.true

pub returns-then-n-eq0 : goal.returns-then-n-eq0
returns-then-n-eq0 c = empty_step c.args.l.now c.held_word-n.result c.held_word-n.ensures c.if-n-eq0.true

pub returns : goal.returns
returns c =
    taken_by c.args.l.now c.if-l-ne-WORDS.false c.held_word-n.result c.held_word-n.ensures c.if-n-eq0.false c.store.new.w c.store.ensures c.saturating_sub.result c.saturating_sub.ensures c.word.ensures c.store-2.new.w c.store-2.ensures c.shift.new.w c.shift.auto.w c.shift.ensures
