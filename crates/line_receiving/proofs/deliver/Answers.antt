-- `deliver` counts one arrived message more.
use mathlib.Core.Path.{sym, subst}
use mathlib.Core.List.{List}
use Prim.Native.Nat.{ℕ}
use native.Mathlib.Omega.{arith}
use Rattle.words.specs.Words.{Stepped}
use Rattle.words.proofs.Steps.{not_stepped}
use Rattle.lines.specs.Lines.{delivered_or_same}
use Rattle.lines.specs.InWords.{line_size, line_in, line_range}
use Rattle.line_receiving.proofs.Boxes.{delivered_step, none_step}
use Rattle.line_receiving.proofs.deliver.Goals as goal

pub returns-then-l-ne-WORDS : goal.returns-then-l-ne-WORDS
returns-then-l-ne-WORDS c = not_stepped line_size line_in line_range delivered_or_same c.args.l.now c.if-l-ne-WORDS.true

pub returns-then-n-held_word : goal.returns-then-n-held_word
returns-then-n-held_word c =
    let w = c.args.l.now in
    subst (λ (x : List ℕ). Stepped line_size line_in line_range delivered_or_same w x) (sym c.store.ensures) (delivered_step w c.if-l-ne-WORDS.false c.word-n.result c.word-n.ensures (omega (arith, c.held_word.ensures, c.if-n-held_word.true)))

pub returns-else-n-held_word : goal.returns-else-n-held_word
returns-else-n-held_word c = none_step c.args.l.now c.word-n.result c.word-n.ensures (omega (arith, c.held_word.ensures, c.if-n-held_word.false))
