-- `line_on` asks for a line that is not too long and a letter that is a field of its own.
use mathlib.Core.Path.{sym, ◌∙◌}
use Rattle.script_notation.proofs.Replying.{answered_none, answered_as, unlettered_none, lettered_called}
use Rattle.script_line.proofs.line_on.Goals as goal

pub returns-then-not-lettered : goal.returns-then-not-lettered
returns-then-not-lettered c =
    let T = c.args.text.now in
    answered_none _ c.args.state.now (unlettered_none T (sym c.lettered.ensures ∙ c.if-not-lettered.true)) c.requires.formed_is c.question.ensures

pub called-requires : goal.called-requires
called-requires c =
    let l = lettered_called c.args.text.now (sym c.lettered.ensures ∙ c.if-not-lettered.false) in
    record { some = l.some; short = l.short; formed_is = c.requires.formed_is; room = c.requires.room }

pub returns : goal.returns
returns c = answered_as (lettered_called c.args.text.now (sym c.lettered.ensures ∙ c.if-not-lettered.false)).called_is c.called.ensures
