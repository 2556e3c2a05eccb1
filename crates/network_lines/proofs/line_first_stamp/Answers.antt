-- `line_first_stamp` lends the words of the timestamp in the first of the line's places.
use mathlib.Core.Path.{ap, ◌∙◌}
use lib.ListN.{get_or}
use Rattle.lines.specs.Lines.{Line}
use Rattle.messages.specs.Messages.{commit, name_of, own_stamp}
use Rattle.lines.proofs.Boxes.{first_own}
use Rattle.network_lines.proofs.line_first_stamp.Goals as goal

pub returns : goal.returns
returns c =
    let lent = c.line_at-w in
    let is = lent.ensures.meant in
    first_own lent.result.now (ap (λ (l : Line). name_of (get_or l.messages 0 (commit 0))) is ∙ c.requires.own)
    ∙ ap (λ (l : Line). own_stamp (get_or l.messages 0 (commit 0))) is
