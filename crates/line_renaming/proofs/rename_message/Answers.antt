-- `rename_message` lends the words of the message.
use mathlib.Core.Path.{ap, ◌∙◌}
use Prim.Native.Nat.{◌+◌, ◌*◌}
use Rattle.words.specs.Words.{put}
use Rattle.words.proofs.Parts.{lent_part, lent_put}
use Rattle.messages.specs.InWords.{message_size}
use Rattle.lines.specs.InWords.{boxes_at}
use Rattle.line_renaming.specs.Renaming.{box_renamed}
use Rattle.line_renaming.proofs.rename_message.Goals as goal

pub returns : goal.returns
returns c =
    let A = c.args in
    let w = A.l.now in
    let at = boxes_at + A.i * message_size in
    lent_put w at message_size c.rename_box.new.b ∙ ap (put w at message_size) (c.rename_box.ensures ∙ ap (box_renamed A.names.now) (lent_part w at message_size))
