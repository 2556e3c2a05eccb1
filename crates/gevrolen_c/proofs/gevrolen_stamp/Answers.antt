-- `gevrolen_stamp` lays the timestamp that the reader answers.
use mathlib.Core.Path.{ap, ◌∙◌}
use Rattle.timestamp_words.specs.InWords.{stamp_words}
use Rattle.gevrolen_c.proofs.gevrolen_stamp.Goals as goal

pub returns : goal.returns
returns c =
    let e = c.stamp.ensures in
    let said = c.put_stamp.ensures in
    (rw said.0 e.performed, said.1 ∙ ap stamp_words e.stamp_is)
