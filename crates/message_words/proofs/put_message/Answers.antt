-- `put_message` writes the name and then the timestamp of a message.
use Rattle.timestamp.specs.Value.{stamp_of}
use Rattle.messages.proofs.Messages.{written_length, written_message, written_range}
use Rattle.message_words.proofs.put_message.Goals as goal

pub shape_of-w : goal.shape_of-w
shape_of-w c =
    let A = c.args in
    written_length A.w.now c.requires.sized A.m.name (stamp_of A.m.stamp) c.write_to.ensures.1 c.write_to.new.w c.write_to.ensures.0

pub returns : goal.returns
returns c =
    let A = c.args in
    let ys = c.write_to.new.w in
    let few = c.write_to.ensures.1 in
    let is = c.write_to.ensures.0 in
    (written_message A.w.now c.requires.sized A.m.name (stamp_of A.m.stamp) few ys is, written_range A.w.now c.requires.sized A.m.name (stamp_of A.m.stamp) few ys is)
