-- `write` stores the site and the number of operations, and then the words of the timestamp and of the packed operations.
use Rattle.timestamp.specs.Value.{stamp_of}
use Rattle.records.proofs.Laws.{filled_size, written}
use Rattle.records.proofs.write.Goals as goal

pub shape_of-w : goal.shape_of-w
shape_of-w c =
    let A = c.args in
    filled_size A.w.now c.if-w-ne-WORDS.false _ _ (stamp_of A.t) c.write_to.new.w c.write_to.ensures.0 A.ops.now c.if-ops-ne-OPERATIONS.false c.pack.new.w c.pack.auto.w c.pack.ensures

pub returns : goal.returns
returns c =
    let A = c.args in
    written A.w.now c.if-w-ne-WORDS.false _ _ (stamp_of A.t) c.write_to.new.w c.write_to.ensures.0 A.ops.now c.if-ops-ne-OPERATIONS.false c.pack.new.w c.pack.auto.w c.pack.ensures c.write_to.ensures.1
