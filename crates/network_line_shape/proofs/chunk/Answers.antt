-- `chunk` lends the words of one chunk.
use Rattle.words.proofs.Parts.{lent_part}
use Rattle.network_line_shape.proofs.chunk.Goals as goal

pub returns : goal.returns
returns c = let A = c.args in lent_part A.w.now _ A.m
