-- `size` is eight bytes for the head, for each tuple and for each operation.
use native.Mathlib.Omega.{arith}
use Rattle.history_file.specs.Reading.{size_read}
use Rattle.history_validity.proofs.size.Goals as goal

pub returns : goal.returns
unfolding size_read
returns c = (omega (arith, c.count.ensures, c.count-2.ensures), omega (arith, c.count.ensures, c.count-2.ensures))
