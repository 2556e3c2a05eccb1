-- `size_in` reads the second word, and takes more than eight for eight.
use native.Mathlib.Omega.{arith}
use Rattle.timestamp_words.proofs.Shaped.{size_law}
use Rattle.timestamp_words.proofs.size_in.Goals as goal

pub returns : goal.returns
returns c = (omega (arith, c.min.ensures, c.word.ensures, size_law c.args.w.now), omega (arith, c.min.ensures))
