-- `question` prints one byte.
use native.Mathlib.Omega.{arith}
use mathlib.Core.Path.{refl}
use Rattle.script_notation.proofs.Putting.{put_as, put_byte}
use Rattle.script_numbers.proofs.question.Goals as goal

pub returns : goal.returns
returns c = put_as (omega arith) refl (put_byte c.args.out.now c.args.at 63 (omega arith))
