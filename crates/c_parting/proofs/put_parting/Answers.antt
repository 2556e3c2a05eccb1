-- `put_parting` lays a number of tuples that fits a word.
use mathlib.Core.Path.{ap}
use Prim.Native.Nat.{◌<◌}
use Rattle.timestamp_order.specs.Parting.{shared_of}
use borrow.Author.Rules.{rules}
use Rattle.c_parting.proofs.put_parting.Goals as goal

pub overflow_cast-n : goal.overflow_cast-n
overflow_cast-n c =
    let n = c.in-After.n in
    let few : n < 4294967296 = c.requires.shared_few n (ap shared_of c.in-After.is) in
    search rules
