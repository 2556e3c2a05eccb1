-- `part_of` is the part behind what leads the records.
use native.Mathlib.Omega.{arith}
use Rattle.history_file.proofs.Files.{part_is}
use Rattle.history_fields.proofs.part_of.Goals as goal

pub returns : goal.returns
returns c =
    part_is c.args.b.now c.distance.result c.lead_size-n.result c.distance.ensures c.lead_size-n.ensures.0 (omega (arith, c.requires.room, c.distance.ensures, c.lead_size-n.ensures.0)) (omega (arith, c.requires.high, c.distance.ensures))
