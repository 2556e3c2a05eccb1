-- `turn` hands on what was read; where nothing could be read, nothing is answered.
use Rattle.console.proofs.Runs.{went_none}
use Rattle.console.proofs.turn.Goals as goal

pub returns-in-Err : goal.returns-in-Err
returns-in-Err g c = went_none c.broken_off.ensures.more
