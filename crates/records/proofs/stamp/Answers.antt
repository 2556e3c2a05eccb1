-- `stamp` reads the timestamp from the third word on.
use Rattle.timestamp.proofs.Plain.{plain_as}
use Rattle.records.proofs.Laws.{stamp_short, stamp_long}
use Rattle.records.proofs.stamp.Goals as goal

pub returns-then-w-lt-STAMP : goal.returns-then-w-lt-STAMP
returns-then-w-lt-STAMP c = plain_as (stamp_short c.args.w.now c.if-w-lt-STAMP.true) c.from_words.ensures

pub returns : goal.returns
returns c = plain_as (stamp_long c.args.w.now) c.from_words-2.ensures
