-- `Timestamp::raise` gives the last tuple the next count, or the plain value where there is no tuple or no higher count.
use Rattle.timestamp.specs.Value.{stamp_of}
use Rattle.timestamp.proofs.Plain.{raise_law, raise_full_law, raise_none_law}
use Rattle.timestamp.proofs.Timestamp.raise.Goals as goal

pub returns-then-n-eq0 : goal.returns-then-n-eq0
returns-then-n-eq0 c =
    raise_none_law (stamp_of c.args.self) c.plain-t.result c.plain-t.ensures c.if-n-eq0.true

pub returns-then-c-ge-GREATEST : goal.returns-then-c-ge-GREATEST
returns-then-c-ge-GREATEST c =
    raise_full_law (stamp_of c.args.self) c.plain-t.result c.plain-t.ensures c.if-n-eq0.false c.if-c-ge-GREATEST.true

pub returns : goal.returns
returns c =
    raise_law (stamp_of c.args.self) c.plain-t.result c.plain-t.ensures c.if-n-eq0.false c.if-c-ge-GREATEST.false
