-- `Timestamp::plain` writes the tuples out at eight places.
use native.Mathlib.Omega.{arith}
use Rattle.timestamp.specs.Value.{stamp_of}
use Rattle.timestamp.proofs.Plain.{plain_places}
use Rattle.timestamp.proofs.Timestamp.plain.Goals as goal

pub returns : goal.returns
returns c =
    let t = c.args.self in
    plain_places t.epoch c.size.result c.places.result (stamp_of t).tuples c.size.ensures.0 (omega (arith, c.size.ensures.0, c.size.ensures.1)) c.places.ensures
