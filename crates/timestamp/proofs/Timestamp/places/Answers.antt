-- `Timestamp::places` reads the eight places, one after another.
use lib.ListN.{get_or}
use borrow.Author.Rules.{rules}
use Rattle.timestamp_order.specs.Timestamp.{no_pair, room}
use Rattle.timestamp.specs.Value.{pair_of, stamp_of}
use Rattle.timestamp.proofs.Value.{no_tuple}
use Rattle.timestamp.proofs.Arrays.{made}
use Rattle.timestamp.proofs.Timestamp.places.Goals as goal

pub returns : goal.returns
returns c = made pair_of (λ i. get_or (stamp_of c.args.self).tuples i no_pair) (λ x y q k. search rules) c.from_fn.result room no_tuple c.from_fn.ensures.items
