-- `Timestamp::own` is the last tuple of the list.
use mathlib.Core.Path.{◌≡◌, ◌∙◌}
use lib.ListN.{length}
use borrow.Author.Rules.{rules}
use Rattle.timestamp.proofs.Value.{size_law, own_law}
use Rattle.timestamp.proofs.Timestamp.own.Goals as goal

pub returns : goal.returns
returns c =
    let t = c.args.self in
    let eight : length t.tuples ≡ 8 = search rules in
    own_law t.tuples t.len eight c.size-n.result (c.size-n.ensures.0 ∙ size_law t.tuples t.len eight) c.if-n-eq0.false
