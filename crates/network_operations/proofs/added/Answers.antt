-- `added` adds the fields of one operation more.
use mathlib.Core.Path.{◌≡◌}
use lib.ListN.{length}
use borrow.Author.Rules.{rules}
use Rattle.network_operations.specs.Gathered.{gathered_most}
use Rattle.network_operations.proofs.GatherLaws.{gathers_full, gathers_more}
use Rattle.network_operations.proofs.added.Goals as goal

pub returns-then-at-ge9 : goal.returns-then-at-ge9
returns-then-at-ge9 c = λ os e. gathers_full os c.args.gathered e c.args.operation (search rules)

pub returns : goal.returns
returns c =
    let g = c.args.gathered in
    let kinds : length g.kinds ≡ gathered_most = search rules in
    let items : length g.items ≡ gathered_most = search rules in
    let values : length g.values ≡ gathered_most = search rules in
    λ os e. gathers_more os g e c.args.operation (search rules) kinds items values _ (search rules)
