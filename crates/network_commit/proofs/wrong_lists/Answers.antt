-- `wrong_lists` compares the lengths.
use Rattle.network_commit.proofs.CommitLaws.{lists_none, lists_many, lists_items, lists_values}
use Rattle.network_commit.proofs.wrong_lists.Goals as goal

pub returns-then-kinds-lt1 : goal.returns-then-kinds-lt1
returns-then-kinds-lt1 c = lists_none c.args.kinds c.args.items c.args.values c.if-kinds-lt1.true

pub returns-then-kinds-gt-OPERATIONS_WIDE : goal.returns-then-kinds-gt-OPERATIONS_WIDE
returns-then-kinds-gt-OPERATIONS_WIDE c = lists_many c.args.kinds c.args.items c.args.values c.if-kinds-lt1.false c.if-kinds-gt-OPERATIONS_WIDE.true

pub returns-then-items-kinds : goal.returns-then-items-kinds
returns-then-items-kinds c = lists_items c.args.kinds c.args.items c.args.values c.if-kinds-lt1.false c.if-kinds-gt-OPERATIONS_WIDE.false c.if-items-kinds.true

pub returns : goal.returns
returns c = lists_values c.args.kinds c.args.items c.args.values c.if-kinds-lt1.false c.if-kinds-gt-OPERATIONS_WIDE.false c.if-items-kinds.false
