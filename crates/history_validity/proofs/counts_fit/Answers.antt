-- `counts_fit` tests both counts.
use Rattle.history_file.proofs.Units.{no_tuples, many_tuples, no_ops, ops_counted}
use Rattle.history_validity.proofs.counts_fit.Goals as goal

pub returns-then-tuples-lt1 : goal.returns-then-tuples-lt1
returns-then-tuples-lt1 c = no_tuples c.args.tuples c.args.ops c.if-tuples-lt1.true

pub returns-then-tuples-gt8 : goal.returns-then-tuples-gt8
returns-then-tuples-gt8 c = many_tuples c.args.tuples c.args.ops c.if-tuples-lt1.false c.if-tuples-gt8.true

pub returns-then-ops-lt1 : goal.returns-then-ops-lt1
returns-then-ops-lt1 c = no_ops c.args.tuples c.args.ops c.if-tuples-lt1.false c.if-tuples-gt8.false c.if-ops-lt1.true

pub returns : goal.returns
returns c = ops_counted c.args.tuples c.args.ops c.if-tuples-lt1.false c.if-tuples-gt8.false c.if-ops-lt1.false
