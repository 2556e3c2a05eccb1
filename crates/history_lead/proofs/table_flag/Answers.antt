-- `table_flag` is 1 where there are some places.
use mathlib.Core.Path.{sym, ap}
use mathlib.Core.Bool.{Bool, cond}
use borrow.Author.Tests.{eq-eqb, ne_eqb}
use Rattle.history_lead.proofs.table_flag.Goals as goal

pub returns-then-n-eq0 : goal.returns-then-n-eq0
returns-then-n-eq0 c = sym (ap (λ (t : Bool). cond t 0 1) (eq-eqb c.args.n 0 c.if-n-eq0.true))

pub returns : goal.returns
returns c = sym (ap (λ (t : Bool). cond t 0 1) (ne_eqb c.args.n 0 c.if-n-eq0.false))
