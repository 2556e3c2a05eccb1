-- `fit` asks for bytes below 128, and then for bytes that stay below it.
use Rattle.lanes.proofs.Laws.{tops}
use Rattle.record_fit.proofs.Laws.{fit_none, fit_all}
use Rattle.record_fit.proofs.fit.Goals as goal

pub returns-then-x-tops-eq0 : goal.returns-then-x-tops-eq0
returns-then-x-tops-eq0 c =
    let codes = c.codes-x in
    fit_all c.args.w.now c.args.items c.args.n c.requires.few codes.result _ codes.ensures
    (tops c.args.n c.requires.some c.requires.few) c.if-x-tops-eq0.true c.spare.result c.spare.ensures

pub returns-else-x-tops-eq0 : goal.returns-else-x-tops-eq0
returns-else-x-tops-eq0 c =
    let codes = c.codes-x in
    fit_none c.args.w.now c.args.items c.args.n c.requires.few codes.result _ codes.ensures
    (tops c.args.n c.requires.some c.requires.few) c.if-x-tops-eq0.false
