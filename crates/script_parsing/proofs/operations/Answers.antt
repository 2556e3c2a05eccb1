-- `operations` parses field after field: what is done, in front of what is still to come, is all, and the first nine of what is done are kept.
use mathlib.Core.Path.{sym, ap, ◌∙◌}
use mathlib.Core.List.{List, [], ◌∷◌, ◌++◌}
use mathlib.Core.Option.{Option, some}
use native.Mathlib.Omega.{arith}
use lib.ListN.{take}
use Rattle.site_operations.specs.Operations.{Op}
use Rattle.script_notation.specs.Parse.{on, operation}
use Rattle.script_notation.proofs.Places.{field_within}
use Rattle.script_notation.proofs.Walks.{walk_out, walk_next, walk_end, take_front}
use Rattle.script_lists.specs.Kept.{kept_most, kept_of, op_of}
use Rattle.script_parsing.proofs.operations.Goals as goal

pub slice_bounds-operation-end : goal.slice_bounds-operation-end
slice_bounds-operation-end c = omega (arith, field_within c.args.text.now c.loop-at.at c.find-end.result c.find-end.ensures c.loop-at-test.true)

pub returns-in_err-o-clause-operations : goal.returns-in_err-o-clause-operations
returns-in_err-o-clause-operations c =
    let l = c.loop-at in
    let d = l.invariant.0 in
    let out = walk_out operation c.args.text.now l.at d.done _ d.ahead_is c.loop-at-test.true c.find-end.result c.find-end.ensures c.in_err-o.ensures in
    rw c.from_residual.ensures (ap (λ (z : Option (List Op)). on z kept_of) (sym out))

pub loop-at-preserved : goal.loop-at-preserved
loop-at-preserved c =
    let l = c.loop-at in
    let d = l.invariant.0 in
    let q = c.keep-count in
    let o = op_of c.in_ok-o.o in (
      record {
        done = d.done ++ (o ∷ []);
        ahead_is = walk_next operation c.args.text.now l.at d.done _ d.ahead_is c.loop-at-test.true c.find-end.result c.find-end.ensures o c.in_ok-o.ensures;
        kept_is = q.ensures.kept ∙ ap (λ (z : List Op). take kept_most (z ++ (o ∷ []))) d.kept_is ∙ take_front kept_most d.done (o ∷ []);
      },
      record {
        few = q.ensures.few;
        kinds_sized = q.auto.kinds ∙ l.invariant.1.kinds_sized;
        items_sized = q.auto.items ∙ l.invariant.1.items_sized;
        values_sized = q.auto.values ∙ l.invariant.1.values_sized;
      },
    )

pub returns-clause-operations : goal.returns-clause-operations
returns-clause-operations c =
    let d = c.loop-at.invariant.0 in
    let all_is = walk_end operation c.args.text.now c.loop-at.at d.done _ d.ahead_is c.loop-at-test.false in
    ap (λ (l : List Op). some l) d.kept_is ∙ ap (λ (z : Option (List Op)). on z kept_of) (sym all_is)
