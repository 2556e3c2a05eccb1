-- `numbers` parses field after field: what is done, in front of what is still to come, is all. A field that is a number has a byte at least, so the list does not end before the line.
use mathlib.Core.Path.{sym, ap, ◌∙◌}
use mathlib.Core.List.{List}
use Prim.Native.Nat.{ℕ, ◌+◌}
use native.Mathlib.Omega.{arith}
use lib.ListN.{take, length-set}
use Rattle.decimal.specs.Decimal.{natural}
use Rattle.decimal.proofs.Values.{natural_long}
use Rattle.script_notation.specs.Fields.{fields_from}
use Rattle.script_notation.specs.Parse.{all}
use Rattle.script_notation.proofs.Places.{field_within}
use Rattle.script_notation.proofs.Walks.{ahead, walk_out, walk_next, walk_end, field_size, take_more}
use Rattle.script_parsing.proofs.numbers.Goals as goal

pub slice_bounds-natural-end : goal.slice_bounds-natural-end
slice_bounds-natural-end c = omega (arith, field_within c.args.text.now c.loop-at.at c.find-end.result c.find-end.ensures c.loop-at-test.true)

pub returns-in_err-list-clause-numbers : goal.returns-in_err-list-clause-numbers
returns-in_err-list-clause-numbers c =
    let l = c.loop-at in
    rw c.from_residual.ensures (sym (walk_out natural c.args.text.now l.at (take l.count l.list) _ l.invariant.3 c.loop-at-test.true c.find-end.result c.find-end.ensures c.in_err-list.ensures))

pub loop-at-preserved : goal.loop-at-preserved
loop-at-preserved c =
    let T = c.args.text.now in
    let l = c.loop-at in
    let n = c.in_ok-list.field-0 in
    let long = natural_long _ n c.in_ok-list.ensures in
    let size = field_size natural T l.at (take l.count l.list) _ l.invariant.3 c.loop-at-test.true c.find-end.result c.find-end.ensures in (
      omega arith,
      omega arith,
      length-set l.list l.count n ∙ l.invariant.2,
      walk_next natural T l.at (take l.count l.list) _ l.invariant.3 c.loop-at-test.true c.find-end.result c.find-end.ensures n c.in_ok-list.ensures
          ∙ ap (λ (ys : List ℕ). ahead ys (all natural (fields_from T (c.find-end.result + 1)))) (sym (take_more l.list l.count n (omega arith))),
    )

pub returns-clause-numbers : goal.returns-clause-numbers
returns-clause-numbers c = let l = c.loop-at in sym (walk_end natural c.args.text.now l.at (take l.count l.list) _ l.invariant.3 c.loop-at-test.false)
