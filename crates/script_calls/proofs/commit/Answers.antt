-- `commit` takes the site, and then the operations.
use mathlib.Core.Path.{ap, ◌∙◌}
use mathlib.Core.Option.{Option}
use Prim.Native.Nat.{ℕ, ◌+◌}
use native.Mathlib.Omega.{arith}
use Rattle.script_notation.specs.Fields.{fields_from}
use Rattle.script_notation.specs.Parse.{on}
use Rattle.script_notation.proofs.Places.{field_within}
use Rattle.script_notation.proofs.Replying.{answered_none, answered_as, committing, site_first}
use Rattle.script_calls.proofs.commit.Goals as goal

pub slice_bounds-natural-end : goal.slice_bounds-natural-end
slice_bounds-natural-end c = omega (arith, field_within c.args.text.now 2 c.find-end.result c.find-end.ensures c.if-text-lt2.false)

pub returns-in_default : goal.returns-in_default
returns-in_default c =
    let T = c.args.text.now in
    let found = c.find-end in
    answered_none _ c.args.state.now
    (ap (λ (o : Option ℕ). on o (committing (fields_from T (found.result + 1)))) c.in_default.ensures ∙ site_first T c.if-text-lt2.false found.result found.ensures)
    c.requires.formed_is c.question-in_default.ensures

pub returns : goal.returns
returns c =
    let T = c.args.text.now in
    let found = c.find-end in
    answered_as
    (ap (λ (o : Option ℕ). on o (committing (fields_from T (found.result + 1)))) c.in-Some.ensures ∙ site_first T c.if-text-lt2.false found.result found.ensures)
    c.commit_at.ensures
