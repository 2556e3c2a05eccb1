-- `line_number` asks for the causes in the order of their numbers.
use mathlib.Core.Path.{◌≡◌, refl, sym, ◌∙◌}
use mathlib.Core.Bool.{true, false}
use borrow.Author.Tests.{not-true, not-false}
use Rattle.protocol.specs.Steps.{no_such_site}
use Rattle.network_layout.specs.InWords.{network_in}
use Rattle.network_layout.specs.At.{AtState}
use Rattle.network_layout.proofs.OnNetwork.{at_state}
use Rattle.lists.proofs.Numbers.{flip_false, flip_true}
use borrow.Author.Rules.{rules}
use Rattle.network_readers.proofs.line_number.Goals as goal
use Rattle.network_readers.proofs.line_number.Goals.{Else-not-is_site, Else-not-is_site-2}

-- the parent is there, then the child
parent_there : (c : Else-not-is_site) → no_such_site (network_in c.args.state.now) c.args.parent ≡ false
parent_there c = flip_true c.is_site.result _ c.is_site.ensures (not-false c.is_site.result c.if-not-is_site.false-raw)

child_there : (c : Else-not-is_site-2) → no_such_site (network_in c.args.state.now) c.args.child ≡ false
child_there c = flip_true c.is_site-2.result _ c.is_site-2.ensures (not-false c.is_site-2.result c.if-not-is_site-2.false-raw)

pub returns-then-not-is_site : goal.returns-then-not-is_site
returns-then-not-is_site c =
    let A = c.args in
    let e : no_such_site (network_in A.state.now) A.parent ≡ true = flip_false c.is_site.result _ c.is_site.ensures (not-true c.is_site.result c.if-not-is_site.true-raw) in
    rw e refl

pub returns-then-not-is_site-2 : goal.returns-then-not-is_site-2
returns-then-not-is_site-2 c =
    let A = c.args in
    let e : no_such_site (network_in A.state.now) A.child ≡ true = flip_false c.is_site-2.result _ c.is_site-2.ensures (not-true c.is_site-2.result c.if-not-is_site-2.true-raw) in
    rw (parent_there (goal.at.returns-then-not-is_site-2 c).Else-not-is_site, e) refl

pub is_line-requires : goal.is_line-requires
is_line-requires c =
    let at : AtState c.args.state.now = at_state c.args.state.now c.requires in
    search rules

pub returns-then-not-is_line : goal.returns-then-not-is_line
returns-then-not-is_line c =
    rw (parent_there (goal.at.returns-then-not-is_line c).Else-not-is_site, child_there (goal.at.returns-then-not-is_line c).Else-not-is_site-2, sym c.is_line.ensures ∙ not-true c.is_line.result c.if-not-is_line.true-raw) refl

pub returns : goal.returns
returns c =
    rw (parent_there (goal.at.returns c).Else-not-is_site, child_there (goal.at.returns c).Else-not-is_site-2, sym c.is_line.ensures ∙ not-false c.is_line.result c.if-not-is_line.false-raw) refl
