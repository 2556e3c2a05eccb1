-- `deliver_number` asks for the causes in the order of their numbers.
use mathlib.Core.Path.{◌≡◌, sym, ◌∙◌}
use mathlib.Core.Bool.{true, false}
use native.Mathlib.Omega.{arith}
use lib.ListN.{length}
use borrow.Author.Tests.{leb-false, not-true, not-false}
use Rattle.placement.specs.Placement.{is_line}
use Rattle.protocol.specs.Steps.{no_such_site}
use Rattle.network_layout.specs.InWords.{network_in}
use Rattle.network_layout.specs.At.{AtState}
use Rattle.network_layout.proofs.OnNetwork.{at_state, ranged_on, few_on}
use Rattle.lists.proofs.Numbers.{flip_false, flip_true}
use Rattle.network_deliver.proofs.DeliverLaws.{no_parent, no_child, no_line_lem, none_on_way, some_on_way}
use borrow.Author.Rules.{rules}
use Rattle.network_deliver.proofs.deliver_number.Goals as goal
use Rattle.network_deliver.proofs.deliver_number.Goals.{Else-not-is_line, Else-not-is_site, Else-not-is_site-2}

-- the parent is there, then the child, then the line
parent_there : (c : Else-not-is_site) → no_such_site (network_in c.args.state.now) c.args.parent ≡ false
parent_there c =
    let A = c.args in
    flip_true c.is_site.result (no_such_site (network_in A.state.now) A.parent) c.is_site.ensures (not-false c.is_site.result c.if-not-is_site.false-raw)

child_there : (c : Else-not-is_site-2) → no_such_site (network_in c.args.state.now) c.args.child ≡ false
child_there c =
    let A = c.args in
    flip_true c.is_site-2.result (no_such_site (network_in A.state.now) A.child) c.is_site-2.ensures (not-false c.is_site-2.result c.if-not-is_site-2.false-raw)

line_there : (c : Else-not-is_line) → is_line (network_in c.args.state.now).items c.args.parent c.args.child ≡ true
line_there c = sym c.is_line.ensures ∙ not-false c.is_line.result c.if-not-is_line.false-raw

pub returns-then-not-is_site : goal.returns-then-not-is_site
returns-then-not-is_site c =
    let A = c.args in
    let n = network_in A.state.now in
    sym (no_parent n A.parent A.child (flip_false c.is_site.result (no_such_site n A.parent) c.is_site.ensures (not-true c.is_site.result c.if-not-is_site.true-raw)))

pub returns-then-not-is_site-2 : goal.returns-then-not-is_site-2
returns-then-not-is_site-2 c =
    let A = c.args in
    let n = network_in A.state.now in
    sym (no_child n A.parent A.child (parent_there (goal.at.returns-then-not-is_site-2 c).Else-not-is_site) (flip_false c.is_site-2.result (no_such_site n A.child) c.is_site-2.ensures (not-true c.is_site-2.result c.if-not-is_site-2.true-raw)))

pub is_line-requires : goal.is_line-requires
is_line-requires c =
    let at : AtState c.args.state.now = at_state c.args.state.now c.requires in
    search rules

pub returns-then-not-is_line : goal.returns-then-not-is_line
returns-then-not-is_line c =
    let A = c.args in
    sym (no_line_lem (network_in A.state.now) A.parent A.child (parent_there (goal.at.returns-then-not-is_line c).Else-not-is_site) (child_there (goal.at.returns-then-not-is_line c).Else-not-is_site-2) (sym c.is_line.ensures ∙ not-true c.is_line.result c.if-not-is_line.true-raw))

pub none_on_way-requires : goal.none_on_way-requires
none_on_way-requires c =
    let w = c.args.state.now in
    let n = network_in w in
    let p = leb-false (length n.sites) c.args.parent (parent_there (goal.at.none_on_way-requires c).Else-not-is_site) in
    let q = leb-false (length n.sites) c.args.child (child_there (goal.at.none_on_way-requires c).Else-not-is_site-2) in
    record { sized = c.requires.sized; ranged = ranged_on w c.requires; from = omega (arith, p, few_on w c.requires); to = omega (arith, q, few_on w c.requires) }

pub returns-then-none_on_way : goal.returns-then-none_on_way
returns-then-none_on_way c =
    let A = c.args in
    sym (none_on_way (network_in A.state.now) A.parent A.child (parent_there (goal.at.returns-then-none_on_way c).Else-not-is_site) (child_there (goal.at.returns-then-none_on_way c).Else-not-is_site-2) (line_there (goal.at.returns-then-none_on_way c).Else-not-is_line) (sym c.none_on_way.ensures ∙ c.if-none_on_way.true))

pub returns : goal.returns
returns c =
    let A = c.args in
    sym (some_on_way (network_in A.state.now) A.parent A.child (parent_there (goal.at.returns c).Else-not-is_site) (child_there (goal.at.returns c).Else-not-is_site-2) (line_there (goal.at.returns c).Else-not-is_line) (sym c.none_on_way.ensures ∙ c.if-none_on_way.false))
