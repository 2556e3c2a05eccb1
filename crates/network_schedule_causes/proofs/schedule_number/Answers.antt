-- `schedule_number` asks for the causes in the order of their numbers.
use mathlib.Core.Path.{◌≡◌, sym, ◌∙◌}
use mathlib.Core.Bool.{false}
use lib.ListN.{length}
use borrow.Author.Tests.{leb-false, not-true, not-false}
use Rattle.lists.proofs.Numbers.{flip_false, flip_true}
use Rattle.protocol.specs.Steps.{no_such_site}
use Rattle.network_layout.specs.InWords.{network_in}
use Rattle.network_layout.specs.At.{AtState}
use Rattle.network_layout.proofs.OnNetwork.{at_state}
use Rattle.network_schedule_causes.proofs.CauseLaws.{no_site_lem, no_parents, some_lack, none_lack}
use borrow.Author.Rules.{rules}
use Rattle.network_schedule_causes.proofs.schedule_number.Goals as goal
use Rattle.network_schedule_causes.proofs.schedule_number.Goals.{Else-not-is_site}

-- the site is there
there : (c : Else-not-is_site) → no_such_site (network_in c.args.state.now) c.args.j ≡ false
there c =
    let A = c.args in
    flip_true c.is_site.result (no_such_site (network_in A.state.now) A.j) c.is_site.ensures (not-false c.is_site.result c.if-not-is_site.false-raw)

pub returns-then-not-is_site : goal.returns-then-not-is_site
returns-then-not-is_site c =
    let A = c.args in
    let n = network_in A.state.now in
    sym (no_site_lem n A.j (flip_false c.is_site.result (no_such_site n A.j) c.is_site.ensures (not-true c.is_site.result c.if-not-is_site.true-raw)))

pub has_parents-requires : goal.has_parents-requires
has_parents-requires c =
    let at : AtState c.args.state.now = at_state c.args.state.now c.requires in
    search rules

pub returns-then-not-has_parents : goal.returns-then-not-has_parents
returns-then-not-has_parents c =
    let A = c.args in
    sym (no_parents (network_in A.state.now) A.j (there (goal.at.returns-then-not-has_parents c).Else-not-is_site) (sym c.has_parents.ensures ∙ not-true c.has_parents.result c.if-not-has_parents.true-raw))

pub lacks_arrived-requires : goal.lacks_arrived-requires
lacks_arrived-requires c =
    record { net = c.requires; there = leb-false (length (network_in c.args.state.now).sites) c.args.j (there (goal.at.lacks_arrived-requires c).Else-not-is_site) }

pub returns-then-lacks_arrived : goal.returns-then-lacks_arrived
returns-then-lacks_arrived c =
    let A = c.args in
    sym (some_lack (network_in A.state.now) A.j (there (goal.at.returns-then-lacks_arrived c).Else-not-is_site) (sym c.has_parents.ensures ∙ not-false c.has_parents.result c.if-not-has_parents.false-raw) (sym c.lacks_arrived.ensures ∙ c.if-lacks_arrived.true))

pub returns : goal.returns
returns c =
    let A = c.args in
    sym (none_lack (network_in A.state.now) A.j (there (goal.at.returns c).Else-not-is_site) (sym c.has_parents.ensures ∙ not-false c.has_parents.result c.if-not-has_parents.false-raw) (sym c.lacks_arrived.ensures ∙ c.if-lacks_arrived.false))
