-- `commit_on` asks for the site and the lists, and goes on with the operations in words.
use mathlib.Core.Path.{◌≡◌, sym, subst, ◌∙◌}
use mathlib.Core.Bool.{false}
use mathlib.Core.List.{List}
use native.Mathlib.Omega.{arith}
use lib.ListN.{length}
use borrow.Author.Tests.{leb-false, not-true, not-false}
use Rattle.causes.specs.declared.Refusal.TheVariants.{NoSuchSite, WrongOperations}
use Rattle.site_operations.specs.Operations.{Op}
use Rattle.lists.proofs.Numbers.{flip_false, flip_true}
use Rattle.protocol.specs.Steps.{no_such_site, wrong_lists}
use Rattle.protocol.specs.Allowed.{ListsAllowed}
use Rattle.protocol.proofs.Allowed.{lists_allowed}
use Rattle.network_layout.specs.InWords.{network_in}
use Rattle.network_commit.specs.Done.{CommitTried}
use Rattle.network_commit.proofs.CommitLaws.{commit_nowhere, commit_lists, commit_refused, commit_tried}
use Rattle.network_commit.proofs.commit_on.Goals as goal
use Rattle.network_commit.proofs.commit_on.Goals.{Else-not-is_site, Else-wrong_lists}

-- the site is there, then the lists are right
there : (c : Else-not-is_site) → no_such_site (network_in c.args.state.now) c.args.site ≡ false
there c =
    let A = c.args in
    flip_true c.is_site.result (no_such_site (network_in A.state.now) A.site) c.is_site.ensures (not-false c.is_site.result c.if-not-is_site.false-raw)

right : (c : Else-wrong_lists) → wrong_lists (length c.args.kinds.now) (length c.args.items.now) (length c.args.values.now) ≡ false
right c = sym c.wrong_lists.ensures ∙ c.if-wrong_lists.false

lists : (c : Else-wrong_lists) → ListsAllowed (length c.args.kinds.now) (length c.args.items.now) (length c.args.values.now)
lists c = let A = c.args in lists_allowed (length A.kinds.now) (length A.items.now) (length A.values.now) (right c)

pub returns-then-not-is_site : goal.returns-then-not-is_site
returns-then-not-is_site c =
    let A = c.args in
    let n = network_in A.state.now in
    let none = flip_false c.is_site.result (no_such_site n A.site) c.is_site.ensures (not-true c.is_site.result c.if-not-is_site.true-raw) in
    commit_refused A.state.now A.site A.kinds.now A.items.now A.values.now c.requires NoSuchSite (sym (commit_nowhere n A.site A.kinds.now A.items.now A.values.now none))

pub returns-then-wrong_lists : goal.returns-then-wrong_lists
returns-then-wrong_lists c =
    let A = c.args in
    let n = network_in A.state.now in
    let wrong = sym c.wrong_lists.ensures ∙ c.if-wrong_lists.true in
    commit_refused A.state.now A.site A.kinds.now A.items.now A.values.now c.requires WrongOperations (sym (commit_lists n A.site A.kinds.now A.items.now A.values.now (there (goal.at.returns-then-wrong_lists c).Else-not-is_site) wrong))

pub op_words-ops-requires : goal.op_words-ops-requires
op_words-ops-requires c = lists (goal.at.op_words-ops-requires c).Else-wrong_lists

pub commit_words-requires : goal.commit_words-requires
commit_words-requires c =
    let n = network_in c.args.state.now in
    let l = lists (goal.at.commit_words-requires c).Else-wrong_lists in
    record { net = c.requires; there = leb-false (length n.sites) c.args.site (there (goal.at.commit_words-requires c).Else-not-is_site); some_ops = l.some; few_ops = l.few }

pub returns : goal.returns
returns c =
    let tried = c.commit_words in
    let A = c.args in
    let r = tried.result in
    let w = A.state.now in
    let same = subst (λ (os : List Op). CommitTried w tried.new.state A.site os r) c.op_words-ops.ensures tried.ensures in
    commit_tried w A.site A.kinds.now A.items.now A.values.now c.requires (there (goal.at.returns c).Else-not-is_site) (right (goal.at.returns c).Else-wrong_lists) tried.new.state r same
