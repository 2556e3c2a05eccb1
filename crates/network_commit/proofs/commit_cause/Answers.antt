-- `commit_cause` asks for the causes from 9 on in the order of their numbers.
use mathlib.Core.Path.{◌≡◌, refl, sym, ap, ◌∙◌}
use mathlib.Core.List.{map}
use Prim.Native.Nat.{ℕ, ◌<◌}
use native.Mathlib.Omega.{arith}
use lib.ListN.{length}
use Rattle.causes.proofs.Refusals.{passed_on, refusal_some}
use Rattle.limits.specs.Limits.{records_most}
use Rattle.site_operations.specs.InWords.{ops_in}
use Rattle.lists.specs.Numbers.{first_number}
use Rattle.protocol.specs.Steps.{due, count_at_most, some_line_full, op_number}
use Rattle.network_layout.specs.InWords.{network_in}
use Rattle.network_layout.specs.At.{AtSite}
use Rattle.network_layout.proofs.Performs.{records_count}
use Rattle.network_layout.proofs.OnNetwork.{at_site}
use Rattle.network_sending.proofs.SendLaws.{full_by_mask}
use Rattle.network_commit.proofs.CommitLaws.{commit_op, commit_booked, commit_full, commit_largest, commit_free}
use borrow.Author.Rules.{rules}
use Rattle.network_commit.proofs.commit_cause.Goals as goal
use Rattle.network_commit.proofs.commit_cause.Goals.{After-count_at_most, After-some_line_full, In_ok-ops_number, Else-state-ge-RECORDS, Start}

at : (c : Start) (k : ℕ) → k ≡ c.args.site → AtSite c.args.state.now k
at c k same = at_site c.args.state.now c.requires.at.net c.args.site k same c.requires.at.there

-- none of the operations is refused
pass : (c : In_ok-ops_number) → first_number (map (op_number (network_in c.args.state.now).items c.args.site) (ops_in c.args.n c.args.ops.now)) ≡ 0
pass c = sym c.in_ok-ops_number.ensures

-- the history has room
room : (c : Else-state-ge-RECORDS) → length (network_in c.args.state.now).history < records_most
room c = omega (arith, c.if-state-ge-RECORDS.false, records_count c.args.state.now)

-- what the mask finds is what the operations ask for
asked : (c : After-some_line_full) → c.some_line_full.result ≡ some_line_full (network_in c.args.state.now) c.args.site (due (network_in c.args.state.now).items (ops_in c.args.n c.args.ops.now))
asked c =
    let A = c.args in
    let n = network_in A.state.now in
    c.some_line_full.ensures ∙ full_by_mask (due n.items (ops_in A.n A.ops.now)) A.mask c.requires.mask_is n A.site

-- the own count, at the site that was asked for
largest : (c : After-count_at_most) → c.count_at_most.result ≡ count_at_most (network_in c.args.state.now) c.args.site
largest c = c.count_at_most.ensures ∙ ap (count_at_most (network_in c.args.state.now)) c.wide.ensures

pub returns-in_err-ops_number : goal.returns-in_err-ops_number
returns-in_err-ops_number c =
    let A = c.args in
    let x = c.in_err-ops_number.field-0.0 in
    passed_on c.from_residual.result x c.from_residual.ensures.1
    ∙ c.in_err-ops_number.ensures
    ∙ commit_op (network_in A.state.now) A.site (ops_in A.n A.ops.now) (λ z. refusal_some x (c.in_err-ops_number.ensures ∙ z))

pub returns-then-state-ge-RECORDS : goal.returns-then-state-ge-RECORDS
returns-then-state-ge-RECORDS c =
    let A = c.args in
    sym (commit_booked (network_in A.state.now) A.site (ops_in A.n A.ops.now) (pass (goal.at.returns-then-state-ge-RECORDS c).In_ok-ops_number) (omega (arith, c.if-state-ge-RECORDS.true, records_count A.state.now)))

pub some_line_full-requires : goal.some_line_full-requires
some_line_full-requires c = let site = at (goal.at.some_line_full-requires c).Start c.args.site refl in record { sized = site.sized; ranged = site.ranged; from = site.few }

pub returns-then-some_line_full : goal.returns-then-some_line_full
returns-then-some_line_full c =
    let A = c.args in
    sym (commit_full (network_in A.state.now) A.site (ops_in A.n A.ops.now) (pass (goal.at.returns-then-some_line_full c).In_ok-ops_number) (room (goal.at.returns-then-some_line_full c).Else-state-ge-RECORDS) (sym (asked (goal.at.returns-then-some_line_full c).After-some_line_full) ∙ c.if-some_line_full.true))

pub count_at_most-requires : goal.count_at_most-requires
count_at_most-requires c =
    let site : AtSite c.args.state.now c.wide.result = at (goal.at.count_at_most-requires c).Start c.wide.result c.wide.ensures in
    search rules

pub returns-then-count_at_most : goal.returns-then-count_at_most
returns-then-count_at_most c =
    let A = c.args in
    sym (commit_largest (network_in A.state.now) A.site (ops_in A.n A.ops.now) (pass (goal.at.returns-then-count_at_most c).In_ok-ops_number) (room (goal.at.returns-then-count_at_most c).Else-state-ge-RECORDS) (sym (asked (goal.at.returns-then-count_at_most c).After-some_line_full) ∙ c.if-some_line_full.false) (sym (largest (goal.at.returns-then-count_at_most c).After-count_at_most) ∙ c.if-count_at_most.true))

pub returns : goal.returns
returns c =
    let A = c.args in
    sym (commit_free (network_in A.state.now) A.site (ops_in A.n A.ops.now) (pass (goal.at.returns c).In_ok-ops_number) (room (goal.at.returns c).Else-state-ge-RECORDS) (sym (asked (goal.at.returns c).After-some_line_full) ∙ c.if-some_line_full.false) (sym (largest (goal.at.returns c).After-count_at_most) ∙ c.if-count_at_most.false))
