-- `dummy_number` asks for the causes in the order of their numbers.
use mathlib.Core.Path.{◌≡◌, refl, sym, ap, ◌∙◌}
use mathlib.Core.Bool.{false}
use Prim.Native.Nat.{ℕ}
use lib.ListN.{length}
use borrow.Author.Tests.{leb-false, not-true, not-false}
use Rattle.lists.proofs.Numbers.{flip_false, flip_true}
use Rattle.placement.specs.Placement.{is_line}
use Rattle.protocol.specs.Steps.{no_such_site, count_at_most, some_line_full}
use Rattle.network_layout.specs.InWords.{network_in}
use Rattle.network_layout.specs.At.{AtState, AtSite}
use Rattle.network_layout.proofs.OnNetwork.{at_state, at_site}
use Rattle.network_sending.proofs.SendLaws.{full_by_mask}
use Rattle.network_dummy.proofs.DummyLaws.{dummy_nowhere, dummy_full, dummy_largest, dummy_free}
use borrow.Author.Rules.{rules}
use Rattle.network_dummy.proofs.dummy_number.Goals as goal
use Rattle.network_dummy.proofs.dummy_number.Goals.{After-count_at_most, After-some_line_full, Else-not-is_site}

-- the site is there
there : (c : Else-not-is_site) → no_such_site (network_in c.args.state.now) c.args.site ≡ false
there c =
    let A = c.args in
    flip_true c.is_site.result (no_such_site (network_in A.state.now) A.site) c.is_site.ensures (not-false c.is_site.result c.if-not-is_site.false-raw)

at : (c : Else-not-is_site) (k : ℕ) → k ≡ c.args.site → AtSite c.args.state.now k
at c k same =
    let w = c.args.state.now in
    at_site w c.requires c.args.site k same (leb-false (length (network_in w).sites) c.args.site (there c))

-- what the mask finds is what the placement says
asked : (c : After-some_line_full) → c.some_line_full.result ≡ some_line_full (network_in c.args.state.now) c.args.site (is_line (network_in c.args.state.now).items c.args.site)
asked c =
    let A = c.args in
    let n = network_in A.state.now in
    c.some_line_full.ensures ∙ full_by_mask (is_line n.items A.site) c.children-mask.result c.children-mask.ensures n A.site

pub returns-then-not-is_site : goal.returns-then-not-is_site
returns-then-not-is_site c =
    let A = c.args in
    let n = network_in A.state.now in
    sym (dummy_nowhere n A.site (flip_false c.is_site.result (no_such_site n A.site) c.is_site.ensures (not-true c.is_site.result c.if-not-is_site.true-raw)))

pub children-mask-requires : goal.children-mask-requires
children-mask-requires c =
    let state : AtState c.args.state.now = at_state c.args.state.now c.requires in
    search rules

pub some_line_full-requires : goal.some_line_full-requires
some_line_full-requires c = let site = at (goal.at.some_line_full-requires c).Else-not-is_site c.args.site refl in record { sized = site.sized; ranged = site.ranged; from = site.few }

pub returns-then-some_line_full : goal.returns-then-some_line_full
returns-then-some_line_full c =
    let A = c.args in
    sym (dummy_full (network_in A.state.now) A.site (there (goal.at.returns-then-some_line_full c).Else-not-is_site) (sym (asked (goal.at.returns-then-some_line_full c).After-some_line_full) ∙ c.if-some_line_full.true))

pub count_at_most-requires : goal.count_at_most-requires
count_at_most-requires c =
    let site : AtSite c.args.state.now c.wide.result = at (goal.at.count_at_most-requires c).Else-not-is_site c.wide.result c.wide.ensures in
    search rules

-- the own count, at the site that was asked for
largest : (c : After-count_at_most) → c.count_at_most.result ≡ count_at_most (network_in c.args.state.now) c.args.site
largest c = c.count_at_most.ensures ∙ ap (count_at_most (network_in c.args.state.now)) c.wide.ensures

pub returns-then-count_at_most : goal.returns-then-count_at_most
returns-then-count_at_most c =
    let A = c.args in
    sym (dummy_largest (network_in A.state.now) A.site (there (goal.at.returns-then-count_at_most c).Else-not-is_site) (sym (asked (goal.at.returns-then-count_at_most c).After-some_line_full) ∙ c.if-some_line_full.false) (sym (largest (goal.at.returns-then-count_at_most c).After-count_at_most) ∙ c.if-count_at_most.true))

pub returns : goal.returns
returns c =
    let A = c.args in
    sym (dummy_free (network_in A.state.now) A.site (there (goal.at.returns c).Else-not-is_site) (sym (asked (goal.at.returns c).After-some_line_full) ∙ c.if-some_line_full.false) (sym (largest (goal.at.returns c).After-count_at_most) ∙ c.if-count_at_most.false))
