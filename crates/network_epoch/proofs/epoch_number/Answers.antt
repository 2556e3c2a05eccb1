-- `epoch_number` asks for the causes in the order of their numbers.
use mathlib.Core.Path.{◌≡◌, sym, ap, ◌∙◌}
use mathlib.Core.Bool.{false}
use Prim.Native.Nat.{ℕ}
use native.Mathlib.Omega.{arith}
use borrow.Author.Tests.{leb-false, not-true, not-false}
use lib.ListN.{length}
use Rattle.timestamp_order.specs.Timestamp.{Stamp}
use Rattle.lists.proofs.Numbers.{flip_true, flip_false}
use Rattle.protocol.specs.Network.{site_at}
use Rattle.protocol.specs.Steps.{no_such_site}
use Rattle.network_layout.specs.InWords.{network_in}
use Rattle.network_layout.specs.At.{AtState, AtSite}
use Rattle.network_layout.proofs.OnNetwork.{at_state, at_site}
use Rattle.network_epoch.proofs.EpochLaws.{epoch_nowhere, epoch_below, epoch_old, epoch_new}
use borrow.Author.Rules.{rules}
use Rattle.network_epoch.proofs.epoch_number.Goals as goal
use Rattle.network_epoch.proofs.epoch_number.Goals.{After-site_stamp-t, Else-not-is_site}

-- the site is there
there : (c : Else-not-is_site) → no_such_site (network_in c.args.state.now) c.args.site ≡ false
there c =
    let A = c.args in
    flip_true c.is_site.result (no_such_site (network_in A.state.now) A.site) c.is_site.ensures (not-false c.is_site.result c.if-not-is_site.false-raw)

-- the epoch that the code reads is the site's
present : (c : After-site_stamp-t) → c.site_stamp-t.result.epoch.0 ≡ (site_at (network_in c.args.state.now) c.args.site).stamp.epoch
present c =
    let w = c.args.state.now in
    ap (λ (t : Stamp). t.epoch) c.site_stamp-t.ensures.means ∙ ap (λ (j : ℕ). (site_at (network_in w) j).stamp.epoch) c.wide.ensures

pub returns-then-not-is_site : goal.returns-then-not-is_site
returns-then-not-is_site c =
    let A = c.args in
    let n = network_in A.state.now in
    sym (epoch_nowhere n A.site A.to (flip_false c.is_site.result (no_such_site n A.site) c.is_site.ensures (not-true c.is_site.result c.if-not-is_site.true-raw)))

pub has_parents-requires : goal.has_parents-requires
has_parents-requires c =
    let at : AtState c.args.state.now = at_state c.args.state.now c.requires in
    search rules

pub returns-then-has_parents : goal.returns-then-has_parents
returns-then-has_parents c =
    let A = c.args in
    sym (epoch_below (network_in A.state.now) A.site A.to (there (goal.at.returns-then-has_parents c).Else-not-is_site) (sym c.has_parents.ensures ∙ c.if-has_parents.true))

pub site_stamp-t-requires : goal.site_stamp-t-requires
site_stamp-t-requires c =
    let A = c.args in
    let at : AtSite A.state.now c.wide.result = at_site A.state.now c.requires A.site c.wide.result c.wide.ensures (leb-false (length (network_in A.state.now).sites) A.site (there (goal.at.site_stamp-t-requires c).Else-not-is_site)) in
    search rules

pub returns-then-to-present : goal.returns-then-to-present
returns-then-to-present c =
    let A = c.args in
    sym (epoch_old (network_in A.state.now) A.site A.to (there (goal.at.returns-then-to-present c).Else-not-is_site) (sym c.has_parents.ensures ∙ c.if-has_parents.false) (omega (arith, present (goal.at.returns-then-to-present c).After-site_stamp-t, c.if-to-present.true)))

pub returns : goal.returns
returns c =
    let A = c.args in
    sym (epoch_new (network_in A.state.now) A.site A.to (there (goal.at.returns c).Else-not-is_site) (sym c.has_parents.ensures ∙ c.if-has_parents.false) (omega (arith, present (goal.at.returns c).After-site_stamp-t, c.if-to-present.false)))
