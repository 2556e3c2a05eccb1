-- `value_count` asks the word that says whether a record was removed.
use mathlib.Core.Path.{sym, ap, ◌∙◌}
use mathlib.Core.Bool.{Bool, not, cond}
use lib.ListN.{get_or}
use borrow.Author.Tests.{eq-eqb, ne_eqb}
use Rattle.network_layout.specs.Layout.{item_count, base_at}
use Rattle.history_lead.proofs.LeadLaws.{folded_is}
use Rattle.history_lead.proofs.value_count.Goals as goal

pub returns-then-state-eq0 : goal.returns-then-state-eq0
returns-then-state-eq0 c =
    let w = c.args.state.now in
    sym (ap (λ (b : Bool). cond b (item_count w) 0) (folded_is w ∙ ap not (eq-eqb (get_or w base_at 0) 0 c.if-state-eq0.true)))

pub returns : goal.returns
returns c =
    let w = c.args.state.now in
    c.wide.ensures ∙ c.item_count.ensures ∙ sym (ap (λ (b : Bool). cond b (item_count w) 0) (folded_is w ∙ ap not (ne_eqb (get_or w base_at 0) 0 c.if-state-eq0.false)))
