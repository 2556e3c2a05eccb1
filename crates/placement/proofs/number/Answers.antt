-- `number` walks over the items: before k none is faulty.
use Rattle.std.proofs.Common.{◌≡◌, ◌∙◌, sym, ap, ap₂, ℕ, min, arith, rules}
use Rattle.causes.specs.Refusals.{refusal_number}
use Rattle.causes.proofs.Refusals.{refusal_some, passed_on}
use Rattle.placement.specs.Placement.{item_number}
use Rattle.placement.specs.InWords.{item_at}
use Rattle.limits.specs.Limits.{items_most}
use Rattle.placement.proofs.Items.{faulty, not_yet_faulty, not_faulty}
use Rattle.placement.proofs.number.Goals as goal
use Rattle.placement.proofs.number.Goals.{After-item_number}

-- the number of item k
numbered : (c : After-item_number) →
    item_number c.args.sites (record { primary = c.primary.result; mask = c.mask.result }) ≡ item_number c.args.sites (item_at c.args.w.now c.loop-k.k)
numbered c =
    let s = c.args.sites in
    ap₂ (λ (p x : ℕ). item_number s (record { primary = p; mask = x })) c.primary.ensures c.mask.ensures

pub loop-k-init : goal.loop-k-init
loop-k-init c = search rules

pub returns-in_err-item_number : goal.returns-in_err-item_number
returns-in_err-item_number c =
    let A = c.args in
    let e = c.in_err-item_number.ensures ∙ numbered (goal.at.returns-in_err-item_number c).After-item_number in
    passed_on c.from_residual.result c.in_err-item_number.field-0.0 c.from_residual.ensures.1 ∙ e
    ∙ sym (faulty A.sites (min A.items items_most) A.w.now c.loop-k.k c.loop-k.invariant (omega arith) (λ z. refusal_some c.in_err-item_number.field-0.0 (e ∙ z)))

pub loop-k-preserved : goal.loop-k-preserved
loop-k-preserved c =
    let A = c.args in
    not_yet_faulty A.sites (min A.items items_most) A.w.now c.loop-k.k c.loop-k.invariant (omega arith)
    (sym (c.in_ok-item_number.ensures ∙ numbered (goal.at.loop-k-preserved c).After-item_number))

pub returns : goal.returns
returns c =
    let A = c.args in
    sym (not_faulty A.sites (min A.items items_most) A.w.now c.loop-k.k c.loop-k.invariant (omega arith))
