-- `lines` gathers what each item gives: m has the bits of the items before k.
use Rattle.std.proofs.Common.{◌∙◌, ap₂, ℕ, min, arith}
use Rattle.placement.specs.Placement.{is_line}
use Rattle.limits.specs.Limits.{items_most}
use Rattle.placement_lines.proofs.Gathered.{items_next, items_done}
use Rattle.placement_lines.proofs.lines.Invariants.{most, given}
use Rattle.placement_lines.proofs.lines.Goals as goal

pub loop-k-preserved : goal.loop-k-preserved
loop-k-preserved c =
    let A = c.args in
    items_next most given (min A.items items_most) A.w.now c.loop-k.m c.loop-k.k c.loop-k.invariant (omega arith) c.lines_by-m.result
    (λ j few. c.lines_by-m.ensures j few ∙ ap₂ (λ (p m : ℕ). given j (record { primary = p; mask = m })) c.primary.ensures c.mask.ensures)

pub returns : goal.returns
unfolding is_line
returns c =
    let A = c.args in
    items_done most given (min A.items items_most) A.w.now c.loop-k.m c.loop-k.k c.loop-k.invariant (omega arith)
