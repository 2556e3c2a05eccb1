-- `parents` gathers what each item gives: m has the bits of the items before k.
use Rattle.std.proofs.Common.{◌∙◌, min, arith}
use Rattle.placement.specs.Placement.{is_line}
use Rattle.limits.specs.Limits.{items_most, sites_most}
use Rattle.placement_lines.proofs.Gathered.{items_next, items_mask}
use Rattle.placement_lines.proofs.parents.Invariants.{given}
use Rattle.placement_lines.proofs.parents.Goals as goal

pub loop-k-preserved : goal.loop-k-preserved
loop-k-preserved c =
    let A = c.args in
    items_next sites_most (given A.c) (min A.items items_most) A.w.now c.loop-k.m c.loop-k.k c.loop-k.invariant (omega arith) c.parents_by-m.result c.parents_by-m.ensures

pub returns : goal.returns
unfolding is_line
returns c =
    let A = c.args in
    c.below.ensures ∙ items_mask sites_most (given A.c) (min A.items items_most) A.w.now c.loop-k.m c.loop-k.k c.loop-k.invariant (omega arith)
