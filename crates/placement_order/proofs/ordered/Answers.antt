-- `ordered` places one site after another: the table has the places of those placed so far.
use Rattle.std.proofs.Common.{◌≡◌, ◌∙◌, refl, arith}
use Rattle.std.specs.Prelude.{◌<◌}
use Rattle.limits.specs.Limits.{sites_most}
use Rattle.placement.proofs.Places.{next_of}
use Rattle.placement_order.specs.Tables.{line_in, is_free}
use Rattle.placement_order.proofs.First.{first_some, first_none}
use Rattle.placement_order.proofs.Order.{going_none, going_on, going_full, going_stuck, left_all, left_on, next_is}
use Rattle.placement_order.proofs.Upward.{rest_by_number}
use Rattle.placement_order.proofs.ordered.Goals as goal
use Rattle.placement_order.proofs.ordered.Goals.{In-Some}

-- the site that `next` gives is next
next_one : (c : In-Some) → (c.in-Some.c ≡ next_of sites_most (line_in c.args.lines) c.loop-count.invariant.0.placed) × (c.in-Some.c < sites_most)
next_one c =
    let f = first_some (is_free c.loop-count.table c.reached.result) sites_most c.next.result c.next.ensures c.in-Some.c c.in-Some.is in
    (next_is c.args.lines c.loop-count.table c.loop-count.count c.loop-count.invariant.0 c.loop-count.left c.loop-count.invariant.1 c.reached.result c.reached.ensures c.in-Some.c f.0, f.1)

pub loop-count-init : goal.loop-count-init
loop-count-init c = (going_none (line_in c.args.lines), left_all c.args.lines)

pub by_number-requires : goal.by_number-requires
by_number-requires c = omega (arith, c.loop-count.invariant.0.counted)

-- no line that is left goes down
pub returns-then-left-eq0 : goal.returns-then-left-eq0
returns-then-left-eq0 c =
    c.by_number.ensures ∙ rest_by_number c.args.lines c.loop-count.table c.loop-count.count c.loop-count.invariant.0 c.loop-count.left c.loop-count.invariant.1 c.if-left-eq0.true

-- no site is next
pub returns-in_default : goal.returns-in_default
returns-in_default c =
    let g = c.loop-count.invariant.0 in
    let none = first_none (is_free c.loop-count.table c.reached.result) sites_most c.next.result c.next.ensures c.in_default.is in
    let same = next_is c.args.lines c.loop-count.table c.loop-count.count g c.loop-count.left c.loop-count.invariant.1 c.reached.result c.reached.ensures _ refl in
    going_stuck (line_in c.args.lines) c.loop-count.table c.loop-count.count g c.loop-count-test.true (omega (arith, none, same))

pub bounds-table-c : goal.bounds-table-c
bounds-table-c c = (next_one c).1

pub without-left-requires : goal.without-left-requires
without-left-requires c = (next_one c).1

pub loop-count-preserved : goal.loop-count-preserved
loop-count-preserved c =
    let lines = c.args.lines in
    let g = c.loop-count.invariant.0 in
    let n = next_one (goal.at.loop-count-preserved c).In-Some in (
      going_on (line_in lines) c.loop-count.table c.loop-count.count g c.in-Some.c n.0 n.1 c.loop-count-test.true,
      left_on lines c.loop-count.table c.loop-count.count g c.loop-count.left c.loop-count.invariant.1 c.in-Some.c n.1 c.loop-count-test.true c.without-left.result c.without-left.ensures,
    )

pub returns : goal.returns
returns c =
    going_full (line_in c.args.lines) c.loop-count.table c.loop-count.count c.loop-count.invariant.0 (omega arith)
