-- `records_shaped` leaves at the first record of another shape.
use mathlib.Core.Path.{◌≡◌, refl, ap, ◌∙◌}
use Prim.Native.Nat.{◌*◌, ◌-◌}
use native.Mathlib.Omega.{arith}
use borrow.Author.Tests.{not-true, not-false}
use Rattle.words.specs.Words.{part, chunks}
use lib.ListN.{length}
use Rattle.words.proofs.Parts.{part_length}
use Rattle.timestamp_order.specs.Order.{rank}
use Rattle.records.specs.InWords.{record_size}
use Rattle.network_shape.specs.Tested.{record_test}
use Rattle.network_line_shape.proofs.Walk.{every_from_lem, walk_false, walk_next, walk_done}
use Rattle.network_shape.proofs.ShapeLaws.{record_sized}
use Rattle.network_shape.proofs.records_shaped.Goals as goal
use Rattle.network_shape.proofs.records_shaped.Goals.{After-shaped}

-- what a turn asks
asked : (c : After-shaped) → let A = c.args in c.shaped.result ≡ record_test (rank A.places) A.sites A.items (part A.w.now (c.loop-k.k * record_size) record_size)
asked c =
    let lent = c.chunk in
    let A = c.args in
    let at = c.loop-k.k * record_size in
    let size : length (part A.w.now at record_size) ≡ record_size = part_length A.w.now at record_size (omega (arith, c.loop-k-test.true, c.requires.sized, c.requires.few)) in
    record_sized (rank A.places) A.sites A.items lent.result.now (ap length lent.ensures ∙ size) c.shaped.result c.shaped.ensures ∙ ap (record_test (rank A.places) A.sites A.items) lent.ensures

pub loop-k-init : goal.loop-k-init
loop-k-init c = (omega arith, refl)

pub returns-then-not-shaped : goal.returns-then-not-shaped
returns-then-not-shaped c =
    let A = c.args in
    let l = c.loop-k in
    walk_false (λ _. record_test (rank A.places) A.sites A.items) record_size A.made A.w.now l.k l.invariant.1 c.loop-k-test.true c.shaped.result (asked (goal.at.returns-then-not-shaped c).After-shaped) (not-true _ c.if-not-shaped.true-raw)
    ∙ every_from_lem (record_test (rank A.places) A.sites A.items) 0 (chunks record_size A.made A.w.now)

pub loop-k-preserved : goal.loop-k-preserved
loop-k-preserved c =
    let A = c.args in
    let l = c.loop-k in
    (omega arith, walk_next (λ _. record_test (rank A.places) A.sites A.items) record_size A.made A.w.now l.k l.invariant.1 c.loop-k-test.true c.shaped.result (asked (goal.at.loop-k-preserved c).After-shaped) (not-false _ c.if-not-shaped.false-raw))

pub returns : goal.returns
returns c =
    let A = c.args in
    let l = c.loop-k in
    walk_done (λ _. record_test (rank A.places) A.sites A.items) record_size A.made A.w.now l.k l.invariant.1 c.loop-k-test.false
    ∙ every_from_lem (record_test (rank A.places) A.sites A.items) 0 (chunks record_size A.made A.w.now)
