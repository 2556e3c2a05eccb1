-- `sites_shaped` leaves at the first site whose timestamp is not its own.
use mathlib.Core.Path.{◌≡◌, refl, ap, ◌∙◌}
use Prim.Native.Nat.{ℕ, ◌*◌, ◌-◌}
use native.Mathlib.Omega.{arith}
use borrow.Author.Tests.{not-true, not-false}
use Rattle.words.specs.Words.{part}
use Rattle.timestamp_order.specs.Order.{rank}
use Rattle.timestamp_words.specs.InWords.{stamp_shaped}
use Rattle.site.specs.InWords.{site_size}
use Rattle.network_line_shape.proofs.Walk.{walk_false, walk_next, walk_done}
use Rattle.network_shape.proofs.sites_shaped.Goals as goal
use Rattle.network_shape.proofs.sites_shaped.Goals.{After-made_by}

-- what a turn asks
asked : (c : After-made_by) → let A = c.args in c.made_by.result ≡ stamp_shaped (rank A.places) c.loop-i.i (part A.w.now (c.loop-i.i * site_size) site_size)
asked c =
    let A = c.args in
    let w = A.w.now in
    c.made_by.ensures ∙ ap (stamp_shaped (rank A.places) c.loop-i.i) (c.chunk.ensures ∙ ap (λ (j : ℕ). part w (j * site_size) site_size) c.wide.ensures)

pub loop-i-init : goal.loop-i-init
loop-i-init c = (omega arith, refl)

pub returns-then-not-made_by : goal.returns-then-not-made_by
returns-then-not-made_by c =
    let A = c.args in
    let l = c.loop-i in
    walk_false (stamp_shaped (rank A.places)) site_size A.n A.w.now l.i l.invariant.1 c.loop-i-test.true c.made_by.result (asked (goal.at.returns-then-not-made_by c).After-made_by) (not-true _ c.if-not-made_by.true-raw)

pub loop-i-preserved : goal.loop-i-preserved
loop-i-preserved c =
    let A = c.args in
    let l = c.loop-i in
    (omega arith, walk_next (stamp_shaped (rank A.places)) site_size A.n A.w.now l.i l.invariant.1 c.loop-i-test.true c.made_by.result (asked (goal.at.loop-i-preserved c).After-made_by) (not-false _ c.if-not-made_by.false-raw))

pub returns : goal.returns
returns c =
    let A = c.args in
    let l = c.loop-i in
    walk_done (stamp_shaped (rank A.places)) site_size A.n A.w.now l.i l.invariant.1 c.loop-i-test.false
