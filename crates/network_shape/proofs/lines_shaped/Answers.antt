-- `lines_shaped` leaves at the first line that does not fit.
use mathlib.Core.Path.{◌≡◌, refl, ap, ◌∙◌}
use Prim.Native.Nat.{◌+◌, ◌*◌, ◌-◌}
use native.Mathlib.Omega.{arith}
use Rattle.words.specs.Words.{part}
use lib.ListN.{length}
use Rattle.words.proofs.Parts.{part_length}
use Rattle.lines.specs.InWords.{line_size}
use Rattle.protocol.specs.Network.{lines_most}
use Rattle.network_line_shape.specs.LineTests.{history_in, line_test}
use Rattle.network_line_shape.proofs.Walk.{walk_false, walk_next, walk_done}
use Rattle.network_shape.proofs.ShapeLaws.{skip}
use Rattle.network_shape.proofs.lines_shaped.Goals as goal

pub next_used-k-requires : goal.next_used-k-requires
next_used-k-requires c = record { sized = c.requires.sized; few = omega arith }

pub loop-k-init : goal.loop-k-init
loop-k-init c =
    let A = c.args in
    let first = c.next_used-k.ensures in
    (first.few, λ xs bits ranked. skip xs (history_in A.kept.now A.made) A.w.now 0 c.next_used-k.result first refl)

pub line_shaped-requires : goal.line_shaped-requires
line_shaped-requires c =
    let w = c.args.w.now in
    let at = c.loop-k.k * line_size in
    let size : length (part w at line_size) ≡ line_size = part_length w at line_size (omega (arith, c.loop-k-test.true, c.requires.sized)) in
    record { sized = ap length c.chunk.ensures ∙ size; few = c.loop-k-test.true; history = c.requires.history }

pub returns-then-not-line_shaped : goal.returns-then-not-line_shaped
returns-then-not-line_shaped c xs bits ranked =
    let A = c.args in
    let l = c.loop-k in
    walk_false (line_test xs (history_in A.kept.now A.made)) line_size lines_most A.w.now l.k (l.invariant.1 xs bits ranked) c.loop-k-test.true c.line_shaped.result (c.line_shaped.ensures xs bits ranked ∙ ap (line_test xs (history_in A.kept.now A.made) l.k) c.chunk.ensures) c.if-not-line_shaped.true

pub next_used-k-requires-in-loop-k : goal.next_used-k-requires-in-loop-k
next_used-k-requires-in-loop-k c =
    record { sized = c.requires.sized; few = omega (arith, c.loop-k-test.true) }

pub loop-k-smaller : goal.loop-k-smaller
loop-k-smaller c =
    omega (arith, c.loop-k-test.true, c.next_used-k-in-loop-k.ensures.from)

pub loop-k-preserved : goal.loop-k-preserved
loop-k-preserved c =
    let A = c.args in
    let l = c.loop-k in
    let h = history_in A.kept.now A.made in
    let next = c.next_used-k-in-loop-k.ensures in (
      next.few,
      λ xs bits ranked.
          skip xs h A.w.now (l.k + 1) c.next_used-k-in-loop-k.result next
          (walk_next (line_test xs h) line_size lines_most A.w.now l.k (l.invariant.1 xs bits ranked) c.loop-k-test.true c.line_shaped.result (c.line_shaped.ensures xs bits ranked ∙ ap (line_test xs h l.k) c.chunk.ensures) c.if-not-line_shaped.false),
    )

pub returns : goal.returns
returns c xs bits ranked =
    let A = c.args in
    let l = c.loop-k in
    walk_done (line_test xs (history_in A.kept.now A.made)) line_size lines_most A.w.now l.k (l.invariant.1 xs bits ranked) c.loop-k-test.false
