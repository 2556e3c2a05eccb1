-- `begin` holds the bytes up to the first newline, and answers the line where it ends and there is room.
use mathlib.Core.Path.{sym, ◌∙◌}
use mathlib.Core.List.{◌++◌}
use Prim.Native.Nat.{◌+◌}
use native.Mathlib.Omega.{arith}
use lib.ListN.{length, take, length-take}
use lib.Seq.{length-take-le}
use lib.Dec.{ltb, leb}
use borrow.Author.Tests.{leb-true, not-true, not-false}
use Rattle.lists.proofs.Every.{and_true}
use Rattle.script_notation.proofs.Places.{place_within}
use Rattle.console_notation.specs.Lines.{newline, clip_most, line_most}
use Rattle.console_held.specs.Held.{held_of}
use Rattle.console_blocks.proofs.Steps.{begun_held, begun_answered}
use Rattle.console_blocks.proofs.begin.Goals as goal

pub slice_bounds-hold-end : goal.slice_bounds-hold-end
slice_bounds-hold-end c = sym (length-take-le c.line_end-end.result c.args.block.now (omega (arith, place_within newline c.args.block.now, c.line_end-end.ensures)))

pub returns-then-not-goes_on : goal.returns-then-not-goes_on
returns-then-not-goes_on c =
    let G = c.goes_on in
    begun_held c.line_end-end.ensures c.requires (sym G.ensures ∙ not-true G.result c.if-not-goes_on.true-raw) c.hold-line.ensures

pub answer-reply-requires : goal.answer-reply-requires
answer-reply-requires c =
    let A = c.args in
    let found = c.line_end-end in
    let H = c.hold-line in
    let G = c.goes_on in
    let size = length A.out.now in
    let tests = and_true (ltb found.result (length A.block.now)) (leb (A.at + line_most) size) (sym G.ensures ∙ not-false G.result c.if-not-goes_on.false-raw) in
    record {
      whole = omega (arith, H.ensures.count_is, length-take clip_most (held_of A.held ++ take found.result A.block.now));
      formed_is = c.requires;
      room = leb-true (A.at + line_most) size tests.1;
    }

pub overflow_add-result : goal.overflow_add-result
overflow_add-result c = omega (arith, place_within newline c.args.block.now, c.line_end-end.ensures)

pub returns : goal.returns
returns c =
    let G = c.goes_on in
    begun_answered c.line_end-end.ensures (sym G.ensures ∙ not-false G.result c.if-not-goes_on.false-raw) c.hold-line.ensures c.nothing.ensures c.answer-reply.ensures
