-- `feed_on` is the line that was held, the lines of the block, and what is left of it.
use native.Mathlib.Omega.{arith}
use Rattle.console_blocks.proofs.Steps.{end_within, fed_held, fed_lines}
use Rattle.console_blocks.proofs.feed_on.Goals as goal

pub returns-then-line-gt0 : goal.returns-then-line-gt0
returns-then-line-gt0 c = fed_held c.begin-first.ensures c.if-line-gt0.true

pub lines-rest-requires : goal.lines-rest-requires
lines-rest-requires c = c.begin-first.ensures.formed_is

pub overflow_add-end : goal.overflow_add-end
overflow_add-end c =
    let began = c.begin-first in
    omega (arith, c.well_formed.0.0, end_within c.args.block.now began.result.used began.ensures.within c.lines-rest.ensures)

pub hold_part-requires : goal.hold_part-requires
hold_part-requires c =
    let began = c.begin-first in
    let rest = c.lines-rest in
    record { ordered = omega (arith, rest.ensures.end_is); there = end_within c.args.block.now began.result.used began.ensures.within rest.ensures }

pub returns : goal.returns
returns c =
    let began = c.begin-first in
    fed_lines began.ensures c.if-line-gt0.false began.auto.out c.lines-rest.ensures c.hold_part.ensures
