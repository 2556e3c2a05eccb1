-- `reply` feeds what is left of the block until all of it is used: all before is answered. What is left falls, since each turn finds room.
use mathlib.Core.Path.{◌≡◌, sym, ◌∙◌}
use Prim.Native.Nat.{◌+◌, ◌≤◌, ◌<◌}
use native.Mathlib.Omega.{arith}
use lib.ListN.{length}
use borrow.Author.Rules.{rules}
use borrow.Author.Tests.{ltb-true, ltb-false}
use Rattle.console_notation.specs.Lines.{clip_most, line_most}
use Rattle.console.proofs.Runs.{reached_none, reached_next, reached_end, reached_all, part_some}
use Rattle.console.proofs.reply.Goals as goal

pub loop-state-init : goal.loop-state-init
loop-state-init g c =
    let size : length c.args.held.bytes ≡ clip_most = search rules in
    (reached_none size, c.requires.formed_is)

pub overflow_add-used : goal.overflow_add-used
overflow_add-used g c =
    let within : c.loop-state.used + c.feed_on-r.result.used ≤ length c.args.block.now = (reached_next c.loop-state.invariant.0 c.feed_on-r.ensures.fed).within in
    search rules

pub loop-state-smaller : goal.loop-state-smaller
loop-state-smaller g c =
    let used = c.loop-state.used in
    let block = c.args.block.now in
    let some : used < length block = ltb-true used (length block) (sym c.left.ensures ∙ c.loop-state-test.true) in
    let room : line_most ≤ length c.loop-state.answers = omega (arith, c.requires.room, c.loop-state.auto.answers) in
    omega (arith, some, part_some c.loop-state.invariant.0 c.feed_on-r.ensures.fed some room)

pub loop-state-preserved : goal.loop-state-preserved
loop-state-preserved g c = (reached_next c.loop-state.invariant.0 c.feed_on-r.ensures.fed, c.feed_on-r.ensures.formed_is)

pub returns-then-not-written : goal.returns-then-not-written
returns-then-not-written g c = reached_end (reached_next c.loop-state.invariant.0 c.feed_on-r.ensures.fed) c.broken_off.ensures.more

pub returns : goal.returns
returns g c =
    let used = c.loop-state.used in
    let block = c.args.block.now in
    let all : length block ≤ used = ltb-false used (length block) (sym c.left.ensures ∙ c.loop-state-test.false) in
    reached_all all c.loop-state.invariant.1 c.loop-state.invariant.0
