-- `wanted_one` leaves what is gathered, or lays one operation behind it.
use mathlib.Core.Path.{sym, ◌∙◌}
use borrow.Author.Tests.{not-true, not-false}
use Rattle.network_layout.specs.InWords.{network_in}
use Rattle.protocol.specs.Steps.{wanted_at}
use Rattle.network_schedule.proofs.ScheduleLaws.{laid_same, laid_more}
use Rattle.network_schedule.proofs.wanted_one.Goals as goal

pub returns-then-not-is_wanted : goal.returns-then-not-is_wanted
returns-then-not-is_wanted c =
    let A = c.args in
    laid_same (wanted_at (network_in A.state.now).items A.j) A.ops.now A.out.now A.i A.count c.requires.so_far (sym c.is_wanted.ensures ∙ not-true c.is_wanted.result c.if-not-is_wanted.true-raw)

pub returns : goal.returns
returns c =
    let A = c.args in
    laid_more (wanted_at (network_in A.state.now).items A.j) A.ops.now A.out.now A.i A.count c.requires.so_far (sym c.is_wanted.ensures ∙ not-false c.is_wanted.result c.if-not-is_wanted.false-raw) c.copy_one.new.out c.copy_one.ensures
