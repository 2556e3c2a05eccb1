-- `head_writes` reads the line's oldest message: the record that it names has its writes, or it has none.
use native.Mathlib.Omega.{arith}
use Rattle.protocol.specs.Steps.{head}
use Rattle.network_layout.specs.InWords.{network_in}
use Rattle.network_layout.specs.At.{AtLine}
use Rattle.network_choice.proofs.ChoiceLaws.{parent_line, head_dummy, head_commit, head_recorded}
use Rattle.network_schedule.proofs.ScheduleLaws.{laid_dummy, laid_commit}
use borrow.Author.Rules.{rules}
use Rattle.network_schedule.proofs.head_writes.Goals as goal

pub line_first_name-name-requires : goal.line_first_name-name-requires
line_first_name-name-requires c =
    let A = c.args in
    let at : AtLine A.state.now c.line_number.result = parent_line A.state.now A.j c.requires.free A.p c.requires.line c.line_number.result c.line_number.ensures in
    search rules

pub returns-then-name-ge-RECORDS : goal.returns-then-name-ge-RECORDS
returns-then-name-ge-RECORDS c =
    let A = c.args in
    let n = network_in A.state.now in
    let k = c.line_number in
    let m = c.line_first_name-name in
    laid_dummy n A.j (head n A.p A.j) _ (head_dummy A.state.now A.j c.requires.free A.p c.requires.line k.result k.ensures m.result m.ensures c.if-name-ge-RECORDS.true) _

pub record_writes-requires : goal.record_writes-requires
record_writes-requires c =
    let A = c.args in
    let k = c.line_number in
    let m = c.line_first_name-name in
    let held = head_recorded A.state.now A.j c.requires.free A.p c.requires.line k.result k.ensures m.result m.ensures c.if-name-ge-RECORDS.false in
    record { net = c.requires.free.net; there = omega (arith, held, c.wide.ensures) }

pub returns : goal.returns
returns c =
    let A = c.args in
    let n = network_in A.state.now in
    let k = c.line_number in
    let m = c.line_first_name-name in
    let is = head_commit A.state.now A.j c.requires.free A.p c.requires.line k.result k.ensures m.result m.ensures c.if-name-ge-RECORDS.false in
    laid_commit n A.j (head n A.p A.j) m.result is c.wide.result c.wide.ensures c.record_writes.result.count c.record_writes.result.ops c.record_writes.ensures
