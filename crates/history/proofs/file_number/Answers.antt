-- `file_number` asks for the causes in the order of their numbers.
use borrow.Author.Tests.{not-true, not-false}
use Rattle.history_file.proofs.Files.{file_short, file_unmarked, file_near, file_far, file_invalid, file_valid}
use Rattle.history.proofs.file_number.Goals as goal

pub returns-then-b-lt-TRAILER : goal.returns-then-b-lt-TRAILER
returns-then-b-lt-TRAILER c = file_short c.args.b.now c.if-b-lt-TRAILER.true

pub returns-then-not-marked : goal.returns-then-not-marked
returns-then-not-marked c = file_unmarked c.args.b.now c.if-b-lt-TRAILER.false c.marked.result c.marked.ensures (not-true c.marked.result c.if-not-marked.true-raw)

pub returns-then-d-lt-TRAILER : goal.returns-then-d-lt-TRAILER
returns-then-d-lt-TRAILER c = file_near c.args.b.now c.if-b-lt-TRAILER.false c.marked.result c.marked.ensures (not-false c.marked.result c.if-not-marked.false-raw) c.distance-d.result c.distance-d.ensures c.if-d-lt-TRAILER.true

pub returns-then-b-d : goal.returns-then-b-d
returns-then-b-d c = file_far c.args.b.now c.if-b-lt-TRAILER.false c.marked.result c.marked.ensures (not-false c.marked.result c.if-not-marked.false-raw) c.distance-d.result c.distance-d.ensures c.if-d-lt-TRAILER.false c.if-b-d.true

pub returns-then-not-valid : goal.returns-then-not-valid
returns-then-not-valid c = file_invalid c.args.b.now c.if-b-lt-TRAILER.false c.marked.result c.marked.ensures (not-false c.marked.result c.if-not-marked.false-raw) c.distance-d.result c.distance-d.ensures c.if-d-lt-TRAILER.false c.if-b-d.false c.valid.result c.valid.ensures (not-true c.valid.result c.if-not-valid.true-raw)

pub returns : goal.returns
returns c = file_valid c.args.b.now c.if-b-lt-TRAILER.false c.marked.result c.marked.ensures (not-false c.marked.result c.if-not-marked.false-raw) c.distance-d.result c.distance-d.ensures c.if-d-lt-TRAILER.false c.if-b-d.false c.valid.result c.valid.ensures (not-false c.valid.result c.if-not-valid.false-raw)
