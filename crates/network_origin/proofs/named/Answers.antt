-- `named` tells a record's number from one that no record has, and then asks whether records have been removed.
use mathlib.Core.Path.{◌≡◌, sym}
use mathlib.Core.Bool.{Bool, true, false, cond}
use Prim.Native.Nat.{ℕ, ◌≤◌}
use borrow.Author.Tests.{lt-ltb, le-ltb}
use Rattle.limits.specs.Limits.{records_most}
use Rattle.network_layout.specs.declared.Origin.TheVariants.{Start, Folded}
use Rattle.network_writers.specs.Writers.{writer_of}
use Rattle.network_origin.specs.Answer.{named}
use Rattle.network_origin.proofs.named.Goals as goal

unnamed : (writer : ℕ) → records_most ≤ writer → (folded b : Bool) → folded ≡ b → cond b Folded Start ≡ named folded (writer_of writer)
unnamed writer high folded b e = sym (rw (le-ltb writer records_most high, e))

pub returns-then-writer-lt-RECORDS : goal.returns-then-writer-lt-RECORDS
returns-then-writer-lt-RECORDS c = sym (rw (lt-ltb c.args.writer records_most c.if-writer-lt-RECORDS.true))

pub returns-then-folded : goal.returns-then-folded
returns-then-folded c = let A = c.args in unnamed A.writer c.if-writer-lt-RECORDS.false A.folded true c.if-folded.true

pub returns : goal.returns
returns c = let A = c.args in unnamed A.writer c.if-writer-lt-RECORDS.false A.folded false c.if-folded.false
