-- `writes` looks at all operations: there are eight at most.
use mathlib.Core.Path.{ap, ◌∙◌}
use native.Mathlib.Omega.{arith}
use lib.Seq.{take_all}
use Rattle.limits.specs.Limits.{ops_most}
use Rattle.site_operations.specs.Operations.{touches}
use Rattle.records.specs.InWords.{record_in}
use Rattle.records.proofs.Laws.{count_law}
use Rattle.records.proofs.writes.Goals as goal

pub returns : goal.returns
returns c =
    let A = c.args in
    let w = A.w.now in
    c.writes_before.ensures ∙ ap (touches A.item) (take_all ops_most (record_in w).ops (omega (arith, count_law w)))
