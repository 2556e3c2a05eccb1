-- `is_waiting` asks whether there is a first write, then for a copy.
use mathlib.Core.Path.{◌≡◌, ap, ◌∙◌}
use native.Mathlib.Omega.{arith}
use Rattle.placement.specs.Placement.{copies}
use Rattle.network_layout.specs.InWords.{network_in}
use Rattle.network_layout.proofs.Performs.{records_count}
use Rattle.network_waiting.specs.Places.{earliest_of}
use Rattle.network_waiting.proofs.ReportLaws.{not_waiting, where_copied}
use Rattle.network_waiting.proofs.is_waiting.Goals as goal

pub returns-then-record_count-writers : goal.returns-then-record_count-writers
returns-then-record_count-writers c =
    let A = c.args in
    let w = A.state.now in
    let P = c.requires in
    let first_is : earliest_of A.writers.now c.wide.result ≡ earliest_of A.writers.now A.item = ap (earliest_of A.writers.now) c.wide.ensures in
    not_waiting (network_in w) A.site A.writers.now P.earliest_are A.item P.few (omega (arith, first_is, c.if-record_count-writers.true, c.record_count.ensures, records_count w))

pub returns : goal.returns
returns c =
    let A = c.args in
    let w = A.state.now in
    let P = c.requires in
    let first_is : earliest_of A.writers.now c.wide.result ≡ earliest_of A.writers.now A.item = ap (earliest_of A.writers.now) c.wide.ensures in
    let told : c.is_copied.result ≡ copies (network_in w).items A.site A.item = c.is_copied.ensures in
    told
    ∙ where_copied (network_in w) A.site A.writers.now P.earliest_are A.item P.few (omega (arith, first_is, c.if-record_count-writers.false, c.record_count.ensures, records_count w))
