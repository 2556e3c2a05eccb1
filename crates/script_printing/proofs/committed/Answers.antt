-- `committed` prints the number and, of an accepted commit, the timestamp and the values read.
use mathlib.Core.Path.{refl, ap, ◌∙◌}
use mathlib.Core.List.{[]}
use native.Mathlib.Omega.{arith}
use lib.ListN.{take}
use Rattle.decimal.specs.Decimal.{digits}
use Rattle.causes.specs.Refusals.{refusal_number, number_of}
use Rattle.causes.proofs.Refusals.{refusal_some}
use Rattle.timestamp.specs.Value.{stamp_of}
use Rattle.protocol.specs.Network.{no_stamp}
use Rattle.protocol.specs.Calls.{commit}
use Rattle.script_notation.specs.Print.{fields_of}
use Rattle.script_notation.proofs.Putting.{put_as, put_then, put_end, print_refused, print_accepted}
use Rattle.script_printing.proofs.committed.Goals as goal

pub returns-in_default : goal.returns-in_default
returns-in_default c =
    let e = c.in_default.field-0 in
    let text = ap digits (c.number_of.ensures ∙ ap number_of c.in_default.is) ∙ print_refused (commit 0 [] [] []) (fields_of (refusal_number e) 0 no_stamp []) (refusal_some e) in
    rw c.in_default.is (put_as (omega arith) text c.number-end.ensures)

pub returns : goal.returns
returns c =
    let a = c.in-Ok.done in
    let number = put_as {n = 10} (omega arith) (ap digits (c.number_of.ensures ∙ ap number_of c.in-Ok.is)) c.number-end.ensures in
    let behind = put_then (omega (arith, put_end c.number-end.ensures, c.number-end.auto.out)) c.stamp-behind.ensures c.values.ensures in
    rw c.in-Ok.is (put_as (omega arith) (print_accepted (commit 0 [] [] []) (fields_of 0 0 (stamp_of a.stamp) (take a.count a.values)) refl) (put_then (omega arith) number behind))
