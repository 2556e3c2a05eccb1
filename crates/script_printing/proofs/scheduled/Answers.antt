-- `scheduled` prints the number and, of an accepted schedule, the parent and the timestamp.
use mathlib.Core.Path.{refl, ap, ◌∙◌}
use mathlib.Core.List.{[], ◌∷◌, append_assoc}
use native.Mathlib.Omega.{arith}
use Rattle.decimal.specs.Decimal.{digits}
use Rattle.causes.specs.Refusals.{refusal_number, number_of}
use Rattle.causes.proofs.Refusals.{refusal_some}
use Rattle.timestamp.specs.Value.{stamp_of}
use Rattle.protocol.specs.Network.{no_stamp}
use Rattle.protocol.specs.Calls.{schedule}
use Rattle.script_notation.specs.Fields.{space}
use Rattle.script_notation.specs.Print.{stamp_text, fields_of}
use Rattle.script_notation.proofs.Putting.{put_as, put_then, print_refused, print_accepted}
use Rattle.script_printing.proofs.scheduled.Goals as goal

pub returns-in_default : goal.returns-in_default
returns-in_default c =
    let e = c.in_default.field-0 in
    let text = ap digits (c.number_of.ensures ∙ ap number_of c.in_default.is) ∙ print_refused (schedule 0) (fields_of (refusal_number e) 0 no_stamp []) (refusal_some e) in
    rw c.in_default.is (put_as (omega arith) text c.number.ensures)

pub returns : goal.returns
returns c =
    let p = c.in-Ok.done.parent in
    let t = stamp_of c.in-Ok.done.stamp in
    let text = append_assoc (digits 0) (space ∷ digits p) (stamp_text t) ∙ print_accepted (schedule 0) (fields_of 0 p t []) refl in
    rw c.in-Ok.is (put_as (omega arith) text (put_then (omega arith) c.with_parent-end.ensures c.stamp.ensures))
