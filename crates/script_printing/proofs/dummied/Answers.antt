-- `dummied` prints the number and, of an accepted dummy, its timestamp.
use mathlib.Core.Path.{refl, ap, ◌∙◌}
use mathlib.Core.List.{[]}
use native.Mathlib.Omega.{arith}
use Rattle.decimal.specs.Decimal.{digits}
use Rattle.causes.specs.Refusals.{refusal_number, number_of}
use Rattle.causes.proofs.Refusals.{refusal_some}
use Rattle.timestamp.specs.Value.{stamp_of}
use Rattle.protocol.specs.Network.{no_stamp}
use Rattle.protocol.specs.Calls.{dummy}
use Rattle.script_notation.specs.Print.{fields_of}
use Rattle.script_notation.proofs.Putting.{put_as, put_then, print_refused, print_accepted}
use Rattle.script_printing.proofs.dummied.Goals as goal

pub returns-in_default : goal.returns-in_default
returns-in_default c =
    let e = c.in_default.field-0 in
    let text = ap digits (c.number_of.ensures ∙ ap number_of c.in_default.is) ∙ print_refused (dummy 0) (fields_of (refusal_number e) 0 no_stamp []) (refusal_some e) in
    rw c.in_default.is (put_as (omega arith) text c.number-end.ensures)

pub returns : goal.returns
returns c =
    let number = put_as {n = 10} (omega arith) (ap digits (c.number_of.ensures ∙ ap number_of c.in-Ok.is)) c.number-end.ensures in
    rw c.in-Ok.is (put_as (omega arith) (print_accepted (dummy 0) (fields_of 0 0 (stamp_of c.in-Ok.t) []) refl) (put_then (omega arith) number c.stamp.ensures))
