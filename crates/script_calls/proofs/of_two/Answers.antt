-- `of_two` takes two numbers.
use mathlib.Core.Path.{ap}
use mathlib.Core.Bool.{not}
use mathlib.Core.List.{[]}
use native.Mathlib.Omega.{arith}
use Rattle.protocol.specs.Network.{no_stamp}
use Rattle.script_notation.specs.Print.{fields_of, answer_most}
use Rattle.script_notation.proofs.Putting.{put_as, print_number}
use Rattle.script_notation.proofs.Replying.{answered_none, answered_as, answered_unformed, answered_formed, replied_some}
use Rattle.script_calls.specs.Chosen.{pair_call}
use Rattle.script_calls.proofs.Choices.{pair_needs, pair_text}
use Rattle.script_calls.proofs.of_two.Goals as goal

pub returns-in_default : goal.returns-in_default
returns-in_default c = answered_none _ c.args.state.now (c.in_default.ensures.each (pair_call c.args.delivers)) c.requires.formed_is c.question.ensures

pub returns-then-not-formed : goal.returns-then-not-formed
returns-then-not-formed c =
    let call = pair_call c.args.delivers in
    let p = c.in-Some in
    answered_as (p.ensures.each call)
    (answered_unformed (call p.first p.second) c.args.state.now (pair_needs c.args.delivers p.first p.second) c.requires.formed_is (ap not c.if-not-formed.true) c.no_network.ensures)

pub returns : goal.returns
returns c =
    let p = c.in-Some in
    let done = c.of_two_on-number in
    let call = pair_call c.args.delivers p.first p.second in
    let outcome = fields_of done.result 0 no_stamp [] in
    let printed = put_as {n = answer_most} (omega arith) (print_number call outcome (pair_text c.args.delivers p.first p.second outcome)) c.number.ensures in
    answered_as (p.ensures.each (pair_call c.args.delivers)) (answered_formed call c.requires.formed_is (ap not c.if-not-formed.false) (replied_some call done.ensures printed))
