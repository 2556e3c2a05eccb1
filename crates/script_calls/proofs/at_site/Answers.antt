-- `at_site` takes one number.
use mathlib.Core.Path.{ap}
use mathlib.Core.Bool.{not}
use Rattle.script_notation.proofs.Replying.{answered_none, answered_as, answered_unformed, answered_formed}
use Rattle.script_calls.specs.Chosen.{site_call}
use Rattle.script_calls.proofs.Choices.{site_needs}
use Rattle.script_calls.proofs.at_site.Goals as goal

pub returns-in_default : goal.returns-in_default
returns-in_default c = answered_none _ c.args.state.now (c.in_default.ensures.each (site_call c.args.schedules)) c.requires.formed_is c.question.ensures

pub returns-then-not-formed : goal.returns-then-not-formed
returns-then-not-formed c =
    let call = site_call c.args.schedules in
    let site = c.in-Some.site in
    answered_as (c.in-Some.ensures.each call)
    (answered_unformed (call site) c.args.state.now (site_needs c.args.schedules site) c.requires.formed_is (ap not c.if-not-formed.true) c.no_network.ensures)

pub returns : goal.returns
returns c =
    let call = site_call c.args.schedules in
    answered_as (c.in-Some.ensures.each call) (answered_formed (call c.in-Some.site) c.requires.formed_is (ap not c.if-not-formed.false) c.at_site_on.ensures)
