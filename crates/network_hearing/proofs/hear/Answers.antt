-- `hear` delivers, schedules and sends a dummy, each on what the one before leaves.
use mathlib.Core.Path.{◌∙◌}
use mathlib.Core.List.{[], ◌∷◌}
use Rattle.protocol.specs.Calls.{dummy}
use Rattle.network_hearing.proofs.WalkLaws.{step_walked, none_left, left_then}
use Rattle.network_hearing.proofs.HearingLaws.{delivers_first, schedules_then, dummy_left}
use Rattle.network_hearing.proofs.hear.Goals as goal

pub deliver_all-requires : goal.deliver_all-requires
deliver_all-requires c =
    record { walking = delivers_first c.args.state.now c.args.j c.requires.walking; few = c.requires.few }

pub schedule_all-requires : goal.schedule_all-requires
schedule_all-requires c =
    record {
      walking = schedules_then c.args.state.now c.args.j c.requires.walking c.deliver_all.new.state c.deliver_all.ensures;
      few = c.requires.few;
    }

pub returns : goal.returns
returns c =
    let left = dummy_left c.args.state.now c.args.j c.requires.walking c.deliver_all.new.state c.deliver_all.ensures c.schedule_all.new.state c.schedule_all.ensures in
    let done = step_walked left.walking c.dummy_on.ensures.performed (c.dummy_on.auto.state ∙ c.schedule_all.ensures.net.sized) in
    none_left (left_then (dummy c.args.j ∷ []) (λ m. []) left c.dummy_on.new.state done)
