-- `round_on` is refused for the first cause, and else does the round.
use mathlib.Core.Path.{sym}
use Rattle.network_round.proofs.RoundLaws.{round_ready, round_refused, round_answered}
use Rattle.network_round.proofs.round_on.Goals as goal

pub returns-in_err-round_number : goal.returns-in_err-round_number
returns-in_err-round_number c =
    round_refused c.args.state.now c.requires c.from_residual.result c.in_err-round_number.field-0.0 c.from_residual.ensures.1 c.in_err-round_number.ensures

-- no cause holds
pub round_done-requires : goal.round_done-requires
round_done-requires c = round_ready c.args.state.now c.requires (sym c.in_ok-round_number.ensures)

pub returns : goal.returns
returns c = round_answered c.args.state.now c.requires (sym c.in_ok-round_number.ensures) c.round_done.new.state c.round_done.result c.round_done.ensures
