-- `signed` goes by the sign in front.
use mathlib.Core.Path.{ap, ◌∙◌}
use Rattle.decimal.specs.Decimal.{natural, negative, not_negative}
use Rattle.decimal.proofs.Signs.{signed_minus, signed_plus}
use Rattle.decimal.proofs.signed.Goals as goal

pub returns-in_err-natural-in-Some : goal.returns-in_err-natural-in-Some
returns-in_err-natural-in-Some c =
    let minus = c.in-Some.ensures.cases in
    rw c.from_residual.ensures (ap negative (c.in_err-natural-in-Some.ensures ∙ ap natural minus.1) ∙ signed_minus c.args.text.now minus.0)

pub returns-in_err-natural-in-None : goal.returns-in_err-natural-in-None
returns-in_err-natural-in-None c =
    rw c.from_residual-in_err-natural-in-None.ensures (ap not_negative c.in_err-natural-in-None.ensures ∙ signed_plus c.args.text.now c.in-None.ensures.cases)

pub returns-in_ok-natural-in-Some : goal.returns-in_ok-natural-in-Some
returns-in_ok-natural-in-Some c =
    let minus = c.in-Some.ensures.cases in
    c.below_zero.ensures ∙ ap negative (c.in_ok-natural-in-Some.ensures ∙ ap natural minus.1) ∙ signed_minus c.args.text.now minus.0

pub returns-in_ok-natural-in-None : goal.returns-in_ok-natural-in-None
returns-in_ok-natural-in-None c = c.above_zero.ensures ∙ ap not_negative c.in_ok-natural-in-None.ensures ∙ signed_plus c.args.text.now c.in-None.ensures.cases
