-- `one_number` takes all that stands behind the letter and its space.
use mathlib.Core.Path.{ap, ◌∙◌}
use Prim.Native.Nat.{◌-◌}
use native.Mathlib.Omega.{arith}
use lib.ListN.{length, drop, length-drop}
use lib.Seq.{take_all}
use Rattle.decimal.specs.Decimal.{natural}
use Rattle.script_notation.proofs.Numbers.{one_number, no_number, of_number}
use Rattle.script_parsing.proofs.one_number.Goals as goal

pub returns-in_err-get : goal.returns-in_err-get
returns-in_err-get c = rw c.from_residual.ensures (record { each = λ f. no_number f c.args.text.now (omega (arith, c.in_err-get.ensures.lookup.0)) })

pub returns : goal.returns
returns c =
    let T = c.args.text.now in
    let there = c.in_ok-get.ensures.lookup.0 in
    let rest = there.2 ∙ take_all (length T - 2) (drop 2 T) (omega (arith, length-drop 2 T)) in
    record { each = λ f. of_number c.natural.result f (c.natural.ensures ∙ ap natural rest) ∙ one_number f T there.0 }
