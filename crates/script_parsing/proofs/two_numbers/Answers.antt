-- `two_numbers` asks for a space behind the first number.
use mathlib.Core.Path.{◌≡◌, ap, ◌∙◌}
use mathlib.Core.Option.{Option, none, some}
use Prim.Native.Nat.{ℕ, ◌+◌, ◌-◌}
use native.Mathlib.Omega.{arith}
use lib.ListN.{length, drop, length-drop}
use lib.Seq.{take_all}
use Rattle.decimal.specs.Decimal.{natural}
use Rattle.protocol.specs.Calls.{Call}
use Rattle.script_notation.specs.Fields.{space}
use Rattle.script_notation.specs.Parse.{on}
use Rattle.script_notation.proofs.Places.{place_within}
use Rattle.script_notation.proofs.Numbers.{two_numbers, no_numbers}
use Rattle.script_parsing.proofs.two_numbers.Goals as goal

-- two numbers that were parsed, or not
module _ (f : ℕ → ℕ → Call) {o : Option ℕ} (p : Option ℕ) where
  first_none : none ≡ o → none ≡ on o (λ a. on p (λ b. some (f a b)))
  first_none e = ap (λ (z : Option ℕ). on z (λ a. on p (λ b. some (f a b)))) e

  second_is : (a : ℕ) → some a ≡ o → (q : Option ℕ) → q ≡ p → on q (λ b. some (f a b)) ≡ on o (λ a. on p (λ b. some (f a b)))
  second_is a e q g = ap (λ (z : Option ℕ). on z (λ b. some (f a b))) g ∙ ap (λ (z : Option ℕ). on z (λ a. on p (λ b. some (f a b)))) e

pub overflow_add-end : goal.overflow_add-end
overflow_add-end c = omega (arith, c.find-end.ensures, place_within space (drop 2 c.args.text.now), length-drop 2 c.args.text.now)

pub returns-in_err-rest : goal.returns-in_err-rest
returns-in_err-rest c =
    let found = c.find-end in
    rw c.from_residual.ensures (record { each = λ f. no_numbers f c.args.text.now found.result found.ensures (omega (arith, c.in_err-rest.ensures.lookup.0)) })

pub returns-in_err-first : goal.returns-in_err-first
returns-in_err-first c =
    let found = c.find-end in
    let there = c.in_ok-rest.ensures.lookup.0 in
    rw c.from_residual-in_err-first.ensures (record { each = λ f. first_none f _ c.in_err-first.ensures ∙ two_numbers f c.args.text.now found.result found.ensures (omega (arith, there.0)) })

-- all that stands behind the space
pub returns-in_err-second : goal.returns-in_err-second
returns-in_err-second c =
    let T = c.args.text.now in
    let found = c.find-end in
    let there = c.in_ok-rest.ensures.lookup.0 in
    let rest = there.2 ∙ take_all (length T - (found.result + 1)) (drop (found.result + 1) T) (omega (arith, length-drop (found.result + 1) T)) in
    rw c.from_residual-in_err-second.ensures (record { each = λ f. second_is f _ c.in_ok-first.first c.in_ok-first.ensures none (c.in_err-second.ensures ∙ ap natural rest) ∙ two_numbers f T found.result found.ensures (omega (arith, there.0)) })

pub returns : goal.returns
returns c =
    let T = c.args.text.now in
    let found = c.find-end in
    let there = c.in_ok-rest.ensures.lookup.0 in
    let rest = there.2 ∙ take_all (length T - (found.result + 1)) (drop (found.result + 1) T) (omega (arith, length-drop (found.result + 1) T)) in
    record { each = λ f. second_is f _ c.in_ok-first.first c.in_ok-first.ensures (some c.in_ok-second.second) (c.in_ok-second.ensures ∙ ap natural rest) ∙ two_numbers f T found.result found.ensures (omega (arith, there.0)) }
