-- What is parsed of a line means: one number, or two.
use Rattle.std.specs.Prelude.{◌≡◌, List, ℕ}
use Rattle.std.specs.declared.option.Option.{Option}
use Rattle.lists.specs.Answers.{given_as}
use Rattle.decimal.specs.Decimal.{natural}
use Rattle.protocol.specs.Calls.{Call}
use Rattle.script_notation.specs.Fields.{fields_from}
use Rattle.script_notation.specs.Parse.{on, all, one, two}

-- every call that takes one number, or two, is the call of those that were parsed
pub record OneNumber (text : List ℕ) (r : Option ℕ) : Type 0 where
  pub each : (f : ℕ → Call) → given_as f r ≡ on (all natural (fields_from text 2)) (one f)

pub record TwoNumbers (text : List ℕ) (r : Option (ℕ × ℕ)) : Type 0 where
  pub each : (f : ℕ → ℕ → Call) → given_as (λ p. f p.0 p.1) r ≡ on (all natural (fields_from text 2)) (two f)
