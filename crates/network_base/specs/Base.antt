-- What a network's base answers.
use Rattle.std.specs.Prelude.{◌≡◌, Bool, false, List, [], ℕ, ℤ, pos, length, replicate}
use Rattle.std.specs.declared.result.Result.{Result}
use Rattle.causes.specs.declared.Refusal.{Refusal}
use Rattle.causes.specs.Refusals.{number_of, answered}
use Rattle.lists.specs.Lists.{padded}
use Rattle.limits.specs.Limits.{items_most}
use Rattle.protocol.specs.Network.{no_stamp}
use Rattle.protocol.specs.Questions.{base, answer}
use Rattle.protocol.specs.Calls.{ask}
use Rattle.network_layout.specs.declared.Based.{Based}
use Rattle.network_layout.specs.InWords.{meaning}
use Rattle.network_layout.specs.Promises.{Performed}

-- whether commits have been removed; a value for each item
abbrev pub folded_answer : List ℕ → Bool
folded_answer w = answer base false (λ n. n.base.folded) (meaning w)

abbrev pub base_answer : List ℕ → List ℤ
base_answer w = answer base [] (λ n. n.base.values) (meaning w)

pub record BaseAnswered (entry : List ℕ) (r : Result Based Refusal) : Type 0 where
  pub performed : Performed (ask base) entry entry (number_of r) 0 no_stamp []
  pub folded_is : answered false (λ a. a.folded) r ≡ folded_answer entry
  pub count_is : answered 0 (λ a. a.count) r ≡ length (base_answer entry)
  pub values_are : answered (replicate items_most (pos 0)) (λ a. a.values) r ≡ padded items_most (pos 0) (base_answer entry)
