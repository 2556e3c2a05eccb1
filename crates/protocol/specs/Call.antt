-- Calls as data.
use Rattle.std.specs.Prelude.{List, ℕ, ℤ}
use Rattle.protocol.specs.Questions.{Question}

pub data Call : Type 0 where
  set_up : (sites items : ℕ) (primaries masks : List ℕ) → Call
  commit : (site : ℕ) (kinds items : List ℕ) (values : List ℤ) → Call
  dummy : (site : ℕ) → Call
  epoch : (site number : ℕ) → Call
  deliver : (parent child : ℕ) → Call
  schedule : (site : ℕ) → Call
  collect : Call
  round : Call
  ask : (question : Question) → Call
