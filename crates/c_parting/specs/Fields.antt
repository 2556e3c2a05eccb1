-- Where two timestamps part as two words, and what is asked of the words that it is laid into.
use Rattle.std.specs.Prelude.{◌≡◌, List, [], ◌∷◌, ℕ, ◌<◌, length}
use Rattle.std.proofs.Math.Option.{Option, none, some}
use Rattle.timestamp_order.specs.declared.Parting.{Parting}
use Rattle.timestamp_order.specs.Parting.{shared_of}

-- 1 and 0 where the epochs differ; else 0, and how many leading tuples are shared
abbrev pub parting_words : Option ℕ → List ℕ
parting_words none = 1 ∷ (0 ∷ [])
parting_words (some n) = 0 ∷ (n ∷ [])

-- no two answers have the same words
abbrev pub WordsTell : Type 0
WordsTell = (p q : Option ℕ) → parting_words p ≡ parting_words q → p ≡ q

pub record ForParting (w : List ℕ) (given : Parting) : Type 0 where
  pub sized : length w ≡ 2
  pub shared_few : (n : ℕ) → shared_of given ≡ some n → n < 4294967296
