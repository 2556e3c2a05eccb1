-- What is asked of the words that a line is laid into; an origin as words.
use Rattle.std.specs.Prelude.{◌≡◌, List, [], ◌∷◌, ℕ, ◌<◌, length, Ok, Err}
use Rattle.std.specs.declared.result.Result.{Result}
use Rattle.causes.specs.declared.Refusal.{Refusal}
use Rattle.causes.specs.Refusals.{answered}
use Rattle.network_layout.specs.declared.Lined.{Lined}
use Rattle.network_layout.specs.declared.Origin.{Origin}
use Rattle.network_layout.specs.declared.Origin.TheVariants.{Start, Folded, Commit}

-- ---- a line's two counts, 0 where it is refused
abbrev pub line_held : Result Lined Refusal → ℕ
line_held r = answered 0 (λ a. a.held) r

abbrev pub line_arrived : Result Lined Refusal → ℕ
line_arrived r = answered 0 (λ a. a.arrived) r

pub record ForLine (w : List ℕ) (given : Result Lined Refusal) : Type 0 where
  pub sized : length w ≡ 2
  pub held_few : line_held given < 4294967296
  pub arrived_few : line_arrived given < 4294967296

-- kind 1 is the start value, kind 2 a commit, with its record number, kind 3 folded; zeros, which are none of them, where it is refused
abbrev pub origin_words : Result Origin Refusal → List ℕ
origin_words (Err refusal) = 0 ∷ (0 ∷ [])
origin_words (Ok Start) = 1 ∷ (0 ∷ [])
origin_words (Ok Folded) = 3 ∷ (0 ∷ [])
origin_words (Ok (Commit k)) = 2 ∷ (k ∷ [])
