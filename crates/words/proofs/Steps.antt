-- A call that leaves the words of one thing as they were: they are of another size, or the step changes nothing.
use mathlib.Core.Path.{◌≡◌, refl, sym}
use mathlib.Core.Bool.{Bool}
use mathlib.Core.List.{List}
use Prim.Native.Nat.{ℕ}
use lib.ListN.{length}
use Rattle.words.specs.Words.{Stepped}

module _ {A : Type 0} (size : ℕ) (meaning : List ℕ → A) (range : List ℕ → Bool) (step : A → A) (w : List ℕ) where
  pub not_stepped : (length w ≡ size → ⊥) → Stepped size meaning range step w w
  not_stepped no_size = record { meant = λ e. absurd (no_size e); ranged = λ e r. r; kept = λ n. refl }

  pub step_same : step (meaning w) ≡ meaning w → Stepped size meaning range step w w
  step_same e = record { meant = λ s. sym e; ranged = λ s r. r; kept = λ n. refl }
