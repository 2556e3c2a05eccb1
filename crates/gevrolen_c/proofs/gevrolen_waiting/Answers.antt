-- `gevrolen_waiting` lays what the report answers.
use mathlib.Core.Path.{ap₂, ◌∙◌}
use mathlib.Core.List.{List, ◌∷◌}
use Prim.Native.Nat.{ℕ}
use native.Mathlib.Omega.{arith}
use borrow.Author.Rules.{rules}
use Rattle.gevrolen_c.proofs.gevrolen_waiting.Goals as goal

pub put_report-requires : goal.put_report-requires
put_report-requires c = record { sized = search rules; few = omega (arith, c.waiting.ensures.few) }

pub returns : goal.returns
returns c =
    let e = c.waiting.ensures in
    let said = c.put_report.ensures in
    (rw said.0 e.performed, said.1 ∙ ap₂ {C = List ℕ} (λ (n : ℕ) (xs : List ℕ). n ∷ xs) e.count_is e.items_are)
