-- `gevrolen_line` lays what the reader answers.
use mathlib.Core.Path.{ap₂, ◌∙◌}
use mathlib.Core.List.{List, [], ◌∷◌}
use Prim.Native.Nat.{ℕ}
use Rattle.gevrolen_c.proofs.gevrolen_line.Goals as goal

pub returns : goal.returns
returns c =
    let e = c.line.ensures in
    let said = c.put_line.ensures in
    (rw said.0 e.performed, said.1 ∙ ap₂ {C = List ℕ} (λ (h a : ℕ). h ∷ (a ∷ [])) e.held_is e.arrived_is)
