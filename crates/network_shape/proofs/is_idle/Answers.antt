-- `is_idle` looks at both counts, the second only where the first is 0.
use mathlib.Core.Path.{sym, ap, ap₂, ◌∙◌}
use mathlib.Core.Bool.{Bool, ◌&&◌}
use lib.Dec.{eqb}
use Rattle.lines.specs.InWords.{line_in}
use Rattle.network_shape.proofs.is_idle.Goals as goal

pub returns-then-is_empty : goal.returns-then-is_empty
returns-then-is_empty c =
    let empty = c.is_empty in
    ap₂ (λ (s t : Bool). s && t) (sym c.if-is_empty.true ∙ empty.ensures) (ap (λ x. eqb x 0) c.arrived.ensures)

pub returns : goal.returns
returns c =
    let empty = c.is_empty in
    let l = c.args.l.now in
    ap (λ (s : Bool). s && eqb (line_in l).arrived 0) (sym c.if-is_empty.false ∙ empty.ensures)
