-- `none_on_way` compares what the line holds with what has arrived.
use mathlib.Core.Path.{ap, ap₂, ◌∙◌}
use mathlib.Core.Bool.{Bool}
use Prim.Native.Nat.{ℕ}
use lib.ListN.{length, get_or}
use lib.Dec.{leb}
use Rattle.lines.specs.Lines.{no_line}
use Rattle.network_layout.specs.InWords.{network_in}
use Rattle.network_deliver.proofs.none_on_way.Goals as goal

pub returns : goal.returns
returns c =
    let A = c.args in
    let n = network_in A.state.now in
    ap₂ {C = Bool} (λ (h a : ℕ). leb h a) c.line_held.ensures.0 c.line_arrived.ensures ∙ ap (λ (j : ℕ). leb (length (get_or n.lines j no_line).messages) (get_or n.lines j no_line).arrived) c.line_number-k.ensures
