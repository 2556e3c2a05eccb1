-- `made_at` asks for the record's site.
use mathlib.Core.Path.{ap, ◌∙◌}
use mathlib.Core.List.{List}
use Prim.Native.Nat.{ℕ}
use Rattle.records.specs.InWords.{record_in}
use Rattle.network_line_shape.proofs.LineLaws.{commit_by}
use Rattle.network_line_shape.proofs.made_at.Goals as goal

pub returns : goal.returns
returns c =
    let A = c.args in
    commit_by A.kept.now A.made A.p A.k c.requires.there c.site.result (c.site.ensures ∙ ap (λ (x : List ℕ). (record_in x).site) c.chunk.ensures)
