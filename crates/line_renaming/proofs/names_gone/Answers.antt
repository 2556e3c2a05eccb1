-- `names_gone` goes over the messages and leaves at the first that names a commit that goes.
use mathlib.Core.Path.{◌≡◌, refl, ap, ◌∙◌}
use native.Mathlib.Omega.{arith}
use Prim.Native.Nat.{ℕ, ◌+◌}
use lib.ListN.{get_or}
use Rattle.std.proofs.Common.{rules, tests}
use Rattle.std.specs.List.{list_any, range_with_len}
use Rattle.std.proofs.lemmas.Iterator.{YieldsList-from_range}
use Rattle.std.proofs.lemmas.Iterator.Search.{any_from_yields_List}
use Rattle.messages.specs.Messages.{commit}
use Rattle.lines.specs.InWords.{line_in}
use Rattle.line_renaming.specs.Renaming.{names_gone}
use Rattle.line_renaming.proofs.RenamingLaws.{any_by_place}
use Rattle.line_renaming.proofs.names_gone.Goals as goal

pub returns : goal.returns
returns c =
    let A = c.args in
    let ms = (line_in A.l.now).messages in
    let n = c.held.result in
    let test = names_gone A.names.now in
    let at = λ (i : ℕ). test (get_or ms i (commit 0)) in
    any_from_yields_List at _ _ c.any.result c.any.ensures.ran (YieldsList-from_range 0 n n refl (omega arith)) (λ x b q k. search (rules, tests))
    ∙ ap (λ (m : ℕ). list_any at (range_with_len 0 m)) c.held.ensures.0
    ∙ any_by_place test at ms 0 (λ i h. let first : 0 + i ≡ i = omega arith in ap at first)
