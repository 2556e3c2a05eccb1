-- `has_parents` asks each item whether it has a copy at the site.
use Rattle.std.proofs.Common.{◌∙◌, refl, ap, rules, tests, arith, ℕ}
use Rattle.std.specs.List.{list_any, range_with_len}
use Rattle.std.proofs.lemmas.Iterator.{YieldsList-from_range}
use Rattle.std.proofs.lemmas.Iterator.Search.{any_from_yields_List}
use Rattle.placement.specs.Placement.{has_parents}
use Rattle.placement.proofs.Items.{copied}
use Rattle.placement.specs.InWords.{item_at}
use Rattle.placement_lines.proofs.Asked.{asked}
use Rattle.placement_lines.proofs.has_parents.Goals as goal

pub returns : goal.returns
unfolding has_parents
returns c =
    let A = c.args in
    let n = c.min.result in
    let copies = λ (k : ℕ). copied A.c (item_at A.w.now k) in
    any_from_yields_List copies _ _ _ c.any.ensures.ran (YieldsList-from_range 0 n n refl (omega arith)) (λ x b q k. search (rules, tests))
    ∙ ap (λ (m : ℕ). list_any copies (range_with_len 0 m)) c.min.ensures
    ∙ asked (copied A.c) _ A.w.now
