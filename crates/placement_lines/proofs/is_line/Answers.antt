-- `is_line` asks each item whether it joins the two sites.
use Rattle.std.proofs.Common.{◌∙◌, refl, ap, rules, tests, arith, ℕ}
use Rattle.std.specs.List.{list_any, range_with_len}
use Rattle.std.proofs.lemmas.Iterator.{YieldsList-from_range}
use Rattle.std.proofs.lemmas.Iterator.Search.{any_from_yields_List}
use Rattle.placement.specs.Placement.{is_line, gives_line}
use Rattle.placement.specs.InWords.{item_at}
use Rattle.placement_lines.proofs.Asked.{asked}
use Rattle.placement_lines.proofs.is_line.Goals as goal

pub returns : goal.returns
unfolding is_line
returns c =
    let A = c.args in
    let n = c.min.result in
    let joined = λ (k : ℕ). gives_line A.p A.c (item_at A.w.now k) in
    any_from_yields_List joined _ _ _ c.any.ensures.ran (YieldsList-from_range 0 n n refl (omega arith)) (λ x b q k. search (rules, tests))
    ∙ ap (λ (m : ℕ). list_any joined (range_with_len 0 m)) c.min.ensures
    ∙ asked (gives_line A.p A.c) _ A.w.now
