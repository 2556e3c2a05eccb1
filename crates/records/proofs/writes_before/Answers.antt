-- `writes_before` leaves at the first operation that writes the item.
use mathlib.Core.Path.{◌≡◌, refl, sym, ap, ◌∙◌}
use native.Mathlib.Omega.{arith}
use Prim.Native.Nat.{ℕ, ◌+◌}
use lib.ListN.{get_or, take}
use Rattle.std.proofs.Common.{rules, tests}
use Rattle.std.specs.List.{list_any, range_with_len}
use Rattle.std.proofs.lemmas.Iterator.{YieldsList-from_range}
use Rattle.std.proofs.lemmas.Iterator.Search.{any_from_yields_List}
use Rattle.site_operations.specs.Operations.{writes_item, no_op}
use Rattle.record_codes.specs.Codes.{places_in}
use Rattle.records.specs.InWords.{record_in}
use Rattle.records.proofs.Laws.{op_before, any_by_place}
use Rattle.records.proofs.writes_before.Goals as goal

pub returns : goal.returns
returns c =
    let A = c.args in
    let os = take A.a (record_in A.w.now).ops in
    let n = c.count_before.result in
    let test = writes_item A.item in
    let at = λ (i : ℕ). test (get_or (places_in A.w.now) i no_op) in
    any_from_yields_List at _ _ c.any.result c.any.ensures.ran (YieldsList-from_range 0 n n refl (omega arith)) (λ x b q k. search (rules, tests))
    ∙ ap (λ (m : ℕ). list_any at (range_with_len 0 m)) c.count_before.ensures.0
    ∙ any_by_place test at os 0 (λ i h. let first : 0 + i ≡ i = omega arith in ap at first ∙ ap test (sym (op_before A.w.now A.a i h)))
