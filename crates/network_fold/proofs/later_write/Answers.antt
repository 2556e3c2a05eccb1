-- `later_write` asks whether operation i writes the item.
use mathlib.Core.Path.{sym, ap, ◌∙◌}
use mathlib.Core.Bool.{Bool, cond}
use lib.ListN.{get_or}
use mir.Val.{to_z}
use mir.Syntax.{w32}
use Rattle.site_operations.specs.Operations.{Op, writes_item, no_op}
use Rattle.record_codes.specs.Codes.{places_in}
use Rattle.record_packing.proofs.Laws.{place_at_lem}
use Rattle.network_fold.proofs.later_write.Goals as goal

pub returns-then-is_write_of : goal.returns-then-is_write_of
returns-then-is_write_of c =
    let A = c.args in
    let o = get_or (places_in A.w.now) A.i no_op in
    ap (to_z w32) c.word.ensures
    ∙ sym (ap (λ (p : Op). p.value) (place_at_lem A.w.now A.i c.requires.there))
    ∙ ap (λ (d : Bool). cond d o.value (to_z w32 A.before)) (sym c.if-is_write_of.true ∙ c.is_write_of.ensures)

pub returns : goal.returns
returns c =
    let A = c.args in
    let o = get_or (places_in A.w.now) A.i no_op in
    ap (λ (d : Bool). cond d o.value (to_z w32 A.before)) (sym c.if-is_write_of.false ∙ c.is_write_of.ensures)
