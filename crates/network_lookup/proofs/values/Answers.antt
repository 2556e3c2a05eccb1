-- `values` lays one value after another.
use mathlib.Core.Path.{◌≡◌, refl, sym, ap, ap₂, ◌∙◌}
use mathlib.Core.List.{List}
use Prim.Native.Nat.{ℕ, ◌<◌}
use lib.IntN.{ℤ, pos}
use lib.ListN.{length, get_or, set, take, length-map, length-set, get_or-map}
use mir.Val.{to_z, of_z}
use mir.ValLaws.{to_z-of_z}
use mir.Syntax.{w32}
use Rattle.lists.specs.Lists.{padded}
use Rattle.limits.specs.Limits.{items_most}
use Rattle.site_operations.specs.InWords.{table_in}
use Rattle.network_lookup.proofs.TableLaws.{padded_next}
use native.Mathlib.Omega.{arith}
use Rattle.network_lookup.proofs.values.Goals as goal

pub loop-i-init : goal.loop-i-init
loop-i-init c = (omega arith, refl, refl)

pub loop-i-preserved : goal.loop-i-preserved
loop-i-preserved c =
    let l = c.loop-i in
    let w = c.args.w.now in
    let v : to_z w32 (of_z w32 c.value.result) ≡ get_or (table_in w) l.i (pos 0) = to_z-of_z w32 c.value.result (record { sfits = c.value.type_inv }) ∙ c.value.ensures ∙ ap (to_z w32) c.word.ensures ∙ sym (get_or-map (to_z w32) w l.i 0) in
    let there : l.i < length (table_in w) = simp length-map (omega arith) in
    (omega arith, simp length-set l.invariant.1, ap₂ (λ (o : List ℤ) (x : ℤ). set o l.i x) l.invariant.2 v ∙ padded_next items_most (pos 0) (table_in w) l.i there (omega arith))

pub returns : goal.returns
returns c =
    let A = c.args in
    let e : c.loop-i.i ≡ A.n = omega arith in
    c.loop-i.invariant.2 ∙ ap (λ (k : ℕ). padded items_most (pos 0) (take k (table_in A.w.now))) e
