-- `values` places one value after another: the first x of them are placed.
use mathlib.Core.Path.{◌≡◌, refl, ap, ◌∙◌}
use Prim.Native.Nat.{◌+◌, ◌-◌, ◌*◌, ◌/◌, ◌≤◌, ◌<◌}
use native.Mathlib.Omega.{arith}
use lib.IntN.{pos}
use lib.ListN.{length}
use lib.Seq.{take_all}
use mir.Val.{to_z, of_z}
use mir.Syntax.{w32}
use Rattle.words.specs.Words.{part}
use Rattle.limits.specs.Limits.{items_most}
use Rattle.lists.proofs.Filled.{filled_set, filled_padded}
use Rattle.history_file.specs.Bytes.{value_size, value_read}
use Rattle.history_file.specs.Promises.{sixty_four}
use Rattle.history_file.proofs.Held.{passed_on}
use Rattle.history_base.proofs.Placed.{values_of, values_count, placed_next}
use Rattle.history_base.proofs.values.Goals as goal

pub loop-x-init : goal.loop-x-init
loop-x-init c = (omega arith, record { fits = omega arith; sized = refl; rest_is = refl }, refl)

pub loop-x-preserved : goal.loop-x-preserved
loop-x-preserved c =
    let l = c.loop-x in
    let b = c.args.b.now in
    let n = length b / value_size in
    let v : to_z w32 (of_z w32 c.value_at.result) ≡ value_read (part b (l.x * value_size) value_size) = passed_on c.value_at.result _ (record { sfits = c.value_at.type_inv }) c.value_at.ensures in
    let less : l.x < n = c.loop-x-test.true in
    let few : l.x + 1 ≤ items_most = omega (arith, less, c.requires) in
    (omega arith, filled_set (pos 0) items_most l.x (l.x + 1) l.x l.found _ l.invariant.1 (omega arith) few (omega arith), placed_next b n l.found l.x _ less (omega (arith, few, l.invariant.1.sized)) l.invariant.2 v)

pub returns : goal.returns
returns c =
    let l = c.loop-x in
    let b = c.args.b.now in
    let n = length b / value_size in
    filled_padded (pos 0) items_most l.x l.found l.invariant.1 ∙ ap sixty_four (l.invariant.2 ∙ take_all l.x (values_of b n) (omega (arith, values_count b n, c.loop-x-test.false)))
