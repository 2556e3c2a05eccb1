-- `found` reads the parts of the record.
use native.Mathlib.Omega.{arith}
use Prim.Native.Nat.{◌+◌, ◌*◌}
use mathlib.Core.Path.{refl}
use Rattle.history_file.specs.Reading.{size_read}
use Rattle.history_file.proofs.Units.{rest_length}
use Rattle.history_file.proofs.Held.{held}
use Rattle.history_record.proofs.found.Goals as goal

pub slice_bounds-operations-start : goal.slice_bounds-operations-start
unfolding size_read
slice_bounds-operations-start c = omega (arith, c.requires.inside, c.count-t.ensures)

pub slice_bounds-operations-count : goal.slice_bounds-operations-count
unfolding size_read
slice_bounds-operations-count c = omega (arith, c.requires.inside, c.count-t.ensures)

pub operations-ops-requires : goal.operations-ops-requires
unfolding size_read
operations-ops-requires c =
    record { inside = omega (arith, c.requires.inside, c.count-t.ensures, c.count-o.ensures, rest_length c.args.b.now (8 + 8 * c.count-t.result)); few = omega (arith, c.requires.few_ops, c.count-o.ensures) }

pub slice_bounds-stamp-start : goal.slice_bounds-stamp-start
unfolding size_read
slice_bounds-stamp-start c = omega (arith, c.requires.inside)

pub slice_bounds-stamp-count : goal.slice_bounds-stamp-count
unfolding size_read
slice_bounds-stamp-count c = omega (arith, c.requires.inside)

pub number-requires : goal.number-requires
unfolding size_read
number-requires c = omega (arith, c.requires.inside)

pub stamp-requires : goal.stamp-requires
unfolding size_read
stamp-requires c =
    record { inside = omega (arith, c.requires.inside, c.count-t.ensures, rest_length c.args.b.now 8); few = omega (arith, c.requires.few_tuples, c.count-t.ensures) }

pub returns : goal.returns
returns c =
    let A = c.args in
    let ops = c.operations-ops.ensures in
    held A.b.now c.count-t.result c.count-o.result _ c.count-t.ensures.0 c.count-o.ensures.0 refl A.next _ c.number.result refl refl c.field.ensures c.number.ensures c.stamp.ensures refl ops.kinds_are ops.items_are ops.values_are
