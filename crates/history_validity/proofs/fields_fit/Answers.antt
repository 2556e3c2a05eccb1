-- `fields_fit` tests the head, the tuples and the operations.
use Prim.Native.Nat.{◌+◌, ◌*◌}
use native.Mathlib.Omega.{arith}
use mathlib.Core.Path.{refl}
use borrow.Author.Tests.{not-true, not-false}
use Rattle.timestamp_order.specs.Order.{rank}
use Rattle.history_file.specs.Reading.{size_read}
use Rattle.history_file.proofs.Units.{rest_length}
use Rattle.history_validity.proofs.FitLaws.{head_unpadded, site_unknown, tuples_unfit, fits_by_ops}
use Rattle.history_validity.proofs.fields_fit.Goals as goal

pub overflow_mul-a : goal.overflow_mul-a
unfolding size_read
overflow_mul-a c = omega (arith, c.requires.inside, c.requires.tuples)

pub overflow_add-a : goal.overflow_add-a
unfolding size_read
overflow_add-a c = omega (arith, c.requires.inside, c.requires.tuples)

pub bounds-b-0 : goal.bounds-b-0
unfolding size_read
bounds-b-0 c = omega (arith, c.requires.inside)

pub bounds-b-3 : goal.bounds-b-3
unfolding size_read
bounds-b-3 c = omega (arith, c.requires.inside)

pub returns-then-b-ne0 : goal.returns-then-b-ne0
returns-then-b-ne0 c =
    let A = c.args in
    head_unpadded (rank A.places) A.sites A.items A.b.now c.wide-site.result c.wide-site.ensures c.if-b-ne0.true

pub returns-then-sites-site : goal.returns-then-sites-site
returns-then-sites-site c =
    let A = c.args in
    site_unknown (rank A.places) A.sites A.items A.b.now c.wide-site.result c.wide-site.ensures c.if-b-ne0.false c.if-sites-site.true

pub slice_bounds-tuples_fit-count : goal.slice_bounds-tuples_fit-count
unfolding size_read
slice_bounds-tuples_fit-count c =
    omega (arith, c.requires.inside)

pub tuples_fit-requires : goal.tuples_fit-requires
unfolding size_read
tuples_fit-requires c =
    omega (arith, c.requires.inside, c.requires.tuples, rest_length c.args.b.now 8)

pub returns-then-not-tuples_fit : goal.returns-then-not-tuples_fit
returns-then-not-tuples_fit c =
    let A = c.args in
    let f = c.tuples_fit in
    tuples_unfit (rank A.places) A.sites A.items A.b.now c.wide-site.result c.wide-site.ensures c.if-b-ne0.false c.if-sites-site.false A.t c.requires.tuples f.result f.ensures (not-true f.result c.if-not-tuples_fit.true-raw)

pub slice_bounds-operations_fit-count : goal.slice_bounds-operations_fit-count
unfolding size_read
slice_bounds-operations_fit-count c =
    omega (arith, c.requires.inside, c.requires.tuples)

pub operations_fit-requires : goal.operations_fit-requires
unfolding size_read
operations_fit-requires c =
    omega (arith, c.requires.inside, c.requires.tuples, c.requires.ops, rest_length c.args.b.now (8 + 8 * c.args.t))

pub returns : goal.returns
returns c =
    let A = c.args in
    let f = c.tuples_fit in
    fits_by_ops (rank A.places) A.sites A.items A.b.now c.wide-site.result c.wide-site.ensures c.if-b-ne0.false c.if-sites-site.false A.t c.requires.tuples f.result f.ensures (not-false f.result c.if-not-tuples_fit.false-raw) A.o _ c.requires.ops refl c.operations_fit.result c.operations_fit.ensures

pub slice_bounds-tuples_fit-start : goal.slice_bounds-tuples_fit-start
unfolding size_read
slice_bounds-tuples_fit-start c = omega (arith, c.requires.inside)

pub slice_bounds-operations_fit-start : goal.slice_bounds-operations_fit-start
unfolding size_read
slice_bounds-operations_fit-start c = omega (arith, c.requires.inside, c.requires.tuples)
