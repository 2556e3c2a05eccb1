-- `put_operations` writes one operation after another: up to i they are written.
use mathlib.Core.Path.{◌≡◌, refl, ◌∙◌}
use mathlib.Core.List.{[]}
use Prim.Native.Nat.{◌+◌, ◌<◌, ◌-◌, ◌*◌}
use native.Mathlib.Omega.{arith}
use lib.ListN.{length}
use Rattle.site_operations.specs.InWords.{ops_in, op_in}
use Rattle.site_operations.proofs.Laws.{ops_length}
use Rattle.history_file.specs.Bytes.{unit_size}
use Rattle.history_file.specs.File.{op_bytes}
use Rattle.history_file.proofs.Written.{units_next, units_length, units_all, op_size_lem, op_written}
use Rattle.history_record_bytes.proofs.put_operations.Goals as goal

pub loop-i-init : goal.loop-i-init
loop-i-init c = (omega arith, refl, refl)

pub loop-i-preserved : goal.loop-i-preserved
loop-i-preserved c =
    let A = c.args in
    let i = c.loop-i.i in
    let os = ops_in A.n A.ops.now in
    let written = c.put_unit in
    let long : length A.b.now ≡ length os * unit_size = omega (arith, c.requires.sized, ops_length A.n A.ops.now) in
    let less : i < length os = omega (arith, ops_length A.n A.ops.now, c.loop-i-test.true) in
    let is = written.ensures ∙ op_written A.n A.ops.now i c.loop-i-test.true _ _ _ refl refl refl (c.shared_slice_known-in-loop-i-3-1.given (3 * i + 2)).fits in
    (omega (arith, c.loop-i-test.true), units_length op_bytes unit_size op_size_lem (op_in []) os A.b.now long i less c.loop-i.b written.new.b c.loop-i.invariant.1 is, units_next op_bytes unit_size op_size_lem (op_in []) os A.b.now long i less c.loop-i.b written.new.b c.loop-i.invariant.2 is)

pub shape_of-b : goal.shape_of-b
shape_of-b c = c.loop-i.invariant.1

pub returns : goal.returns
returns c =
    let A = c.args in
    let os = ops_in A.n A.ops.now in
    let long : length A.b.now ≡ length os * unit_size = omega (arith, c.requires.sized, ops_length A.n A.ops.now) in
    units_all op_bytes unit_size op_size_lem (op_in []) os A.b.now long c.loop-i.i (omega (arith, ops_length A.n A.ops.now, c.loop-i-test.false)) c.loop-i.b c.loop-i.invariant.2
