-- `put_tuples` writes one tuple after another: up to i they are written.
use mathlib.Core.Path.{◌≡◌, refl, ◌∙◌}
use Prim.Native.Nat.{◌<◌, ◌-◌, ◌*◌}
use native.Mathlib.Omega.{arith}
use lib.ListN.{length}
use Rattle.timestamp_order.specs.Timestamp.{no_pair}
use Rattle.timestamp_words.specs.InWords.{stamp_in, pair_at, pair_place}
use Rattle.history_file.specs.Bytes.{unit_size}
use Rattle.history_file.specs.File.{pair_bytes}
use Rattle.history_file.proofs.Written.{units_next, units_length, units_all, pair_size_lem}
use Rattle.history_tuple_bytes.proofs.StampWords.{tuple_written}
use Rattle.history_tuple_bytes.proofs.put_tuples.Goals as goal
use Rattle.history_tuple_bytes.proofs.put_tuples.Goals.{After-put_unit}

-- the eight bytes of this turn are those of tuple i
unit_put : (c : After-put_unit) → c.put_unit.new.b ≡ pair_bytes (pair_at c.args.w.now (pair_place c.loop-i.i))
unit_put c = c.put_unit.ensures

pub loop-i-init : goal.loop-i-init
loop-i-init c = (omega arith, refl, refl)

pub loop-i-preserved : goal.loop-i-preserved
loop-i-preserved c =
    let A = c.args in
    let i = c.loop-i.i in
    let ps = (stamp_in A.w.now).tuples in
    let written = c.put_unit in
    let long : length A.b.now ≡ length ps * unit_size = omega (arith, c.requires.sized, c.requires.all) in
    let less : i < length ps = omega (arith, c.requires.all, c.loop-i-test.true) in
    let is = unit_put (goal.at.loop-i-preserved c).After-put_unit ∙ tuple_written A.w.now i less in
    (omega (arith, c.loop-i-test.true), units_length pair_bytes unit_size pair_size_lem no_pair ps A.b.now long i less c.loop-i.b written.new.b c.loop-i.invariant.1 is, units_next pair_bytes unit_size pair_size_lem no_pair ps A.b.now long i less c.loop-i.b written.new.b c.loop-i.invariant.2 is)

pub shape_of-b : goal.shape_of-b
shape_of-b c = c.loop-i.invariant.1

pub returns : goal.returns
returns c =
    let A = c.args in
    let ps = (stamp_in A.w.now).tuples in
    let long : length A.b.now ≡ length ps * unit_size = omega (arith, c.requires.sized, c.requires.all) in
    units_all pair_bytes unit_size pair_size_lem no_pair ps A.b.now long c.loop-i.i (omega (arith, c.requires.all, c.loop-i-test.false)) c.loop-i.b c.loop-i.invariant.2
