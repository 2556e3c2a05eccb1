-- `are_numbers` leaves at the first place that is not the number.
use mathlib.Core.Path.{◌≡◌, ap}
use Prim.Native.Nat.{ℕ, ◌-◌}
use native.Mathlib.Omega.{arith}
use lib.ListN.{length}
use Rattle.lists.specs.Lists.{up_to}
use Rattle.history_file.specs.Bytes.{same}
use Rattle.history_table.proofs.TableLaws.{numbers_fail, numbers_next, numbers_done}
use Rattle.history_table.proofs.are_numbers.Goals as goal

pub loop-i-init : goal.loop-i-init
loop-i-init c =
    let b = c.args.b.now in
    let all : length b ≡ length b - 0 = omega arith in
    (omega arith, ap (λ (n : ℕ). same b (up_to 0 n)) all)

pub returns-then-wide-i : goal.returns-then-wide-i
returns-then-wide-i c =
    numbers_fail c.args.b.now c.loop-i.i c.loop-i.invariant.1 c.loop-i-test.true c.wide.result c.wide.ensures (λ here. omega (arith, c.if-wide-i.true))

pub loop-i-preserved : goal.loop-i-preserved
loop-i-preserved c =
    (omega (arith, c.loop-i-test.true), numbers_next c.args.b.now c.loop-i.i c.loop-i.invariant.1 c.loop-i-test.true c.wide.result c.wide.ensures (omega (arith, c.if-wide-i.false)))

pub returns : goal.returns
returns c =
    numbers_done c.args.b.now c.loop-i.i c.loop-i.invariant.1 c.loop-i-test.false
