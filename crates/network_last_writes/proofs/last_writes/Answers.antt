-- `last_writes` goes over the records: the table is that of those below j.
use mathlib.Core.Path.{◌≡◌, subst}
use Prim.Native.Nat.{ℕ, ◌-◌}
use native.Mathlib.Omega.{arith}
use lib.ListN.{length}
use Rattle.network_layout.specs.InWords.{network_in}
use Rattle.network_layout.proofs.Performs.{records_count}
use Rattle.network_last_writes.specs.LastWrites.{LastWrites}
use Rattle.network_last_writes.proofs.LastWriteLaws.{none_noted}
use Rattle.network_last_writes.proofs.last_writes.Goals as goal

pub record_count-made-requires : goal.record_count-made-requires
record_count-made-requires c = c.requires.at.sized

pub loop-j-init : goal.loop-j-init
loop-j-init c = (omega arith, none_noted (network_in c.args.state.now))

pub note_next-requires : goal.note_next-requires
note_next-requires c =
    let made_is : c.record_count-made.result ≡ length (network_in c.args.state.now).history = omega (arith, records_count c.args.state.now, c.record_count-made.ensures) in
    record {
      folding = c.requires;
      next = record {
        sized = c.requires.at.sized;
        there = omega (arith, made_is, records_count c.args.state.now, c.loop-j-test.true);
        few = omega (arith, made_is, c.requires.names_are.few, c.loop-j-test.true);
      };
      so_far = c.loop-j.invariant.1;
    }

pub loop-j-preserved : goal.loop-j-preserved
loop-j-preserved c = (omega arith, c.note_next.ensures)

pub returns : goal.returns
returns c =
    let made_is : c.record_count-made.result ≡ length (network_in c.args.state.now).history = omega (arith, records_count c.args.state.now, c.record_count-made.ensures) in
    let n = network_in c.args.state.now in
    let all : c.loop-j.j ≡ length n.history = omega (arith, made_is, c.loop-j-test.false, c.loop-j.invariant.0) in
    subst (λ (j : ℕ). LastWrites n j c.loop-j.table) all c.loop-j.invariant.1
