-- `last_writer` goes over the records: `best` is the last writer of those below j.
use mathlib.Core.Path.{◌≡◌, refl, subst}
use Prim.Native.Nat.{ℕ}
use native.Mathlib.Omega.{arith}
use lib.ListN.{length}
use Rattle.network_layout.specs.InWords.{network_in}
use Rattle.network_layout.specs.At.{AtState}
use Rattle.network_layout.proofs.Performs.{records_count}
use Rattle.network_layout.proofs.OnNetwork.{at_state, at_record}
use Rattle.network_writers.specs.Writers.{LastSoFar, is_writer}
use Rattle.network_writers.proofs.WriterLaws.{none_looked_at}
use borrow.Author.Rules.{rules}
use Rattle.network_writers.proofs.last_writer.Goals as goal

pub record_count-requires : goal.record_count-requires
record_count-requires c = let sized = c.requires.net.sized in search rules

pub places-places-requires : goal.places-places-requires
places-places-requires c =
    let w = c.args.state.now in
    let at : AtState w = at_state w c.requires.net in
    search rules

pub loop-j-init : goal.loop-j-init
loop-j-init c =
    let A = c.args in
    let n = network_in A.state.now in
    (omega arith, none_looked_at n (is_writer n c.wide-reader.result A.item))

pub later_writer-best-requires : goal.later_writer-best-requires
later_writer-best-requires c =
    let w = c.args.state.now in
    -- the number of records, as the code counts
    let made : c.wide-made.result ≡ length (network_in w).history = omega (arith, records_count w, c.wide-made.ensures, c.record_count.ensures) in
    record {
      reader = at_record w c.requires.net c.args.k c.wide-reader.result c.wide-reader.ensures c.requires.there;
      next = at_record w c.requires.net c.loop-j.j c.loop-j.j refl (omega (arith, made, c.loop-j-test.true));
      so_far = c.loop-j.invariant.1;
      places_are = c.places-places.ensures;
    }

pub loop-j-preserved : goal.loop-j-preserved
loop-j-preserved c = (omega arith, c.later_writer-best.ensures)

pub overflow_cast-result : goal.overflow_cast-result
overflow_cast-result c = omega (arith, c.loop-j.invariant.1.few)

pub returns : goal.returns
returns c =
    let A = c.args in
    let n = network_in A.state.now in
    let made : c.wide-made.result ≡ length n.history = omega (arith, records_count A.state.now, c.wide-made.ensures, c.record_count.ensures) in
    let all : c.loop-j.j ≡ length n.history = omega (arith, made, c.loop-j-test.false, c.loop-j.invariant.0) in
    subst (λ (k : ℕ). LastSoFar n (is_writer n k A.item) (length n.history) c.loop-j.best) c.wide-reader.ensures
    (subst (λ (j : ℕ). LastSoFar n (is_writer n c.wide-reader.result A.item) j c.loop-j.best) all c.loop-j.invariant.1)
