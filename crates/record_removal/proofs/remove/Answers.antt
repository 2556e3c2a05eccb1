-- `remove` goes over the records: of those below k those that stay stand first.
use mathlib.Core.Path.{refl, ◌∙◌}
use Prim.Native.Nat.{◌<◌}
use native.Mathlib.Omega.{arith}
use Rattle.words.specs.Words.{chunks}
use Rattle.lists.proofs.Renumber.{kept_none, count_most}
use Rattle.records.specs.InWords.{record_size}
use Rattle.record_names.specs.Names.{stays}
use Rattle.record_removal.specs.Removal.{AtRecord}
use Rattle.record_removal.proofs.RemovalLaws.{stay_next, stay_all}
use Rattle.record_removal.proofs.remove.Goals as goal
use Rattle.record_removal.proofs.remove.Goals.{At-loop-k}

pub loop-k-init : goal.loop-k-init
loop-k-init c = (omega arith, refl, kept_none (stays c.args.names.now) (chunks record_size c.args.made c.args.history.now))

-- the record that is next, in a turn of the loop
at_record : (h : At-loop-k) → h.loop-k.k < h.args.made → AtRecord h.loop-k.history h.loop-k.k h.loop-k.kept
at_record h there =
    record {
      sized = h.loop-k.invariant.1 ∙ h.requires.sized;
      few = omega (arith, there, h.requires.few);
      low = omega (arith, h.loop-k.invariant.2.count, count_most (stays h.args.names.now) h.loop-k.k);
    }

pub keep-kept-requires : goal.keep-kept-requires
keep-kept-requires c =
    let at : AtRecord c.loop-k.history c.loop-k.k c.loop-k.kept = at_record (goal.at.keep-kept-requires c).At-loop-k c.loop-k-test.true in
    at

pub loop-k-preserved : goal.loop-k-preserved
loop-k-preserved c =
    let next = stay_next c.args.names.now c.args.history.now c.args.made c.loop-k.history c.loop-k.k c.loop-k.kept c.loop-k.invariant.2 (at_record (goal.at.loop-k-preserved c).At-loop-k c.loop-k-test.true) c.requires.few c.loop-k-test.true c.keep-kept.new.history c.keep-kept.result c.keep-kept.ensures in
    (omega arith, next.1 ∙ c.loop-k.invariant.1, next.0)

pub overflow_cast-result : goal.overflow_cast-result
overflow_cast-result c =
    omega (arith, c.loop-k.invariant.2.count, count_most (stays c.args.names.now) c.loop-k.k, c.loop-k.invariant.0, c.requires.few)

pub shape_of-history : goal.shape_of-history
shape_of-history c = c.loop-k.invariant.1

pub returns : goal.returns
returns c =
    let A = c.args in
    stay_all A.names.now A.history.now A.made c.loop-k.history c.loop-k.k c.loop-k.kept c.loop-k.invariant.2 c.loop-k.invariant.1 (omega arith) c.loop-k.invariant.0
