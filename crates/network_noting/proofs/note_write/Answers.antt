-- `note_write` notes the record where it replaces the one noted, or none is.
use mathlib.Core.Path.{◌≡◌, sym, ap, ◌∙◌, refl}
use Prim.Native.Nat.{◌<◌}
use native.Mathlib.Omega.{arith}
use lib.ListN.{length, get_or}
use Rattle.network_layout.specs.InWords.{network_in}
use Rattle.network_layout.proofs.Performs.{records_count}
use Rattle.network_layout.proofs.OnNetwork.{has_record}
use Rattle.network_noting.specs.Noting.{replaces}
use Rattle.network_noting.proofs.NotingLaws.{none_there, first_there, replaced_there, other_stays}
use Rattle.network_noting.proofs.note_write.Goals as goal

pub returns-then-table-x : goal.returns-then-table-x
returns-then-table-x c =
    let A = c.args in
    (none_there A.latest (network_in A.state.now) A.r A.table.now A.item A.item refl c.if-table-x.true, c.requires.met)

pub returns-then-record_count-noted : goal.returns-then-record_count-noted
returns-then-record_count-noted c =
    let A = c.args in
    let w = A.state.now in
    (first_there A.latest (network_in w) A.r A.table.now A.item A.item refl (omega (arith, records_count w, c.record_count.ensures, c.if-record_count-noted.true)), c.requires.met)

pub meet-next-requires : goal.meet-next-requires
meet-next-requires c =
    let P = c.requires in
    record {
      has = P.note.has;
      has_noted = has_record _ P.note.at _ (omega (arith, c.record_count.ensures, c.if-record_count-noted.false));
      met = P.met;
      places_are = P.note.places_are;
    }

-- where another record is noted
pub returns-then-next : goal.returns-then-next
returns-then-next c =
    let A = c.args in
    let n = network_in A.state.now in
    let x = A.item in
    let there : get_or A.table.now x 0 < length n.history = omega (arith, records_count A.state.now, c.record_count.ensures, c.if-record_count-noted.false) in
    let told : c.meet-next.result.replaces ≡ replaces A.latest n A.r (get_or A.table.now x 0) = c.meet-next.ensures.1 ∙ ap (replaces A.latest n A.r) c.meet-next.ensures.0 in
    (replaced_there A.latest n A.r A.table.now A.item x refl there (sym told ∙ c.if-next.true), c.meet-next.ensures.1)

pub returns-else-next : goal.returns-else-next
returns-else-next c =
    let A = c.args in
    let n = network_in A.state.now in
    let x = A.item in
    let there : get_or A.table.now x 0 < length n.history = omega (arith, records_count A.state.now, c.record_count.ensures, c.if-record_count-noted.false) in
    let told : c.meet-next.result.replaces ≡ replaces A.latest n A.r (get_or A.table.now x 0) = c.meet-next.ensures.1 ∙ ap (replaces A.latest n A.r) c.meet-next.ensures.0 in
    (other_stays A.latest n A.r A.table.now A.item x refl there (sym told ∙ c.if-next.false), c.meet-next.ensures.1)
