-- `record` tests the file and the number.
use mathlib.Core.Path.{◌≡◌, sym, subst, ◌∙◌}
use native.Mathlib.Omega.{arith}
use Rattle.history_file.specs.Reading.{file_number}
use Rattle.history_file.specs.Promises.{Step, Gives}
use Rattle.history_file.proofs.Files.{numbered_refused, numbered_past, fields_read}
use Rattle.history.proofs.record.Goals as goal

pub returns-then-file-ne0 : goal.returns-then-file-ne0
returns-then-file-ne0 c =
    let A = c.args in
    let file = c.check-file in
    subst (λ (s : Step). Gives s c.refused.result) (numbered_refused A.b.now A.k file.result.number file.ensures.number_is c.if-file-ne0.true) c.refused.ensures

pub returns-then-wide-k : goal.returns-then-wide-k
returns-then-wide-k c =
    let file = c.check-file in
    let A = c.args in
    let z : file_number A.b.now ≡ 0 = sym file.ensures.number_is ∙ c.if-file-ne0.false in
    subst (λ (s : Step). Gives s c.refused-then-wide-k.result) (numbered_past A.b.now A.k z (omega (arith, c.wide.ensures, c.if-wide-k.true, file.ensures.records_are, (fields_read A.b.now z).0))) c.refused-then-wide-k.ensures

pub record_there-requires : goal.record_there-requires
record_there-requires c =
    let file = c.check-file in
    let A = c.args in
    let z : file_number A.b.now ≡ 0 = sym file.ensures.number_is ∙ c.if-file-ne0.false in
    record {
      accepted = z;
      inside = omega (arith, c.wide.ensures, c.if-wide-k.false, file.ensures.records_are, (fields_read A.b.now z).0);
      sites_are = file.ensures.sites_are;
      items_are = file.ensures.items_are;
      places_are = file.ensures.beside.places_are;
    }
