-- `stamp` refuses with its number, or reads the timestamp.
use Rattle.std.proofs.Common.{◌∙◌, refl, sym}
use Rattle.protocol.specs.Network.{no_stamp, site_at}
use Rattle.protocol.specs.Questions.{stamp, question_number}
use Rattle.network_layout.proofs.Questions.{asked, answered, site_asked}
use Rattle.network_readers.proofs.ReaderLaws.{stamp_refused}
use borrow.Author.Rules.{rules}
use Rattle.network_readers.proofs.stamp.Goals as goal

pub returns-in_err-site_number : goal.returns-in_err-site_number
returns-in_err-site_number c =
    stamp_refused c.args.state.now c.args.site c.from_residual.result c.in_err-site_number.field-0.0 c.from_residual.ensures.1 c.in_err-site_number.ensures

pub site_stamp-requires : goal.site_stamp-requires
site_stamp-requires c =
    let A = c.args in
    site_asked A.state.now (search rules) A.site A.site refl (sym c.in_ok-site_number.ensures)

pub returns : goal.returns
unfolding question_number
returns c =
    let A = c.args in
    let w = A.state.now in
    let none = sym c.in_ok-site_number.ensures in
    record {
      performed = asked (stamp A.site) w 0 (sym none);
      stamp_is = c.site_stamp.ensures.means ∙ answered (stamp A.site) w no_stamp (λ m. (site_at m A.site).stamp) none;
      plain = c.site_stamp.ensures.plain;
    }
