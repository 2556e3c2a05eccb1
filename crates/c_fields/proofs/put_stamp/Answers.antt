-- `put_stamp` lays all 18 words.
use Rattle.std.proofs.Common.{◌≡◌, ◌∙◌, sym, ap}
use Rattle.words.proofs.Walks.{overlaid_same}
use Rattle.timestamp.specs.Value.{stamp_of}
use Rattle.timestamp_words.specs.InWords.{stamp_words}
use Rattle.network_layout.specs.Promises.{answered_stamp}
use Rattle.c_fields.proofs.FieldWords.{stamp_given}
use Rattle.c_fields.proofs.put_stamp.Goals as goal

pub returns : goal.returns
unfolding stamp_words
returns c =
    let given : stamp_of c.unwrap_or.result ≡ answered_stamp c.args.given = ap stamp_of c.unwrap_or.ensures ∙ stamp_given c.args.given c.zero.result c.zero.ensures.means in (
      c.number_of.ensures,
      c.write_to.ensures.0 ∙ overlaid_same c.args.w.now (stamp_words (stamp_of c.unwrap_or.result)) (sym c.requires) ∙ ap stamp_words given,
    )
