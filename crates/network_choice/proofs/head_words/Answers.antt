-- `head_words` reads the name of the line's oldest message: the record that it names has its timestamp, or it has one of its own.
use mathlib.Core.Path.{refl}
use Rattle.network_layout.specs.At.{AtLine, HasRecord}
use Rattle.network_layout.proofs.OnNetwork.{at_record}
use Rattle.network_choice.proofs.ChoiceLaws.{parent_line, head_recorded, first_dummy, stamp_commit, stamp_dummy}
use borrow.Author.Rules.{rules}
use Rattle.network_choice.proofs.head_words.Goals as goal

pub line_first_name-name-requires : goal.line_first_name-name-requires
line_first_name-name-requires c = let at : AtLine c.args.state.now c.line_number-k.result = parent_line c.args.state.now c.args.j c.requires.free c.args.p c.requires.line c.line_number-k.result c.line_number-k.ensures in search rules

pub stamp_at-requires : goal.stamp_at-requires
stamp_at-requires c =
    let k = c.line_number-k in
    let m = c.line_first_name-name in
    let held = head_recorded c.args.state.now c.args.j c.requires.free c.args.p c.requires.line k.result k.ensures m.result m.ensures c.if-name-lt-RECORDS.true in
    let at : HasRecord c.args.state.now m.result = at_record c.args.state.now c.requires.free.net m.result m.result refl held in
    search rules

pub returns-then-name-lt-RECORDS : goal.returns-then-name-lt-RECORDS
returns-then-name-lt-RECORDS c =
    let k = c.line_number-k in
    let m = c.line_first_name-name in
    stamp_commit c.args.state.now c.args.j c.requires.free c.args.p c.requires.line k.result k.ensures m.result m.ensures c.if-name-lt-RECORDS.true _ m.result refl c.stamp_at.ensures.meant

pub line_first_stamp-requires : goal.line_first_stamp-requires
line_first_stamp-requires c =
    let k = c.line_number-k in
    let m = c.line_first_name-name in
    let at : AtLine c.args.state.now c.line_number-k.result = parent_line c.args.state.now c.args.j c.requires.free c.args.p c.requires.line c.line_number-k.result c.line_number-k.ensures in
    record {
      line = record { sized = at.sized; few = at.few };
      own = first_dummy c.args.state.now c.args.j c.requires.free c.args.p c.requires.line k.result k.ensures m.result m.ensures c.if-name-lt-RECORDS.false;
    }

pub returns : goal.returns
returns c =
    let k = c.line_number-k in
    let m = c.line_first_name-name in
    stamp_dummy c.args.state.now c.args.j c.requires.free c.args.p c.requires.line k.result k.ensures m.result m.ensures c.if-name-lt-RECORDS.false _ c.line_first_stamp.ensures
