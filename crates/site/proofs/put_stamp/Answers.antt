-- `put_stamp` writes the first 18 words; the table is behind them.
use mathlib.Core.Path.{◌∙◌}
use native.Mathlib.Omega.{arith}
use Rattle.words.proofs.Parts.{part_length}
use Rattle.timestamp.specs.Value.{stamp_of}
use Rattle.timestamp_words.specs.InWords.{stamp_size}
use Rattle.site.proofs.Laws.{stamp_put, stamp_range_lem}
use Rattle.site.proofs.put_stamp.Goals as goal

pub returns : goal.returns
returns c =
    let q = c.write_to in
    let w = c.args.part.now in
    let fits = q.auto.w ∙ part_length w 0 stamp_size (omega arith) in
    (stamp_put w c.requires q.new.w (stamp_of c.args.t) fits q.ensures.0 q.ensures.1, stamp_range_lem w c.requires q.new.w (stamp_of c.args.t) fits q.ensures.0 q.ensures.1)
