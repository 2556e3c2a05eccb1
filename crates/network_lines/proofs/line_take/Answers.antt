-- `line_take` changes one line of the network, as `take` changes its words.
use Rattle.lines.specs.Lines.{taken_or_same}
use Rattle.network_lines.proofs.LineLaws.{stepped_at}
use Rattle.network_lines.proofs.line_take.Goals as goal

pub returns : goal.returns
returns c =
    let done = c.take in
    stepped_at c.args.state.now c.args.k c.words_of.result c.words_of.ensures c.requires taken_or_same done.new.l done.auto.l done.ensures
