-- `line_deliver` changes one line of the network, as `deliver` changes its words.
use Rattle.lines.specs.Lines.{delivered_or_same}
use Rattle.network_lines.proofs.LineLaws.{stepped_at}
use Rattle.network_lines.proofs.line_deliver.Goals as goal

pub returns : goal.returns
returns c =
    let done = c.deliver in
    stepped_at c.args.state.now c.args.k c.words_of.result c.words_of.ensures c.requires delivered_or_same done.new.l done.auto.l done.ensures
