-- `line_send` changes one line of the network, as `send` changes its words.
use Rattle.lines.specs.Lines.{sent_or_same}
use Rattle.messages.specs.InWords.{message_of}
use Rattle.network_lines.proofs.LineLaws.{stepped_at}
use Rattle.network_lines.proofs.line_send.Goals as goal

pub returns : goal.returns
returns c =
    let done = c.send in
    stepped_at c.args.state.now c.args.k c.words_of.result c.words_of.ensures c.requires
    (sent_or_same (message_of c.args.m)) done.new.l done.auto.l done.ensures
