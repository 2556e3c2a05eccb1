-- `line_at` lends the line's own words.
use Rattle.network_lines.proofs.LineLaws.{lent_from}
use Rattle.network_lines.proofs.line_at.Goals as goal

pub returns : goal.returns
returns c = lent_from c.args.state.now c.args.k c.words_of-a.result c.words_of-a.ensures c.requires
