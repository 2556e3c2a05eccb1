-- `collect` puts a newline behind the answer.
use Rattle.console_lines.proofs.Steps.{newline_fits, collected}
use Rattle.console_lines.proofs.collect.Goals as goal

pub end_line-requires : goal.end_line-requires
end_line-requires c = newline_fits c.args.text.now c.requires.room c.line_on-reply.ensures

pub returns : goal.returns
returns c = collected c.args.text.now c.requires.room c.line_on-reply.ensures c.end_line.ensures
