-- `line_gone` asks the messages in the line's own words.
use mathlib.Core.Path.{ap, ◌∙◌}
use Rattle.network_renaming.specs.Renamed.{line_gone}
use Rattle.network_renaming.proofs.line_gone.Goals as goal

pub returns : goal.returns
returns c = c.names_gone.ensures ∙ ap (line_gone c.args.names.now) c.line_at.ensures.meant
