-- `part_numbered` hands back the part where the file is accepted.
use mathlib.Core.Path.{sym, ◌∙◌}
use Rattle.history_file.proofs.Files.{part_read_lem, part_none}
use Rattle.history.proofs.LeadLaws.{accepted_led}
use Rattle.history.proofs.part_numbered.Goals as goal

pub returns-then-number-ne0 : goal.returns-then-number-ne0
returns-then-number-ne0 c = part_none c.args.b.now (λ e. c.if-number-ne0.true (c.requires ∙ e))

pub part_of-requires : goal.part_of-requires
part_of-requires c = accepted_led c.args.b.now (sym c.requires ∙ c.if-number-ne0.false)

pub returns : goal.returns
returns c = c.part_of.ensures ∙ part_read_lem c.args.b.now (sym c.requires ∙ c.if-number-ne0.false)
