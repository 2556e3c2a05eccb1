-- `lines_by` shifts the mask to the place of the primary.
use Rattle.std.proofs.Common.{◌∙◌}
use Rattle.placement_item.proofs.LineBits.{lines_given}
use Rattle.placement_item.proofs.lines_by.Goals as goal

pub returns-then-primary-lt-SITES : goal.returns-then-primary-lt-SITES
returns-then-primary-lt-SITES c =
    lines_given (record { primary = c.args.primary; mask = c.args.mask }) c.from.result c.if-primary-lt-SITES.true (c.from.ensures ∙ c.below.ensures)
