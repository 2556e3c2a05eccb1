-- `folded_numbered` answers the flag where the file is accepted.
use mathlib.Core.Path.{sym, ap, ◌∙◌}
use Rattle.history_file.specs.File.{History}
use Rattle.history_file.proofs.Files.{history_read_lem, history_none}
use Rattle.history.proofs.LeadLaws.{accepted_led}
use Rattle.history.proofs.folded_numbered.Goals as goal

pub returns-then-number-ne0 : goal.returns-then-number-ne0
returns-then-number-ne0 c = sym (ap (λ (h : History). h.folded) (history_none c.args.b.now (λ e. c.if-number-ne0.true (c.requires ∙ e))))

pub has_base-requires : goal.has_base-requires
has_base-requires c = (accepted_led c.args.b.now (sym c.requires ∙ c.if-number-ne0.false)).long

pub returns : goal.returns
returns c =
    c.has_base.ensures ∙ sym (ap (λ (h : History). h.folded) (history_read_lem c.args.b.now (sym c.requires ∙ c.if-number-ne0.false)))
