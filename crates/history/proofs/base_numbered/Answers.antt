-- `base_numbered` answers the base values where the file is accepted.
use mathlib.Core.Path.{sym, ap, ◌∙◌}
use Rattle.history_file.specs.File.{History}
use Rattle.history_file.specs.Promises.{sixty_four}
use Rattle.history_file.proofs.Files.{history_read_lem, history_none}
use Rattle.history.proofs.LeadLaws.{accepted_valued}
use Rattle.history.proofs.base_numbered.Goals as goal

pub returns-then-number-ne0 : goal.returns-then-number-ne0
returns-then-number-ne0 c = sym (ap (λ (h : History). sixty_four h.base) (history_none c.args.b.now (λ e. c.if-number-ne0.true (c.requires ∙ e))))

pub base-requires : goal.base-requires
base-requires c = accepted_valued c.args.b.now (sym c.requires ∙ c.if-number-ne0.false)

pub returns : goal.returns
returns c =
    c.base.ensures ∙ sym (ap (λ (h : History). sixty_four h.base) (history_read_lem c.args.b.now (sym c.requires ∙ c.if-number-ne0.false)))
