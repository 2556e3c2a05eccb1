-- `places_numbered` answers the places where the file is accepted.
use mathlib.Core.Path.{sym, ◌∙◌}
use Rattle.history_file.proofs.Files.{places_answered_lem, places_none}
use Rattle.history.proofs.LeadLaws.{accepted_led}
use Rattle.history.proofs.places_numbered.Goals as goal

pub returns-then-number-ne0 : goal.returns-then-number-ne0
returns-then-number-ne0 c = places_none c.args.b.now (λ e. c.if-number-ne0.true (c.requires ∙ e))

pub places-requires : goal.places-requires
places-requires c = accepted_led c.args.b.now (sym c.requires ∙ c.if-number-ne0.false)

pub returns : goal.returns
returns c = c.places.ensures ∙ places_answered_lem c.args.b.now (sym c.requires ∙ c.if-number-ne0.false)
