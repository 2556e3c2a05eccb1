-- `beside_part` answers what leads the records.
use mathlib.Core.Path.{sym, ap, ◌∙◌}
use Rattle.history_file.specs.File.{History}
use Rattle.history_file.specs.Promises.{sixty_four}
use Rattle.history_file.proofs.Files.{history_read_lem, places_answered_lem}
use Rattle.history.proofs.LeadLaws.{accepted_led, accepted_valued}
use Rattle.history.proofs.beside_part.Goals as goal

pub places-requires : goal.places-requires
places-requires c = accepted_led c.args.b.now c.requires

pub has_base-requires : goal.has_base-requires
has_base-requires c = (accepted_led c.args.b.now c.requires).long

pub base-requires : goal.base-requires
base-requires c = accepted_valued c.args.b.now c.requires

pub returns : goal.returns
returns c =
    let b = c.args.b.now in
    let read = sym (history_read_lem b c.requires) in
    record {
      places_are = c.places.ensures ∙ places_answered_lem b c.requires;
      folded_is = c.has_base.ensures ∙ ap (λ (h : History). h.folded) read;
      base_is = c.base.ensures ∙ ap (λ (h : History). sixty_four h.base) read;
    }
