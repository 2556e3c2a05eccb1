-- `accepted` answers what the trailer says, and what leads the records.
use mathlib.Core.Path.{sym, ap, ◌∙◌}
use lib.ListN.{length}
use Rattle.history_file.proofs.Files.{fields_read, part_read_lem}
use Rattle.history.proofs.LeadLaws.{accepted_led}
use Rattle.history.proofs.accepted.Goals as goal

pub part_of-part-requires : goal.part_of-part-requires
part_of-part-requires c = accepted_led c.args.b.now c.requires

pub beside_part-beside-requires : goal.beside_part-beside-requires
beside_part-beside-requires c = c.requires

pub records_said-requires : goal.records_said-requires
records_said-requires c = (accepted_led c.args.b.now c.requires).long

pub sites_said-requires : goal.sites_said-requires
sites_said-requires c = (accepted_led c.args.b.now c.requires).long

pub items_said-requires : goal.items_said-requires
items_said-requires c = (accepted_led c.args.b.now c.requires).long

pub returns : goal.returns
returns c =
    let b = c.args.b.now in
    let f = fields_read b c.requires in
    record {
      number_is = sym c.requires;
      records_are = c.records_said.ensures ∙ sym f.0;
      sites_are = c.sites_said.ensures ∙ sym f.1;
      items_are = c.items_said.ensures ∙ sym f.2;
      length_is = ap length (c.part_of-part.ensures ∙ part_read_lem b c.requires);
      beside = c.beside_part-beside.ensures;
    }
