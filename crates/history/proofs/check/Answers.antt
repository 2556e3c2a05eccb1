-- `check` answers what the file says where it is not refused.
use mathlib.Core.Path.{◌≡◌, sym, ap, ◌∙◌}
use lib.ListN.{length}
use Rattle.history_file.specs.File.{History}
use Rattle.history_file.specs.Reading.{file_number}
use Rattle.history_file.specs.Promises.{sixty_four}
use Rattle.history_file.proofs.Files.{history_none, part_none, places_none}
use Rattle.history.proofs.check.Goals as goal

pub returns-then-number-ne0 : goal.returns-then-number-ne0
returns-then-number-ne0 c =
    let b = c.args.b.now in
    let refused : file_number b ≡ 0 → ⊥ = λ e. c.if-number-ne0.true (c.file_number-number.ensures ∙ e) in
    let none = sym (history_none b refused) in
    record {
      number_is = c.file_number-number.ensures;
      records_are = ap (λ (h : History). length h.records) none;
      sites_are = ap (λ (h : History). h.sites) none;
      items_are = ap (λ (h : History). h.items) none;
      length_is = ap length (part_none b refused);
      beside = record { places_are = places_none b refused; folded_is = ap (λ (h : History). h.folded) none; base_is = ap (λ (h : History). sixty_four h.base) none };
    }
