-- `gevrolen_read` writes what the check finds, and where the part is.
use mathlib.Core.Path.{sym, ap, ap₂, ◌∙◌}
use mathlib.Core.Bool.{Bool, cond}
use mathlib.Core.List.{List, [], ◌∷◌}
use Prim.Native.Nat.{ℕ, ◌-◌}
use native.Mathlib.Omega.{arith}
use lib.IntN.{ℤ}
use lib.ListN.{length}
use lib.Dec.{eqb}
use Rattle.limits.specs.Limits.{items_most}
use Rattle.history_file.specs.File.{trailer_size}
use Rattle.history_file.specs.Reading.{history_read}
use Rattle.history_file.proofs.Files.{base_count}
use Rattle.c_answers.specs.Answers.{value_words, flag_word}
use Rattle.c_answers.proofs.Words.{listed_words}
use Rattle.gevrolen_c.proofs.AnswerLaws.{in_buffer, file_read_lem}
use borrow.Author.Rules.{rules}
use Rattle.gevrolen_c.proofs.gevrolen_read.Goals as goal

pub put_base-requires : goal.put_base-requires
put_base-requires c =
    let b = c.args.buffer.now in
    let e = c.check-given.ensures in
    record { sized = search rules; values = (history_read b).base; count_is = e.items_are ∙ sym (base_count b); values_are = e.beside.base_is }

pub part_start-start-requires : goal.part_start-start-requires
part_start-start-requires c =
    let b = c.args.buffer.now in
    let e = c.check-given.ensures in
    record { within = λ z. let fits = in_buffer b (sym e.number_is ∙ z) in omega (arith, fits, e.length_is) }

pub returns : goal.returns
returns c =
    let b = c.args.buffer.now in
    let g = c.check-given.result in
    let e = c.check-given.ensures in
    let start = c.part_start-start.ensures ∙ ap₂ {C = ℕ} (λ (n s : ℕ). cond (eqb n 0) (length b - trailer_size - s) 0) e.number_is e.length_is in
    let fields = c.file_fields.ensures ∙ (λ t. start t ∷ (e.length_is t ∷ (e.records_are t ∷ (e.sites_are t ∷ (e.items_are t ∷ []))))) in
    let count = e.items_are ∙ sym (base_count b) in
    let values = ap (λ (vs : List ℤ). g.items ∷ value_words vs) e.beside.base_is ∙ listed_words items_most g.items (history_read b).base count in
    file_read_lem b g.number c.file_fields.result g.places c.put_base.new.w e.number_is fields e.beside.places_are
    (c.put_base.ensures.1 ∙ ap₂ {C = List ℕ} (λ (f : Bool) (l : List ℕ). flag_word f ∷ l) e.beside.folded_is values)
