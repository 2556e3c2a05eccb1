-- `gevrolen_table` lays what the reader answers.
use mathlib.Core.Path.{ap, ◌∙◌}
use mathlib.Core.List.{List, ◌∷◌}
use Prim.Native.Nat.{◌-◌}
use lib.IntN.{ℤ}
use Rattle.limits.specs.Limits.{items_most}
use Rattle.network_readers.specs.Readers.{table_answer}
use Rattle.c_answers.specs.Answers.{value_words}
use Rattle.c_answers.specs.Asked.{table_count}
use Rattle.c_answers.proofs.Words.{listed_words}
use borrow.Author.Rules.{rules}
use Rattle.gevrolen_c.proofs.gevrolen_table.Goals as goal

pub put_table-requires : goal.put_table-requires
put_table-requires c =
    let e = c.table.ensures in
    record { sized = search rules; values = table_answer _ _; count_is = e.count_is; values_are = e.values_are }

pub returns : goal.returns
returns c =
    let A = c.args in
    let g = c.table.result in
    let e = c.table.ensures in
    let said = c.put_table.ensures in
    (rw said.0 e.performed, said.1 ∙ ap (λ (vs : List ℤ). table_count g ∷ value_words vs) e.values_are ∙ listed_words items_most (table_count g) (table_answer A.site A.state.now) e.count_is)
