-- `gevrolen_base` lays what the reader answers.
use mathlib.Core.Path.{ap, ap₂, ◌∙◌}
use mathlib.Core.Bool.{Bool}
use mathlib.Core.List.{List, ◌∷◌}
use Prim.Native.Nat.{ℕ}
use lib.IntN.{ℤ}
use Rattle.limits.specs.Limits.{items_most}
use Rattle.network_base.specs.Base.{base_answer}
use Rattle.c_answers.specs.Answers.{value_words, flag_word}
use Rattle.c_answers.specs.Asked.{base_count}
use Rattle.c_answers.proofs.Words.{listed_words}
use borrow.Author.Rules.{rules}
use Rattle.gevrolen_c.proofs.gevrolen_base.Goals as goal

pub put_base-requires : goal.put_base-requires
put_base-requires c =
    let e = c.base.ensures in
    record { sized = search rules; values = base_answer _; count_is = e.count_is; values_are = e.values_are }

pub returns : goal.returns
returns c =
    let w = c.args.state.now in
    let g = c.base.result in
    let e = c.base.ensures in
    let said = c.put_base.ensures in
    let values = ap (λ (vs : List ℤ). base_count g ∷ value_words vs) e.values_are ∙ listed_words items_most (base_count g) (base_answer w) e.count_is in
    (rw said.0 e.performed, said.1 ∙ ap₂ {C = List ℕ} (λ (b : Bool) (l : List ℕ). flag_word b ∷ l) e.folded_is values)
