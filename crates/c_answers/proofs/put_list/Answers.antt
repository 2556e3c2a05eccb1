-- `put_list` lays the values, and before them how many there are.
use mathlib.Core.Path.{ap₂, ◌∙◌}
use mathlib.Core.List.{List}
use Prim.Native.Nat.{ℕ, ◌-◌}
use native.Mathlib.Omega.{arith}
use lib.ListN.{length, set, length-map}
use mir.Val.{of_z}
use mir.Syntax.{w32}
use Rattle.words.specs.Words.{put}
use Rattle.c_answers.specs.Answers.{value_words}
use Rattle.c_fields.proofs.FieldWords.{first_behind}
use Rattle.c_answers.proofs.put_list.Goals as goal

pub returns : goal.returns
returns c =
    let w = c.args.w.now in
    let vs = c.args.values.now in
    let size = length-map vs (of_z w32) in
    c.store.ensures
    ∙ ap₂ {C = List ℕ} (λ (ys : List ℕ) (v : ℕ). set (put w 1 (length w - 1) ys) 0 v) c.put_values.ensures c.few.ensures
    ∙ first_behind w (value_words vs) c.args.count (length w - 1) (omega (arith, c.requires.sized)) (omega (arith, c.requires.sized))
