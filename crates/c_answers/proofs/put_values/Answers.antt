-- `put_values` lays one word after another: up to i the words are those of the values.
use mathlib.Core.Path.{◌≡◌, refl, sym, ap, ap₂, ◌∙◌}
use mathlib.Core.List.{List}
use Prim.Native.Nat.{ℕ}
use native.Mathlib.Omega.{arith}
use lib.IntN.{pos}
use lib.ListN.{get_or, set, length-set, length-map, get_or-map}
use mir.Val.{of_z}
use mir.ValLaws.{to_z-of_z}
use mir.Syntax.{w32}
use Rattle.words.proofs.Walks.{laid_next, laid_all, overlaid_same}
use Rattle.c_answers.specs.Answers.{value_words}
use Rattle.c_answers.proofs.put_values.Goals as goal

pub loop-i-preserved : goal.loop-i-preserved
loop-i-preserved c =
    let l = c.loop-i in
    let A = c.args in
    let vs = A.values.now in
    let size = length-map vs (of_z w32) in
    let word : c.bits.result ≡ get_or (value_words vs) l.i 0 = c.bits.ensures ∙ ap (of_z w32) (to_z-of_z w32 (get_or vs l.i (pos 0)) (record { sfits = c.bits-arg-1.given })) ∙ sym (get_or-map (of_z w32) vs l.i (pos 0)) in (
      omega arith,
      refl,
      l.invariant.2,
      ap₂ {C = List ℕ} (λ (x : List ℕ) (v : ℕ). set x l.i v) l.invariant.3 word ∙ laid_next (value_words vs) A.w.now l.i (omega arith) (omega arith),
      simp length-set l.invariant.4,
    )

pub returns : goal.returns
returns c =
    let l = c.loop-i in
    let A = c.args in
    let vs = A.values.now in
    let size = length-map vs (of_z w32) in
    l.invariant.3 ∙ laid_all (value_words vs) A.w.now l.i (omega arith) ∙ overlaid_same A.w.now (value_words vs) (omega arith)
