-- `find` looks in what stands behind the position.
use mathlib.Core.Path.{◌≡◌, sym, ap, ◌∙◌}
use mathlib.Core.List.{List}
use Prim.Native.Nat.{ℕ, ◌-◌, min}
use native.Mathlib.Omega.{arith}
use lib.ListN.{length, take, drop, length-drop}
use lib.Seq.{take_all}
use Rattle.std.proofs.lemmas.List.{drop_min}
use Rattle.script_notation.specs.Fields.{position}
use Rattle.script_notation.proofs.Places.{place_is, place_within}
use Rattle.script_fields.proofs.find.Goals as goal

behind : (l : List ℕ) (from m : ℕ) → m ≡ min from (length l) → take (length l - m) (drop m l) ≡ drop from l
behind l from m e = take_all (length l - m) (drop m l) (omega (arith, length-drop m l)) ∙ ap (λ (k : ℕ). drop k l) e ∙ drop_min from l

there : (c : goal.After-first) → c.first.result ≡ position c.args.byte (drop c.args.from c.args.text.now)
there c = c.first.ensures ∙ sym (place_is c.args.byte _) ∙ ap (position c.args.byte) (behind c.args.text.now c.args.from c.min.result c.min.ensures)

pub overflow_add-result : goal.overflow_add-result
overflow_add-result c = omega (arith, there c, place_within c.args.byte (drop c.args.from c.args.text.now), length-drop c.args.from c.args.text.now)

pub returns : goal.returns
returns c = omega (arith, there c)
