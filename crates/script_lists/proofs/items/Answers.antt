-- `items` takes the numbers two by two: the items done, in front of those still to come, are all.
use mathlib.Core.Path.{◌≡◌, refl, sym, ap, ◌∙◌}
use mathlib.Core.Bool.{Bool, true, false}
use mathlib.Core.List.{List}
use mathlib.Core.Option.{none}
use Prim.Native.Nat.{ℕ, ◌+◌, ◌*◌, ◌/◌, ◌<◌, ◌≤◌}
use native.Mathlib.Omega.{arith}
use lib.Dec.{eqb}
use lib.ListN.{length, get_or, drop, set, length-set}
use borrow.Author.Tests.{eqb-true, eqb-false}
use Rattle.std.proofs.Common.{Some, None, Result, Ok, Err}
use Rattle.std.specs.Bool.{then_some}
use Rattle.std.specs.Result.{OkIff, result_ok}
use Rattle.lists.specs.Answers.{given_as}
use Rattle.placement.specs.Placement.{Item}
use Rattle.script_notation.specs.Parse.{placed, first_items}
use Rattle.script_notation.proofs.Walks.{ahead}
use Rattle.script_notation.proofs.Parsing.{items_more, items_end, items_odd, items_large, items_next}
use Rattle.script_lists.proofs.items.Goals as goal

-- what `try_from` says, where its error is dropped
module _ {E : Type 0} (m : ℕ) where
  refused : (r : Result ℕ E) → OkIff r (m < 256) m → None ≡ result_ok r → 256 ≤ m
  refused (Ok x) h e = cc
  refused (Err e) h f = omega (arith, h)

  taken : (r : Result ℕ E) → OkIff r (m < 256) m → (x : ℕ) → Some x ≡ result_ok r → (m < 256) × (x ≡ m)
  taken (Ok y) h x e = let same : x ≡ y = cc in (h.0, same ∙ h.1)
  taken (Err e) h x f = cc

-- a walk over the numbers, i items done
module _ (l ps ms : List ℕ) (i : ℕ) (e : placed l ≡ ahead (first_items i ps ms) (placed (drop (2 * i) l))) where
  more : (h : 2 * i + 1 < length l) → i < length ps → i < length ms → (x : ℕ) → x ≡ get_or l (2 * i + 1) 0 → x < 256
      → placed l ≡ ahead (first_items (i + 1) (set ps i (get_or l (2 * i) 0)) (set ms i x)) (placed (drop (2 * (i + 1)) l))
  more h hp hm x f g =
      let next : 2 * i + 1 + 1 ≡ 2 * (i + 1) = omega arith in
      items_next l (2 * i) (first_items i ps ms) _ e (omega arith) h (omega arith)
      ∙ ap (λ (ys : List Item). ahead ys (placed (drop (2 * i + 1 + 1) l))) (sym (items_more ps ms i hp hm (get_or l (2 * i) 0) (get_or l (2 * i + 1) 0)))
      ∙ (λ j. ahead (first_items (i + 1) (set ps i (get_or l (2 * i) 0)) (set ms i (sym f j))) (placed (drop (next j) l)))

  none_more : 2 * i + 1 < length l → 256 ≤ get_or l (2 * i + 1) 0 → none ≡ placed l
  none_more h g = sym (items_large l (2 * i) (first_items i ps ms) _ e (omega arith) h (omega arith))

  -- all of them where none is left over
  all_done : length l < 2 * i + 2 → 2 * i ≤ length l → given_as (λ n. first_items n ps ms) (then_some (eqb (length l) (2 * i)) i) ≡ placed l
  all_done f g = go (eqb (length l) (2 * i)) refl
    where
      go : (b : Bool) → eqb (length l) (2 * i) ≡ b → given_as (λ n. first_items n ps ms) (then_some b i) ≡ placed l
      go true h = let z : length l ≡ 2 * i = eqb-true (length l) (2 * i) h in sym (items_end l (2 * i) (first_items i ps ms) _ e (omega arith))
      go false h =
          let z : length l ≡ 2 * i → ⊥ = eqb-false (length l) (2 * i) h in
          sym (items_odd l (2 * i) (first_items i ps ms) _ e (omega arith) (omega arith))

pub returns-in_err-masks-clause-placed : goal.returns-in_err-masks-clause-placed
returns-in_err-masks-clause-placed c =
    let L = c.args.list.now in
    let l = c.loop-i in
    let large = refused _ c.try_from.result c.try_from.ensures c.in_err-masks.ensures.value in
    rw c.from_residual.ensures (none_more L l.primaries l.masks l.i l.invariant.2 (omega arith) large)

pub loop-i-preserved : goal.loop-i-preserved
loop-i-preserved c =
    let L = c.args.list.now in
    let l = c.loop-i in
    let mask = taken _ c.try_from.result c.try_from.ensures c.in_ok-masks.field-0 c.in_ok-masks.ensures.value in (
      length-set l.primaries l.i (get_or L (2 * l.i) 0) ∙ l.invariant.0,
      length-set l.masks l.i c.in_ok-masks.field-0 ∙ l.invariant.1,
      more L l.primaries l.masks l.i l.invariant.2 (omega arith) (omega arith) (omega arith) c.in_ok-masks.field-0 mask.1 (omega arith),
    )

pub returns-clause-placed : goal.returns-clause-placed
returns-clause-placed c =
    let L = c.args.list.now in
    let l = c.loop-i in
    let k : length L / 2 ≡ l.i = omega arith in
    let a = c.then_some.ensures ∙ ap (λ (n : ℕ). then_some (eqb (length L) (2 * n)) n) k in
    ap (given_as (λ n. first_items n l.primaries l.masks)) a ∙ all_done L l.primaries l.masks l.i l.invariant.2 (omega arith) (omega arith)
