-- A test asked of the first n items by their numbers.
use mathlib.Core.Path.{◌≡◌, refl, sym, ap, ap₂, ◌∙◌}
use mathlib.Core.Bool.{Bool, ◌||◌}
use mathlib.Core.List.{List, [], ◌∷◌}
use Prim.Native.Nat.{ℕ, suc, ◌+◌, ◌<◌}
use native.Mathlib.Omega.{arith}
use lib.ListN.{length, get_or}
use Rattle.std.specs.List.{list_any, range_with_len}
use Rattle.lists.specs.Lists.{any}
use Rattle.placement.specs.Placement.{Item, no_item}
use Rattle.placement.specs.InWords.{item_at, items_in}
use Rattle.placement.proofs.Items.{items_length, items_at_lem}

any_by_place : (test : Item → Bool) (q : ℕ → Bool) (xs : List Item) (a : ℕ) → ((i : ℕ) → i < length xs → q (a + i) ≡ test (get_or xs i no_item)) → list_any q (range_with_len a (length xs)) ≡ any test xs
any_by_place test q [] a h = refl
any_by_place test q (x ∷ xs) a h =
    let first : a ≡ a + 0 = omega arith in
    ap₂ (λ (s t : Bool). s || t) (ap q first ∙ h 0 (omega arith))
    (any_by_place test q xs (a + 1) (λ i k. let next : a + 1 + i ≡ a + suc i = omega arith in ap q next ∙ h (suc i) (omega arith)))

pub asked : (test : Item → Bool) (n : ℕ) (w : List ℕ) → list_any (λ k. test (item_at w k)) (range_with_len 0 n) ≡ any test (items_in n w)
asked test n w =
    let all = items_length n w in
    ap (λ (m : ℕ). list_any (λ k. test (item_at w k)) (range_with_len 0 m)) (sym all)
    ∙ any_by_place test (λ k. test (item_at w k)) (items_in n w) 0
    (λ i h. let own : 0 + i ≡ i = omega arith in ap (λ (k : ℕ). test (item_at w k)) own ∙ ap test (sym (items_at_lem n w i (omega (arith, all)))))
