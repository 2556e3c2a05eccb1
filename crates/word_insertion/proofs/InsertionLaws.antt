-- A word put in at a place, where the last place is free.
use mathlib.Core.Path.{◌≡◌, refl, ap₂, sym, ◌∙◌}
use mathlib.Core.List.{List, [], ◌∷◌, ◌++◌, append_assoc}
use Prim.Native.Nat.{ℕ, ◌≤◌}
use native.Mathlib.Omega.{arith}
use lib.ListN.{length, take, drop, length-take, length-drop, length-append}
use lib.Seq.{take_at, take-append-le, drop-append-le}
use Rattle.word_insertion.specs.Inserted.{inserted}

-- where one place behind the words is free, only what stands in it falls out
pub free_place : (w : List ℕ) (x at v : ℕ) → at ≤ length w → inserted (w ++ (x ∷ [])) at v ≡ take at w ++ (v ∷ drop at w)
free_place w x at v h =
    let placed = take at w ++ (v ∷ drop at w) in
    let size : length (w ++ (x ∷ [])) ≡ length placed
    = omega (arith, length-append w (x ∷ []), length-append (take at w) (v ∷ drop at w), length-take at w, length-drop at w) in
    let all : take at (w ++ (x ∷ [])) ++ (v ∷ drop at (w ++ (x ∷ []))) ≡ placed ++ (x ∷ [])
    = ap₂ {C = List ℕ} (λ ys zs. ys ++ (v ∷ zs)) (take-append-le at w (x ∷ []) h) (drop-append-le at w (x ∷ []) h) ∙ sym (append_assoc (take at w) (v ∷ drop at w) (x ∷ [])) in
    ap₂ {C = List ℕ} take size all ∙ take_at placed (x ∷ []) (length placed) refl
