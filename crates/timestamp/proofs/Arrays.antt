-- An array that a function makes from the index, read by r.
use mathlib.Core.Path.{◌≡◌, refl, ap, subst, ◌∙◌}
use mathlib.Core.Bool.{Bool, true, false}
use mathlib.Core.List.{List, map}
use Prim.Native.Nat.{ℕ, zero, suc, ◌+◌, ◌≤◌, ◌<◌}
use native.Mathlib.Omega.{arith}
use lib.Dec.{ltb}
use lib.ListN.{get_or, length-map, get_or-map}
use borrow.Author.Tests.{ltb-true, ltb-false}
use denote.Param.Members.{Mut}
use Rattle.std.specs.Fn.{Called}
use Rattle.std.specs.List.{range_with_len}
use Rattle.std.specs.Array.{IsFromFnResult, IsFromFnResultFrom}
use Rattle.std.proofs.lemmas.List.FromFn.{fill_by_all}

-- h is what each call gives, which leaves the function as it was
module _ {F B C : Type 0} {g : Mut F (ℕ × Unit {0}) B} {f : F} (r : B → C) (h : ℕ → C) (gives : (x : ℕ) (y : B) (q : F) → Called g f (x, tt) y q → (q ≡ f) × (r y ≡ h x)) where
  each_made : (ys : List B) (n i : ℕ) (p : F) → p ≡ f → IsFromFnResultFrom g p ys i n → (k : ℕ) (d : B) → i ≤ k → k < i + n → r (get_or ys k d) ≡ h k
  each_made ys zero i p same all k d low high = absurd (omega arith)
  each_made ys (suc n) i p same all k d low high = by (ltb i k) refl (each_made ys n (i + 1) all.0 told.0 all.4 k d)
    where
      told : (all.0 ≡ f) × (r all.1 ≡ h i)
      told = gives i all.1 all.0 (subst (λ (x : F). Called g x (i, tt) all.1 all.0) same all.3)

      by : (t : Bool) → ltb i k ≡ t → (i + 1 ≤ k → k < i + 1 + n → r (get_or ys k d) ≡ h k) → r (get_or ys k d) ≡ h k
      by true e rest = let above = ltb-true i k e in rest (omega arith) (omega arith)
      by false e rest =
          let here : i ≡ k = omega (arith, ltb-false i k e) in
          subst (λ (j : ℕ). r (get_or ys j d) ≡ h j) here (ap r (all.2.1 d) ∙ told.1)

  pub made : (ys : List B) (n : ℕ) (d : B) → IsFromFnResult g f ys n → map r ys ≡ map h (range_with_len 0 n)
  made ys n d all =
      fill_by_all h (map r ys) n (r d) (length-map ys r ∙ all.long)
      (λ k l. get_or-map r ys k d ∙ each_made ys n 0 f refl all.each k d (omega arith) (omega arith))
