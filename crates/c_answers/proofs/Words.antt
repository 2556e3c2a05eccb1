-- Values in places, and words written part by part.
use mathlib.Core.Path.{◌≡◌, refl, sym, ap, ap₂, ◌∙◌}
use mathlib.Core.List.{List, ◌∷◌, ◌++◌, append-nil, map-append}
use Prim.Native.Nat.{ℕ, zero, suc, ◌+◌, ◌-◌, ◌≤◌}
use native.Mathlib.Omega.{arith}
use lib.IntN.{ℤ, pos}
use lib.ListN.{length, take, drop, replicate, length-map, length-drop, length-append, drop_of_length-le}
use lib.Seq.{length-take-le, drop_at}
use mir.Val.{of_z}
use mir.Syntax.{w32}
use Rattle.words.specs.Words.{put, laid}
use Rattle.words.proofs.Walks.{laid_in}
use Rattle.lists.specs.Lists.{Filled, padded}
use Rattle.lists.proofs.Filled.{filled_padded}
use Rattle.c_answers.specs.Answers.{listed, value_words}

-- ---- values in places
zeros : (n : ℕ) → value_words (replicate n (pos 0)) ≡ replicate n 0
zeros zero = refl
zeros (suc n) = ap (λ (l : List ℕ). 0 ∷ l) (zeros n)

pub padded_words : (places : ℕ) (vs : List ℤ) → value_words (padded places (pos 0) vs) ≡ padded places 0 (value_words vs)
padded_words places vs =
    map-append (of_z w32) vs (replicate (places - length vs) (pos 0))
    ∙ ap (λ (l : List ℕ). value_words vs ++ l) (zeros (places - length vs) ∙ ap (λ (n : ℕ). replicate (places - n) 0) (sym (length-map vs (of_z w32))))

pub listed_words : (places count : ℕ) (vs : List ℤ) → count ≡ length vs → count ∷ value_words (padded places (pos 0) vs) ≡ listed places (value_words vs)
listed_words places count vs e = ap₂ {C = List ℕ} (λ (n : ℕ) (l : List ℕ). n ∷ l) (e ∙ sym (length-map vs (of_z w32))) (padded_words places vs)

pub filled_words : (places count : ℕ) (vs : List ℤ) → Filled (pos 0) places count vs → length vs ≡ places → count ∷ value_words vs ≡ listed places (value_words (take count vs))
filled_words places count vs f whole =
    let size : count ≡ length (take count vs) = sym (length-take-le count vs (omega (arith, whole, f.fits))) in
    ap (λ (l : List ℤ). count ∷ value_words l) (filled_padded (pos 0) places count vs f) ∙ listed_words places count (take count vs) size

-- ---- parts of words, the last written first
pub last_put : (w ys : List ℕ) (k n : ℕ) → length w ≡ k + length ys → length ys ≤ n → drop k (put w k n ys) ≡ ys
last_put w ys k n e h =
    drop_at (take k w) (ys ++ drop n (drop k w)) k (length-take-le k w (omega arith))
    ∙ ap (λ (l : List ℕ). ys ++ l) (drop_of_length-le (drop k w) {i = n} (omega (arith, length-drop k w)))
    ∙ append-nil ys

pub front_laid : (w xs : List ℕ) → length xs ≤ length w → laid w 0 xs ≡ xs ++ drop (length xs) w
front_laid w xs h = laid_in w 0 xs (omega arith)

pub front_behind : (w xs ys : List ℕ) (k n : ℕ) → length xs ≡ k → length w ≡ k + length ys → length ys ≤ n → laid (put w k n ys) 0 xs ≡ xs ++ ys
front_behind w xs ys k n size e h =
    let p = put w k n ys in
    let front : length (take k w) ≡ k = length-take-le k w (omega arith) in
    let room : length xs ≤ length p = simp length-append (omega arith) in
    front_laid p xs room ∙ ap (λ (j : ℕ). xs ++ drop j p) size ∙ ap (λ (l : List ℕ). xs ++ l) (last_put w ys k n e h)
