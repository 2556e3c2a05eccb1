-- Laws of words laid over others: by a loop, as many over as many, and at a place where they fit.
use mathlib.Core.Path.{◌≡◌, ap, ap₂, ◌∙◌}
use mathlib.Core.List.{List, ◌++◌, append-nil}
use Prim.Native.Nat.{ℕ, ◌+◌, ◌≤◌, ◌<◌, min}
use native.Mathlib.Omega.{arith}
use lib.ListN.{length, get_or, set, take, drop, drop_of_length-le}
use lib.Seq.{take_all}
use borrow.Author.Tests.{le-leb}
use Rattle.lists.proofs.Lists.{take_min, drop_min, front_next}
use Rattle.words.specs.Words.{put, overlaid, laid}

-- ---- the first i of s before the rest of d, and one more of s
pub laid_next : (s d : List ℕ) (i : ℕ) → i < length s → i < length d → set (take i s ++ drop i d) i (get_or s i 0) ≡ take (i + 1) s ++ drop (i + 1) d
laid_next s d i hs hd = front_next 0 s d i hs hd

-- as far as both reach
pub laid_all : (s d : List ℕ) (i : ℕ) → i ≡ min (length d) (length s) → take i s ++ drop i d ≡ overlaid d s
laid_all s d i e =
    let f : i ≡ min (length s) (length d) = omega arith in
    ap₂ (λ (x y : List ℕ). x ++ y) (ap (λ (k : ℕ). take k s) e ∙ take_min (length d) s) (ap (λ (k : ℕ). drop k d) f ∙ drop_min (length s) d)

-- as many words over as many others
pub overlaid_same : (d s : List ℕ) → length s ≡ length d → overlaid d s ≡ s
overlaid_same d s e =
    ap₂ (λ (x y : List ℕ). x ++ y) (take_all (length d) s (omega arith)) (drop_of_length-le d {i = length s} (omega arith)) ∙ append-nil s

-- ---- words laid at a place where they fit
pub laid_in : (w : List ℕ) (at : ℕ) (ys : List ℕ) → at + length ys ≤ length w → laid w at ys ≡ put w at (length ys) ys
laid_in w at ys h = rw (le-leb (at + length ys) (length w) h)
