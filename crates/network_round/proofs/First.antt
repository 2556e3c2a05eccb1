-- The first number that passes a test, as a search of a range finds it, or the end of the range.
use Rattle.std.proofs.Common.{Some, ◌≡◌, refl, ◌∙◌, ap, sym, ℕ, zero, suc, ◌+◌, arith}
use mathlib.Core.Bool.{Bool, true, false, cond}
use Rattle.std.specs.Option.{unwrap_or}
use Rattle.std.specs.List.{find, range_with_len}
use Rattle.placement.specs.Places.{first_from}

pub first_or : (p : ℕ → Bool) (a n end : ℕ) → a + n ≡ end → unwrap_or (find p (range_with_len a n)) end ≡ first_from p a n
first_or p a zero end e = let same : end ≡ a = omega (arith, e) in same
first_or p a (suc n) end e = go (p a) (first_or p (suc a) n end (omega (arith, e)))
  where
    next : suc a ≡ a + 1
    next = omega arith

    go : (b : Bool) → unwrap_or (find p (range_with_len (suc a) n)) end ≡ first_from p (suc a) n
        → unwrap_or (cond b (Some a) (find p (range_with_len (a + 1) n))) end ≡ cond b a (first_from p (suc a) n)
    go true rest = refl
    go false rest = ap (λ (k : ℕ). unwrap_or (find p (range_with_len k n)) end) (sym next) ∙ rest
