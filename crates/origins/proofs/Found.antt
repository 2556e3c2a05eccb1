-- The last in turn of the commits that pass a test, found among one commit more.
use mathlib.Core.Path.{◌≡◌, refl, sym, subst}
use mathlib.Core.Bool.{Bool, true, false}
use mathlib.Core.List.{List}
use mathlib.Core.Logic.{◌⊎◌, inl, inr}
use mathlib.Core.Option.{Option, none, some}
use Prim.Native.Nat.{ℕ, suc, ◌<◌}
use native.Mathlib.Omega.{arith}
use lib.Dec.{eqb}
use borrow.Author.Tests.{eqb-true, eqb-false}
use Rattle.records.specs.Records.{Record}
use Rattle.origins.specs.Statements.{turn_at, precedes, LastBelow, NoneBelow, FoundBelow}
use Rattle.protocol.proofs.Precedes.{number_of, stamp_of, precedes_trans, precedes_one_way, precedes_turned}

module _ (place : ℕ → ℕ) (h : List Record) (passes : ℕ → Bool) where
  abbrev Passes : ℕ → Type 0
  Passes i = passes i ≡ true

  abbrev Precedes : ℕ → ℕ → Type 0
  Precedes i m = precedes place (turn_at h i) (turn_at h m) ≡ true

  -- below one more is that one, or below
  below_next : (i j : ℕ) → i < suc j → (i ≡ j) ⊎ (i < j)
  below_next i j l = go (eqb i j) refl
    where
      go : (b : Bool) → eqb i j ≡ b → (i ≡ j) ⊎ (i < j)
      go true e = inl (eqb-true i j e)
      go false e = inr (omega (arith, eqb-false i j e))

  pub none_yet : NoneBelow passes 0
  none_yet i l w = omega arith

  module _ (j : ℕ) where
    pub found_first : Passes j → NoneBelow passes j → LastBelow place h passes (suc j) j
    found_first w f = record { low = omega arith; is_one = w; last = λ i l u. go i u (below_next i j l) }
      where
        go : (i : ℕ) → Passes i → (i ≡ j) ⊎ (i < j) → (i ≡ j) ⊎ Precedes i j
        go i u (inl s) = inl s
        go i u (inr l) = absurd (f i l u)

    pub found_later : (m : ℕ) → Passes j → LastBelow place h passes j m → Precedes m j → LastBelow place h passes (suc j) j
    found_later m w f p = record { low = omega arith; is_one = w; last = λ i l u. go i u (below_next i j l) }
      where
        next : (i : ℕ) → (i ≡ m) ⊎ Precedes i m → Precedes i j
        next i (inl s) = subst (λ (n : ℕ). Precedes n j) (sym s) p
        next i (inr q) = precedes_trans place number_of stamp_of (turn_at h i) (turn_at h m) (turn_at h j) q p

        go : (i : ℕ) → Passes i → (i ≡ j) ⊎ (i < j) → (i ≡ j) ⊎ Precedes i j
        go i u (inl s) = inl s
        go i u (inr l) = inr (next i (f.last i l u))

    pub found_kept : (m : ℕ) → Passes j → LastBelow place h passes j m → precedes place (turn_at h m) (turn_at h j) ≡ false → LastBelow place h passes (suc j) m
    found_kept m w f p = let low : m < j = f.low in record { low = omega arith; is_one = f.is_one; last = λ i l u. go i u (below_next i j l) }
      where
        go : (i : ℕ) → Passes i → (i ≡ j) ⊎ (i < j) → (i ≡ m) ⊎ Precedes i m
        go i u (inl s) = inr (subst (λ (n : ℕ). Precedes n m) (sym s) (precedes_turned place number_of stamp_of (turn_at h m) (turn_at h j) f.low p))
        go i u (inr l) = f.last i l u

    module _ (no : Passes j → ⊥) where
      still_below : (i : ℕ) → i < suc j → Passes i → i < j
      still_below i l u = go (below_next i j l)
        where
          go : (i ≡ j) ⊎ (i < j) → i < j
          go (inl s) = absurd (no (subst Passes s u))
          go (inr b) = b

      pub found_skip : (o : Option ℕ) → FoundBelow place h passes j o → FoundBelow place h passes (suc j) o
      found_skip none f = λ i l u. f i (still_below i l u) u
      found_skip (some m) f = let low : m < j = f.low in record { low = omega arith; is_one = f.is_one; last = λ i l u. f.last i (still_below i l u) u }

    -- ---- one answer at most is right
    last_alone : (m n : ℕ) → LastBelow place h passes j m → LastBelow place h passes j n → m ≡ n
    last_alone m n f g = go (f.last n g.low g.is_one) (g.last m f.low f.is_one)
      where
        go : (n ≡ m) ⊎ Precedes n m → (m ≡ n) ⊎ Precedes m n → m ≡ n
        go (inl s) r = sym s
        go (inr p) (inl s) = s
        go (inr p) (inr q) = absurd (precedes_one_way place number_of stamp_of (turn_at h n) (turn_at h m) p q)

    pub found_alone : (o p : Option ℕ) → FoundBelow place h passes j o → FoundBelow place h passes j p → o ≡ p
    found_alone none none f g = refl
    found_alone none (some n) f g = absurd (f n g.low g.is_one)
    found_alone (some m) none f g = absurd (g m f.low f.is_one)
    found_alone (some m) (some n) f g = λ i. some (last_alone m n f g i)
