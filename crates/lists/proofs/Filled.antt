-- Places of which the first are used: more of them used, one set, a list laid into them, and that the used ones tell them all.
use mathlib.Core.Path.{◌≡◌, refl, sym, ap, ap₂, ◌∙◌}
use mathlib.Core.List.{List, ◌∷◌, ◌++◌}
use Prim.Native.Nat.{ℕ, zero, suc, ◌+◌, ◌-◌, ◌≤◌, ◌<◌}
use native.Mathlib.Omega.{arith}
use lib.ListN.{length, set, take, drop, replicate, length-set, length-append, length-replicate, take-append-drop, get_or-eq_default}
use lib.Seq.{drop-drop, drop-set-lt, length-take-le}
use Rattle.lists.specs.Lists.{Filled, spell, padded}

module _ {A : Type 0} (z : A) where
  same : (m n : ℕ) → m ≡ n → replicate m z ≡ replicate n z
  same m n e = ap (λ (k : ℕ). replicate k z) e

  drop_zeros : (k n : ℕ) → drop k (replicate n z) ≡ replicate (n - k) z
  drop_zeros zero n = same n (n - 0) (omega arith)
  drop_zeros (suc k) zero = same 0 (0 - suc k) (omega arith)
  drop_zeros (suc k) (suc n) = drop_zeros k n ∙ same (n - k) (suc n - suc k) (omega arith)

  pub filled_more : (places count count' : ℕ) (vs vs' : List A) → Filled z places count vs → count ≤ count' → count' ≤ places → length vs' ≡ length vs → drop count' vs' ≡ drop count' vs → Filled z places count' vs'
  filled_more places count count' vs vs' e h g l f =
      let step : count' ≡ count + (count' - count) = omega arith in
      record {
        fits = g;
        sized = l ∙ e.sized;
        rest_is =
            f
            ∙ ap (λ (k : ℕ). drop k vs) step
            ∙ sym (drop-drop (count' - count) count vs)
            ∙ ap (λ (l : List A). drop (count' - count) l) e.rest_is
            ∙ drop_zeros (count' - count) (places - count)
            ∙ same (places - count - (count' - count)) (places - count') (omega arith);
      }

  -- one of the used places set, or the next one, which is then used
  pub filled_set : (places count count' i : ℕ) (vs : List A) (x : A) → Filled z places count vs → count ≤ count' → count' ≤ places → i < count' → Filled z places count' (set vs i x)
  filled_set places count count' i vs x e h g b = filled_more places count count' vs (set vs i x) e h g (length-set vs i x) (drop-set-lt count' vs i x b)

  -- a list laid into the first places
  spell_length : (i n : ℕ) (l : List A) → length (spell z i n l) ≡ n
  spell_length i zero l = refl
  spell_length i (suc n) l = ap suc (spell_length (suc i) n l)

  spell_past : (i n : ℕ) (l : List A) → length l ≤ i → spell z i n l ≡ replicate n z
  spell_past i zero l h = refl
  spell_past i (suc n) l h = ap₂ {C = List A} (λ x xs. x ∷ xs) (get_or-eq_default l z {n = i} h) (spell_past (suc i) n l (omega arith))

  from : (i n j m : ℕ) (l : List A) → i ≡ j → n ≡ m → spell z i n l ≡ spell z j m l
  from i n j m l e f = ap₂ (λ (a b : ℕ). spell z a b l) e f

  spell_drop : (k i n : ℕ) (l : List A) → k ≤ n → drop k (spell z i n l) ≡ spell z (i + k) (n - k) l
  spell_drop zero i n l h = from i n (i + 0) (n - 0) l (omega arith) (omega arith)
  spell_drop (suc k) i zero l h = absurd (omega arith)
  spell_drop (suc k) i (suc n) l h = spell_drop k (suc i) n l (omega arith) ∙ from (suc i + k) (n - k) (i + suc k) (suc n - suc k) l (omega arith) (omega arith)

  pub filled_spell : (places : ℕ) (l : List A) → length l ≤ places → Filled z places (length l) (spell z 0 places l)
  filled_spell places l h =
      record {
        fits = h;
        sized = spell_length 0 places l;
        rest_is = spell_drop (length l) 0 places l h ∙ spell_past (0 + length l) (places - length l) l (omega arith);
      }

  -- the used ones, and z past them
  pub filled_padded : (places count : ℕ) (vs : List A) → Filled z places count vs → vs ≡ padded places z (take count vs)
  filled_padded places count vs f =
      let size : count ≡ length (take count vs) = sym (length-take-le count vs (omega (arith, f.sized, f.fits))) in
      sym (take-append-drop count vs) ∙ ap (λ (l : List A). take count vs ++ l) (f.rest_is ∙ same (places - count) (places - length (take count vs)) (ap (λ (n : ℕ). places - n) size))

  pub padded_few : (places : ℕ) (vs all : List A) → all ≡ padded places z vs → length all ≡ places → length vs ≤ places
  padded_few places vs all e whole =
      let size : length (padded places z vs) ≡ length vs + (places - length vs) = simp (length-append, length-replicate) in
      omega (arith, size, whole, ap length e)

  -- the used places tell how many they are, and all of them
  module _ (places count count' : ℕ) (vs vs' : List A) (f : Filled z places count vs) (f' : Filled z places count' vs') (e : take count vs ≡ take count' vs') where
    pub filled_count : count ≡ count'
    filled_count =
        let a : length (take count vs) ≡ count = length-take-le count vs (omega (arith, f.fits, f.sized)) in
        let b : length (take count' vs') ≡ count' = length-take-le count' vs' (omega (arith, f'.fits, f'.sized)) in
        sym a ∙ ap length e ∙ b

    pub filled_places : vs ≡ vs'
    filled_places =
        sym (take-append-drop count vs)
        ∙ ap₂ (λ (a b : List A). a ++ b) e (f.rest_is ∙ same (places - count) (places - count') (ap (λ (k : ℕ). places - k) filled_count) ∙ sym f'.rest_is)
        ∙ take-append-drop count' vs'
