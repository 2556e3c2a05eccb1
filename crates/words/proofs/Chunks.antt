-- Laws of the chunks of a list of words: one read, the first of them, one replaced, one added at the end, the first dropped.
use mathlib.Core.Path.{◌≡◌, refl, sym, ap, subst, ◌∙◌}
use mathlib.Core.List.{List, [], ◌∷◌, ◌++◌}
use Prim.Native.Nat.{ℕ, zero, suc, ◌+◌, ◌-◌, ◌*◌, ◌≤◌, ◌<◌}
use native.Mathlib.Omega.{arith}
use native.Mathlib.Nat.{not-suc-le-zero, zero-mul, suc-mul, mul-le-mul_right}
use lib.ListN.{length, get_or, set, take, drop, drop_of_length-le, length-drop}
use lib.Seq.{take_at, drop_at, take-append-le, drop-append-le, drop-drop, take_all}
use Rattle.words.specs.Words.{part, put, chunks, shifted}
use Rattle.words.proofs.Parts.{put_below, drop_put}

-- the words of chunk i end within those of k chunks
pub mul_room : (i k m : ℕ) → i < k → i * m + m ≤ k * m
mul_room i k m h = subst (λ (z : ℕ). z ≤ k * m) (suc-mul i m) (mul-le-mul_right m h)

pub chunks_length : (m k : ℕ) (w : List ℕ) → length (chunks m k w) ≡ k
unfolding chunks
chunks_length m zero w = refl
chunks_length m (suc k) w = ap suc (chunks_length m k (drop m w))

pub chunks_at : (m k : ℕ) (w : List ℕ) (i : ℕ) → i < k → get_or (chunks m k w) i [] ≡ part w (i * m) m
unfolding chunks
chunks_at m zero w i h = absurd (not-suc-le-zero h)
chunks_at m (suc k) w zero h = ap (λ (j : ℕ). take m (drop j w)) (sym (zero-mul m))
chunks_at m (suc k) w (suc i) h =
    let e : m + i * m ≡ suc i * m = simp suc-mul (omega arith) in
    chunks_at m k (drop m w) i (omega arith) ∙ ap (take m) (drop-drop (i * m) m w ∙ ap (λ (j : ℕ). drop j w) e)

-- the first of some chunks
pub chunks_take : (m n k : ℕ) (w : List ℕ) → n ≤ k → take n (chunks m k w) ≡ chunks m n w
unfolding chunks
chunks_take m zero k w h = refl
chunks_take m (suc n) zero w h = absurd (not-suc-le-zero h)
chunks_take m (suc n) (suc k) w h = ap (λ (cs : List (List ℕ)). take m w ∷ cs) (chunks_take m n k (drop m w) (omega arith))

pub chunks_put : (m k : ℕ) (w : List ℕ) (i : ℕ) (ys : List ℕ) → length ys ≡ m → i < k → k * m ≤ length w → chunks m k (put w (i * m) m ys) ≡ set (chunks m k w) i ys
unfolding chunks
chunks_put m zero w i ys s h g = absurd (not-suc-le-zero h)
chunks_put m (suc k) w zero ys s h g =
    ap (λ (j : ℕ). chunks m (suc k) (put w j m ys)) (zero-mul m)
    ∙ ap (λ (x : List ℕ). x ∷ chunks m k (drop m (ys ++ drop m w))) (take_at ys (drop m w) m s)
    ∙ ap (λ (x : List ℕ). ys ∷ chunks m k x) (drop_at ys (drop m w) m s)
chunks_put m (suc k) w (suc i) ys s h g =
    let e : suc i * m ≡ m + i * m = simp suc-mul (omega arith) in
    let g' : k * m + m ≤ length w = simp suc-mul at g in
    let b : i * m + m ≤ k * m = mul_room i k m (omega arith) in
    ap (λ (j : ℕ). chunks m (suc k) (put w j m ys)) e
    ∙ ap (λ (x : List ℕ). x ∷ chunks m k (drop m (put w (m + i * m) m ys))) (put_below w (m + i * m) m ys (omega arith) s 0 m (omega arith))
    ∙ ap (λ (x : List ℕ). take m w ∷ chunks m k x) (drop_put m w (i * m) m ys (omega arith))
    ∙ ap (λ (x : List (List ℕ)). take m w ∷ x) (chunks_put m k (drop m w) i ys s (omega arith) (omega (arith, length-drop m w)))

-- one chunk more at the end
pub chunks_snoc : (m k : ℕ) (w t : List ℕ) → length w ≡ k * m → length t ≡ m → chunks m (suc k) (w ++ t) ≡ chunks m k w ++ (t ∷ [])
unfolding chunks
chunks_snoc m zero w t h s =
    let z : length w ≡ 0 = h ∙ zero-mul m in
    let n : w ≡ [] = drop_of_length-le w {i = 0} (omega arith) in
    ap (λ (x : List ℕ). take m (x ++ t) ∷ []) n ∙ ap (λ (x : List ℕ). x ∷ []) (take_all m t (omega arith))
chunks_snoc m (suc k) w t h s =
    let g : length w ≡ k * m + m = h ∙ suc-mul k m in
    ap (λ (x : List ℕ). x ∷ chunks m (suc k) (drop m (w ++ t))) (take-append-le m w t (omega arith))
    ∙ ap (λ (x : List ℕ). take m w ∷ chunks m (suc k) x) (drop-append-le m w t (omega arith))
    ∙ ap (λ (x : List (List ℕ)). take m w ∷ x) (chunks_snoc m k (drop m w) t (omega (arith, length-drop m w)) s)

-- the first chunk gone, and the last there twice
pub chunks_shift : (m k : ℕ) (w : List ℕ) → length w ≡ suc k * m → chunks m (suc k) (shifted w m) ≡ drop 1 (chunks m (suc k) w) ++ (drop (length w - m) w ∷ [])
unfolding chunks
chunks_shift m k w h =
    let g : length w ≡ k * m + m = h ∙ suc-mul k m in
    chunks_snoc m k (drop m w) (drop (length w - m) w) (omega (arith, length-drop m w)) (omega (arith, length-drop (length w - m) w))

-- the last of some chunks, behind the others
pub chunks_last : (m k : ℕ) (w : List ℕ) → chunks m (suc k) w ≡ chunks m k w ++ (part w (k * m) m ∷ [])
unfolding chunks
chunks_last m zero w = ap (λ (j : ℕ). take m (drop j w) ∷ []) (sym (zero-mul m))
chunks_last m (suc k) w =
    let e : m + k * m ≡ suc k * m = simp suc-mul (omega arith) in
    ap (λ (x : List (List ℕ)). take m w ∷ x) (chunks_last m k (drop m w))
    ∙ ap (λ (x : List ℕ). take m w ∷ (chunks m k (drop m w) ++ (x ∷ []))) (ap (take m) (drop-drop (k * m) m w ∙ ap (λ (j : ℕ). drop j w) e))

-- what is put behind some chunks leaves them as they are
pub chunks_below : (m k : ℕ) (w : List ℕ) (at n : ℕ) (ys : List ℕ) → k * m ≤ at → at + n ≤ length w → length ys ≡ n → chunks m k (put w at n ys) ≡ chunks m k w
unfolding chunks
chunks_below m zero w at n ys h g s = refl
chunks_below m (suc k) w at n ys h g s =
    let h' : k * m + m ≤ at = simp suc-mul at h in
    let e : at ≡ m + (at - m) = omega arith in
    ap (λ (x : List ℕ). x ∷ chunks m k (drop m (put w at n ys))) (put_below w at n ys g s 0 m (omega arith))
    ∙ ap (λ (j : ℕ). take m w ∷ chunks m k (drop m (put w j n ys))) e
    ∙ ap (λ (x : List ℕ). take m w ∷ chunks m k x) (drop_put m w (at - m) n ys (omega arith))
    ∙ ap (λ (x : List (List ℕ)). take m w ∷ x) (chunks_below m k (drop m w) (at - m) n ys (omega arith) (omega (arith, length-drop m w)) s)
