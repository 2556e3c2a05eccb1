-- Laws of a part of a list of words: what is put into a part is there, and every other part is as it was.
use mathlib.Core.Path.{◌≡◌, sym, ap, ◌∙◌}
use mathlib.Core.List.{List, [], ◌∷◌, ◌++◌}
use Prim.Native.Nat.{ℕ, zero, suc, ◌+◌, ◌-◌, ◌≤◌, ◌<◌}
use native.Mathlib.Omega.{arith}
use native.Mathlib.Numerals.{add-one}
use native.Mathlib.Nat.{not-suc-le-zero, zero-add}
use lib.ListN.{length, get_or, set, take, drop, length-append, length-drop}
use lib.Seq.{take-take, take_at, drop_at, take-append-le, drop-append-le, drop-append-add, take-append-add, drop-drop, length-take-le, set_split, take-nil, get_or-take, get_or-drop}
use Rattle.words.specs.Words.{part, put}

-- ---- a part
pub part_length : (w : List ℕ) (at n : ℕ) → at + n ≤ length w → length (part w at n) ≡ n
part_length w at n h = length-take-le n (drop at w) (omega (arith, length-drop at w))

pub part_get_d : (w : List ℕ) (at n i : ℕ) → i < n → get_or (part w at n) i 0 ≡ get_or w (at + i) 0
part_get_d w at n i h = get_or-take n (drop at w) i 0 h ∙ get_or-drop at w i 0

drop_take : (a r : ℕ) (w : List ℕ) → drop a (take (a + r) w) ≡ take r (drop a w)
drop_take zero r w = ap (λ (k : ℕ). take k w) (zero-add r)
drop_take (suc a) r [] = ap (drop (suc a)) (take-nil (suc a + r)) ∙ sym (take-nil r)
drop_take (suc a) r (x ∷ xs) = let e : suc a + r ≡ suc (a + r) = omega arith in ap (λ (k : ℕ). drop (suc a) (take k (x ∷ xs))) e ∙ drop_take a r xs

part_take : (w : List ℕ) (b off k : ℕ) → off + k ≤ b → part (take b w) off k ≡ part w off k
part_take w b off k h =
    let e : b ≡ off + (b - off) = omega arith in
    ap (λ (j : ℕ). take k (drop off (take j w))) e ∙ ap (take k) (drop_take off (b - off) w) ∙ take-take k (b - off) (drop off w) (omega arith)

-- a part of a part
pub part_part : (w : List ℕ) (at n a k : ℕ) → a + k ≤ n → part (part w at n) a k ≡ part w (at + a) k
part_part w at n a k h = part_take (drop at w) n a k h ∙ ap (take k) (drop-drop a at w)

-- ---- n words put at a place
module _ (w : List ℕ) (at n : ℕ) (ys : List ℕ) (fits : at + n ≤ length w) (size : length ys ≡ n) where
  front : length (take at w) ≡ at
  front = length-take-le at w (omega arith)

  pub put_length : length (put w at n ys) ≡ length w
  put_length = simp (length-append, length-drop) (omega (arith, front))

  pub put_here : part (put w at n ys) at n ≡ ys
  put_here = ap (take n) (drop_at (take at w) (ys ++ drop n (drop at w)) at front) ∙ take_at ys (drop n (drop at w)) n size

  pub put_below : (off k : ℕ) → off + k ≤ at → part (put w at n ys) off k ≡ part w off k
  put_below off k h =
      ap (take k) (drop-append-le off (take at w) (ys ++ drop n (drop at w)) (omega (arith, front)))
      ∙ take-append-le k (drop off (take at w)) (ys ++ drop n (drop at w)) (omega (arith, front, length-drop off (take at w)))
      ∙ part_take w at off k h

  pub put_above : (off k : ℕ) → at + n ≤ off → part (put w at n ys) off k ≡ part w off k
  put_above off k h =
      let e : off ≡ length (take at w) + (length ys + (off - at - n)) = omega (arith, front) in
      let f : at + (n + (off - at - n)) ≡ off = omega arith in
      ap (λ (j : ℕ). take k (drop j (put w at n ys))) e
      ∙ ap (take k)
      (drop-append-add (take at w) (ys ++ drop n (drop at w)) (length ys + (off - at - n))
      ∙ drop-append-add ys (drop n (drop at w)) (off - at - n)
      ∙ drop-drop (off - at - n) n (drop at w)
      ∙ drop-drop (n + (off - at - n)) at w
      ∙ ap (λ (j : ℕ). drop j w) f)

  pub put_past : drop (at + n) (put w at n ys) ≡ drop (at + n) w
  put_past =
      sym (drop-drop n at (put w at n ys))
      ∙ ap (drop n) (drop_at (take at w) (ys ++ drop n (drop at w)) at front)
      ∙ drop_at ys (drop n (drop at w)) n size
      ∙ drop-drop n at w

  pub put_get_d_below : (i : ℕ) → i < at → get_or (put w at n ys) i 0 ≡ get_or w i 0
  put_get_d_below i h =
      let z : 0 + i ≡ i = zero-add i in
      ap (λ (k : ℕ). get_or (put w at n ys) k 0) (sym z)
      ∙ sym (part_get_d (put w at n ys) 0 at i h)
      ∙ ap (λ (x : List ℕ). get_or x i 0) (put_below 0 at (omega arith))
      ∙ part_get_d w 0 at i h
      ∙ ap (λ (k : ℕ). get_or w k 0) z

pub drop_put : (m : ℕ) (w : List ℕ) (a n : ℕ) (ys : List ℕ) → m ≤ length w → drop m (put w (m + a) n ys) ≡ put (drop m w) a n ys
drop_put zero w a n ys h = ap (λ (j : ℕ). put w j n ys) (zero-add a)
drop_put (suc m) [] a n ys h = absurd (not-suc-le-zero h)
drop_put (suc m) (x ∷ xs) a n ys h =
    let e : suc m + a ≡ suc (m + a) = omega arith in
    ap (λ (j : ℕ). drop (suc m) (put (x ∷ xs) j n ys)) e ∙ drop_put m xs a n ys (omega arith)

take_put : (w : List ℕ) (a n r : ℕ) (ys : List ℕ) → a + (n + r) ≤ length w → length ys ≡ n → take (a + (n + r)) (put w a n ys) ≡ put (take (a + (n + r)) w) a n ys
take_put w a n r ys h s =
    let la : length (take a w) ≡ a = length-take-le a w (omega arith) in
    let e : a + (n + r) ≡ length (take a w) + (length ys + r) = omega arith in
    ap (λ (j : ℕ). take j (put w a n ys)) e
    ∙ take-append-add (take a w) (ys ++ drop n (drop a w)) (length ys + r)
    ∙ ap (λ (z : List ℕ). take a w ++ z)
    (take-append-add ys (drop n (drop a w)) r
    ∙ ap (λ (z : List ℕ). ys ++ z) (sym (ap (drop n) (drop_take a (n + r) w) ∙ drop_take n r (drop a w))))
    ∙ ap (λ (z : List ℕ). z ++ (ys ++ drop n (drop a (take (a + (n + r)) w)))) (sym (take-take a (a + (n + r)) w (omega arith)))

-- what is put inside a part is put into that part
pub put_in : (w : List ℕ) (off k a n : ℕ) (ys : List ℕ) → a + n ≤ k → off + k ≤ length w → length ys ≡ n → part (put w (off + a) n ys) off k ≡ put (part w off k) a n ys
put_in w off k a n ys h g s =
    let e : k ≡ a + (n + (k - a - n)) = omega arith in
    ap (take k) (drop_put off w a n ys (omega arith))
    ∙ ap (λ (j : ℕ). take j (put (drop off w) a n ys)) e
    ∙ take_put (drop off w) a n (k - a - n) ys (omega (arith, length-drop off w)) s
    ∙ ap (λ (j : ℕ). put (take j (drop off w)) a n ys) (sym e)

-- one word
pub set_put : (w : List ℕ) (i v : ℕ) → i < length w → set w i v ≡ put w i 1 (v ∷ [])
set_put w i v h = set_split w i v h ∙ ap (λ (z : List ℕ). take i w ++ (v ∷ z)) (ap (λ (j : ℕ). drop j w) (sym (add-one i)) ∙ sym (drop-drop 1 i w))

-- ---- a part lent to a call, `&mut w[a..e]` with `e = a + k`: the check speaks of `e - a` words
module _ (w : List ℕ) (a k : ℕ) where
  lent_words : a + k - a ≡ k
  lent_words = omega arith

  pub lent_part : part w a (a + k - a) ≡ part w a k
  lent_part = ap (part w a) lent_words

  pub lent_put : (ys : List ℕ) → put w a (a + k - a) ys ≡ put w a k ys
  lent_put ys = ap (λ (n : ℕ). put w a n ys) lent_words

  pub lent_size : (ys : List ℕ) → a + k ≤ length w → length ys ≡ length (part w a (a + k - a)) → length ys ≡ k
  lent_size ys h e = e ∙ ap length lent_part ∙ part_length w a k h

  pub lent_length : (ys : List ℕ) → a + k ≤ length w → length ys ≡ k → length (put w a (a + k - a) ys) ≡ length w
  lent_length ys h e = ap length (lent_put ys) ∙ put_length w a k ys h e
