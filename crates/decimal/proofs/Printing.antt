-- Laws of what printing leaves: one thing printed behind another, and a single byte.
use mathlib.Core.Path.{◌≡◌, refl, sym, ap, subst, ◌∙◌}
use mathlib.Core.List.{List, [], ◌∷◌, ◌++◌, append_assoc}
use Prim.Native.Nat.{ℕ, ◌+◌, ◌-◌, ◌≤◌, ◌<◌}
use mathlib.Core.Bool.{Bool, true, false}
use lib.Dec.{leb}
use borrow.Author.Tests.{le-leb, lt-leb, leb-true, leb-false}
use native.Mathlib.Omega.{arith}
use lib.ListN.{length, set, take, drop, take-append-drop, length-append}
use lib.Seq.{take_at, drop_at, drop-drop, length-take-le}
use Rattle.words.specs.Words.{put}
use Rattle.words.proofs.Parts.{set_put, put_length}
use Rattle.decimal.specs.Decimal.{Printed, PrintedIn}

put_put : (w : List ℕ) (a : ℕ) (xs ys : List ℕ) → a + length xs ≤ length w
    → put (put w a (length xs) xs) (a + length xs) (length ys) ys ≡ put w a (length (xs ++ ys)) (xs ++ ys)
put_put w a xs ys h =
    let n = length xs in
    let m = length ys in
    let rest = drop n (drop a w) in
    let front : length (take a w ++ xs) ≡ a + n = length-append (take a w) xs ∙ (let e : length (take a w) ≡ a = length-take-le a w (omega arith) in omega arith) in
    let whole : put w a n xs ≡ (take a w ++ xs) ++ rest = sym (append_assoc (take a w) xs rest) in
    ap (λ (z : List ℕ). put z (a + n) m ys) whole
    ∙ ap (λ (z : List ℕ). z ++ (ys ++ drop m (drop (a + n) ((take a w ++ xs) ++ rest)))) (take_at (take a w ++ xs) rest (a + n) front)
    ∙ ap (λ (z : List ℕ). (take a w ++ xs) ++ (ys ++ drop m z)) (drop_at (take a w ++ xs) rest (a + n) front)
    ∙ ap (λ (z : List ℕ). (take a w ++ xs) ++ (ys ++ z)) (drop-drop m n (drop a w))
    ∙ append_assoc (take a w) xs (ys ++ drop (n + m) (drop a w))
    ∙ ap (λ (z : List ℕ). take a w ++ z) (sym (append_assoc xs ys (drop (n + m) (drop a w))))
    ∙ ap (λ (k : ℕ). take a w ++ ((xs ++ ys) ++ drop k (drop a w))) (sym (length-append xs ys))

-- nothing printed
pub printed_none : (w : List ℕ) (a : ℕ) → Printed w w a a []
printed_none w a = record { end_is = omega arith; exit_is = sym (take-append-drop a w) }

-- one thing and then another
pub printed_then : {w x y : List ℕ} {a b c : ℕ} {xs ys : List ℕ} → a + length xs ≤ length w → Printed w x a b xs → Printed x y b c ys → Printed w y a c (xs ++ ys)
printed_then {w} {x} {y} {a} {b} {c} {xs} {ys} h p q =
    record {
      end_is = omega (arith, p.end_is, q.end_is, length-append xs ys);
      exit_is =
          q.exit_is
          ∙ ap (λ (z : List ℕ). put z b (length ys) ys) p.exit_is
          ∙ ap (λ (k : ℕ). put (put w a (length xs) xs) k (length ys) ys) p.end_is
          ∙ put_put w a xs ys h;
    }

-- one byte
pub printed_byte : (w : List ℕ) (a v : ℕ) → a < length w → Printed w (set w a v) a (a + 1) (v ∷ [])
printed_byte w a v h = record { end_is = refl; exit_is = set_put w a v h }

-- the same bytes by another name
pub printed_as : {w x : List ℕ} {a b : ℕ} {xs ys : List ℕ} → xs ≡ ys → Printed w x a b xs → Printed w x a b ys
printed_as {w} {x} {a} {b} e p = subst (λ (l : List ℕ). Printed w x a b l) e p

-- the length stays
pub printed_length : {w x : List ℕ} {a b : ℕ} {xs : List ℕ} → a + length xs ≤ length w → Printed w x a b xs → length x ≡ length w
printed_length {w} {x} {a} {b} {xs} h p = ap length p.exit_is ∙ put_length w a (length xs) xs h refl

-- k bytes are left, asked without a sum
pub room_test : (a k n : ℕ) → k ≤ n → leb a (n - k) ≡ leb (a + k) n
room_test a k n h = go (leb (a + k) n) refl
  where
    go : (b : Bool) → leb (a + k) n ≡ b → leb a (n - k) ≡ leb (a + k) n
    go true e = let g : a + k ≤ n = leb-true (a + k) n e in le-leb a (n - k) (omega arith) ∙ sym e
    go false e = let g : n < a + k = leb-false (a + k) n e in lt-leb a (n - k) (omega arith) ∙ sym e

-- printed where there is room, and nothing where there is not
module _ (room : ℕ) (w : List ℕ) (a : ℕ) (xs : List ℕ) where
  pub printed_short : leb (a + room) (length w) ≡ false → PrintedIn room w w a a xs
  printed_short e = record { printed = λ h. absurd (omega (arith, leb-false (a + room) (length w) e)); kept = λ h. (refl, refl) }

  pub printed_in : leb (a + room) (length w) ≡ true → (x : List ℕ) (end : ℕ) → Printed w x a end xs → PrintedIn room w x a end xs
  printed_in e x end p = record { printed = λ h. p; kept = λ h. absurd (h (leb-true (a + room) (length w) e)) }

-- what is printed at the front ends within the buffer
pub front_fits : {w x : List ℕ} {b : ℕ} {xs : List ℕ} → Printed w x 0 b xs → b ≤ length x
front_fits {w} {x} {b} {xs} p = omega (arith, p.end_is, ap length p.exit_is, length-append xs (drop (length xs) w))
