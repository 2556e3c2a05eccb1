-- Laws of how many bytes are used.
use mathlib.Core.Path.{◌≡◌, refl, sym, ap, ◌∙◌}
use mathlib.Core.Bool.{Bool, true, false, cond, ◌&&◌}
use mathlib.Core.List.{List, [], ◌∷◌, ◌++◌, append_assoc, append-nil}
use mathlib.Core.Option.{Option}
use Prim.Native.Nat.{ℕ, suc, ◌+◌, ◌≤◌, ◌<◌}
use native.Mathlib.Omega.{arith}
use lib.ListN.{length, get_or, take, drop, drop_of_length-le, length-append}
use lib.Dec.{eqb, leb, ltb}
use borrow.Author.Tests.{ltb-false, leb-false, eqb-true}
use Rattle.protocol.specs.Network.{Network}
use Rattle.script_notation.specs.Fields.{position}
use Rattle.script_notation.specs.Answers.{answer, answers}
use Rattle.console_notation.specs.Lines.{newline, ending, cut, text, after_lines, told, line_most, used}

-- the first newline stands at the front of what it starts
position_there : (b : List ℕ) → position newline (drop (position newline b) b) ≡ 0
unfolding position
position_there [] = refl
position_there (x ∷ xs) = go (eqb x newline) refl (position_there xs)
  where
    go : (t : Bool) → eqb x newline ≡ t → position newline (drop (position newline xs) xs) ≡ 0 → position newline (drop (cond t 0 (suc (position newline xs))) (x ∷ xs)) ≡ 0
    go true e f = rw e
    go false e f = f

module _ (s : Option Network) (size at : ℕ) where
  -- where there is no room nothing behind the first newline is used
  used_full : leb (at + line_most) size ≡ false → (line b : List ℕ) → used s size at line b ≡ position newline b
  unfolding used position
  used_full h line [] = refl
  used_full h line (x ∷ xs) = go (eqb x newline) (used_full h (line ++ (x ∷ [])) xs)
    where
      go : (t : Bool) → used s size at (line ++ (x ∷ [])) xs ≡ position newline xs
          → cond t (cond (leb (at + line_most) size) (suc (used (answer s line).after size (at + suc (length (answer s line).bytes)) [] xs)) 0) (suc (used s size at (line ++ (x ∷ [])) xs)) ≡ cond t 0 (suc (position newline xs))
      go true e = rw h
      go false e = ap suc e

  -- without a newline all are used
  used_all : (line b : List ℕ) → length b ≤ position newline b → used s size at line b ≡ position newline b
  unfolding used position
  used_all line [] h = refl
  used_all line (x ∷ xs) h = go (eqb x newline) h (used_all (line ++ (x ∷ [])) xs)
    where
      go : (t : Bool) → suc (length xs) ≤ cond t 0 (suc (position newline xs)) → (length xs ≤ position newline xs → used s size at (line ++ (x ∷ [])) xs ≡ position newline xs)
          → cond t (cond (leb (at + line_most) size) (suc (used (answer s line).after size (at + suc (length (answer s line).bytes)) [] xs)) 0) (suc (used s size at (line ++ (x ∷ [])) xs)) ≡ cond t 0 (suc (position newline xs))
      go true g e = absurd (omega arith)
      go false g e = ap suc (e (omega arith))

  -- a newline is used where there is room, and it goes on behind it
  pub used_line : leb (at + line_most) size ≡ true → (line b : List ℕ) → position newline b < length b
      → used s size at line b ≡ suc (position newline b) + used (answer s (line ++ take (position newline b) b)).after size (at + suc (length (answer s (line ++ take (position newline b) b)).bytes)) [] (drop (suc (position newline b)) b)
  unfolding used position
  used_line r line [] h = absurd (omega arith)
  used_line r line (x ∷ xs) h = go (eqb x newline) h (used_line r (line ++ (x ∷ [])) xs)
    where
      behind : List ℕ → List ℕ → ℕ
      behind l rest = used (answer s l).after size (at + suc (length (answer s l).bytes)) [] rest

      go : (t : Bool) → cond t 0 (suc (position newline xs)) < suc (length xs)
          → (position newline xs < length xs → used s size at (line ++ (x ∷ [])) xs ≡ suc (position newline xs) + behind ((line ++ (x ∷ [])) ++ take (position newline xs) xs) (drop (suc (position newline xs)) xs))
          → cond t (cond (leb (at + line_most) size) (suc (behind line xs)) 0) (suc (used s size at (line ++ (x ∷ [])) xs))
          ≡ suc (cond t 0 (suc (position newline xs))) + behind (line ++ take (cond t 0 (suc (position newline xs))) (x ∷ xs)) (drop (suc (cond t 0 (suc (position newline xs)))) (x ∷ xs))
      go true g e = let f : behind line xs ≡ behind (line ++ []) xs = ap (λ (l : List ℕ). behind l xs) (sym (append-nil line)) in rw r (omega arith)
      go false g e =
          let f : behind ((line ++ (x ∷ [])) ++ take (position newline xs) xs) (drop (suc (position newline xs)) xs) ≡ behind (line ++ (x ∷ take (position newline xs) xs)) (drop (suc (position newline xs)) xs) = ap (λ (l : List ℕ). behind l (drop (suc (position newline xs)) xs)) (append_assoc line (x ∷ []) (take (position newline xs) xs)) in
          omega (arith, e (omega arith))

  -- it stops at the first newline, or at the end
  pub used_stops : (line b : List ℕ) → (ltb (position newline b) (length b) && leb (at + line_most) size) ≡ false → used s size at line b ≡ position newline b
  used_stops line b h = go (ltb (position newline b) (length b)) refl h
    where
      go : (t : Bool) → ltb (position newline b) (length b) ≡ t → (t && leb (at + line_most) size) ≡ false → used s size at line b ≡ position newline b
      go true e g = used_full g line b
      go false e g = used_all line b (ltb-false (position newline b) (length b) e)

  -- at the first newline that finds no room nothing is used, whatever is held
  pub used_there : (b : List ℕ) → (ltb (position newline b) (length b) && leb (at + line_most) size) ≡ false → used s size at [] (drop (position newline b) b) ≡ 0
  unfolding used
  used_there b h = go (ltb (position newline b) (length b)) refl h
    where
      go : (t : Bool) → ltb (position newline b) (length b) ≡ t → (t && leb (at + line_most) size) ≡ false → used s size at [] (drop (position newline b) b) ≡ 0
      go true e g = used_full g [] (drop (position newline b) b) ∙ position_there b
      go false e g = ap (used s size at []) (drop_of_length-le b {i = position newline b} (ltb-false (position newline b) (length b) e))

  -- with room something is used of what there is
  pub used_some : leb (at + line_most) size ≡ true → (line b : List ℕ) → 0 < length b → 0 < used s size at line b
  unfolding used
  used_some r line [] h = absurd (omega arith)
  used_some r line (x ∷ xs) h = go (eqb x newline)
    where
      go : (t : Bool) → 0 < cond t (cond (leb (at + line_most) size) (suc (used (answer s line).after size (at + suc (length (answer s line).bytes)) [] xs)) 0) (suc (used s size at (line ++ (x ∷ [])) xs))
      go true = rw r (omega arith)
      go false = omega arith

  -- with room the end of a script is used
  pub used_ending : leb (at + line_most) size ≡ true → (line : List ℕ) → used s size at line (ending line) ≡ length (ending line)
  unfolding used
  used_ending r [] = refl
  used_ending r (x ∷ xs) = rw r

-- not more is used than there is
pub used_within : (s : Option Network) (size at : ℕ) (line b : List ℕ) → used s size at line b ≤ length b
unfolding used
used_within s size at line [] = omega arith
used_within s size at line (x ∷ xs) =
    go (eqb x newline) (leb (at + line_most) size) (used_within (answer s line).after size (at + suc (length (answer s line).bytes)) [] xs) (used_within s size at (line ++ (x ∷ [])) xs)
  where
    go : (t u : Bool) → used (answer s line).after size (at + suc (length (answer s line).bytes)) [] xs ≤ length xs → used s size at (line ++ (x ∷ [])) xs ≤ length xs
        → cond t (cond u (suc (used (answer s line).after size (at + suc (length (answer s line).bytes)) [] xs)) 0) (suc (used s size at (line ++ (x ∷ [])) xs)) ≤ suc (length xs)
    go true true e f = omega arith
    go true false e f = omega arith
    go false u e f = omega arith

-- where not all are used, the next one is a newline, and behind the answers of those before it there is no room for one more
pub record Full (s : Option Network) (size at : ℕ) (line b : List ℕ) (u : ℕ) : Type 0 where
  pub newline_there : get_or b u 0 ≡ newline
  pub no_room : size < at + length (told s line (take u b)).bytes + line_most

pub used_or_full : (s : Option Network) (size at : ℕ) (line b : List ℕ) → used s size at line b < length b → Full s size at line b (used s size at line b)
unfolding used told cut answers after_lines text
used_or_full s size at line [] h = absurd (omega arith)
used_or_full s size at line (x ∷ xs) h =
    go (eqb x newline) refl (leb (at + line_most) size) refl h (used_or_full (answer s line).after size (at + suc (length (answer s line).bytes)) [] xs) (used_or_full s size at (line ++ (x ∷ [])) xs)
  where
    a : List ℕ
    a = (answer s line).bytes

    u : ℕ
    u = used (answer s line).after size (at + suc (length (answer s line).bytes)) [] xs

    v : ℕ
    v = used s size at (line ++ (x ∷ [])) xs

    go : (t : Bool) → eqb x newline ≡ t → (r : Bool) → leb (at + line_most) size ≡ r → cond t (cond r (suc u) 0) (suc v) < suc (length xs)
        → (u < length xs → Full (answer s line).after size (at + suc (length a)) [] xs u) → (v < length xs → Full s size at (line ++ (x ∷ [])) xs v) → Full s size at line (x ∷ xs) (cond t (cond r (suc u) 0) (suc v))
    go true e true f g i j =
        let w = i (omega arith) in
        let bytes = (told (answer s line).after [] (take u xs)).bytes in
        record {
          newline_there = w.newline_there;
          no_room = rw e (omega (arith, w.no_room, length-append a (newline ∷ bytes)));
        }
    go true e false f g i j = record { newline_there = eqb-true x newline e; no_room = omega (arith, leb-false (at + line_most) size f) }
    go false e r f g i j =
        let w = j (omega arith) in
        record { newline_there = w.newline_there; no_room = rw e w.no_room }
