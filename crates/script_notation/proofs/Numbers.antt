-- Laws of the lines of calls that take one number, or two.
use mathlib.Core.Path.{◌≡◌, refl, sym, ap, ◌∙◌}
use mathlib.Core.Bool.{Bool, true, false, cond, not, ◌&&◌}
use mathlib.Core.List.{List, [], ◌∷◌}
use mathlib.Core.Option.{Option, none, some}
use Prim.Native.Nat.{ℕ, suc, ◌+◌, ◌-◌, ◌≤◌, ◌<◌}
use native.Mathlib.Omega.{arith}
use lib.ListN.{length, take, drop}
use lib.Seq.{take_all}
use lib.Dec.{eqb, ltb, leb}
use borrow.Author.Tests.{le-leb, leb-true, leb-false, eqb-true, ltb-true, ltb-false}
use Rattle.std.specs.Prelude.{None, Some}
use Rattle.std.specs.declared.option.Option.{Option as Answer}
use Rattle.lists.specs.Lists.{every}
use Rattle.lists.specs.Answers.{given, given_as}
use Rattle.decimal.specs.Decimal.{is_digit, extra_zero, value_from, greatest, natural}
use Rattle.protocol.specs.Calls.{Call}
use Rattle.script_notation.specs.Fields.{space, position, fields, fields_from}
use Rattle.script_notation.specs.Parse.{on, cons_both, all, one, two}
use Rattle.script_notation.proofs.Places.{fields_first, fields_end, field_next}

-- ---- a space is no digit
with_space : (l : List ℕ) → position space l < length l → every is_digit l ≡ false
unfolding position
with_space [] h = absurd (omega arith)
with_space (x ∷ xs) h = go (eqb x space) refl h (with_space xs)
  where
    last : (b : Bool) → (b && false) ≡ false
    last true = refl
    last false = refl

    go : (b : Bool) → eqb x space ≡ b → cond b 0 (suc (position space xs)) < suc (length xs) → (position space xs < length xs → every is_digit xs ≡ false) → every is_digit (x ∷ xs) ≡ false
    go true e g r = ap (λ (k : ℕ). is_digit k && every is_digit xs) (eqb-true x space e)
    go false e g r = rw (r (omega arith)) (last (is_digit x))

natural_space : (l : List ℕ) → position space l < length l → none ≡ natural l
unfolding natural
natural_space l h = rw (with_space l h) (go (ltb 0 (length l)) (not (extra_zero l)) (leb (value_from 0 l) greatest))
  where
    go : (a b c : Bool) → none ≡ cond ((a && (b && false)) && c) (some (value_from 0 l)) none
    go true true c = refl
    go true false c = refl
    go false b c = refl

-- ---- one number
-- the call of a number that was parsed
pub of_number : {o : Option ℕ} (r : Answer ℕ) (f : ℕ → Call) → given r ≡ o → given_as f r ≡ on o (λ a. some (f a))
of_number None f e = ap (λ (z : Option ℕ). on z (λ a. some (f a))) e
of_number (Some v) f e = ap (λ (z : Option ℕ). on z (λ a. some (f a))) e

module _ (f : ℕ → Call) where
  one_of : (o : Option ℕ) → on (cons_both o (some [])) (one f) ≡ on o (λ a. some (f a))
  one_of none = refl
  one_of (some a) = refl

  one_of_more : (o p : Option ℕ) (q : Option (List ℕ)) → on (cons_both o (cons_both p q)) (one f) ≡ none
  one_of_more none p q = refl
  one_of_more (some a) none q = refl
  one_of_more (some a) (some b) none = refl
  one_of_more (some a) (some b) (some xs) = refl

  -- all that is left of a line
  one_rest : (l : List ℕ) → on (all natural (fields l)) (one f) ≡ on (natural l) (λ a. some (f a))
  unfolding all
  one_rest l = go (ltb p (length l)) refl
    where
      p : ℕ
      p = position space l

      go : (b : Bool) → ltb p (length l) ≡ b → on (all natural (fields l)) (one f) ≡ on (natural l) (λ a. some (f a))
      go true e =
          let h : p < length l = ltb-true p (length l) e in
          let rest = drop (suc p) l in
          let more : fields_from l (suc p) ≡ take (position space rest) rest ∷ fields_from rest (suc (position space rest)) = rw (le-leb (suc p) (length l) (omega arith)) (fields_first rest) in
          ap (λ (fs : List (List ℕ)). on (all natural fs) (one f)) (fields_first l ∙ ap (λ (fs : List (List ℕ)). take p l ∷ fs) more)
          ∙ one_of_more (natural (take p l)) (natural (take (position space rest) rest)) (all natural (fields_from rest (suc (position space rest))))
          ∙ ap (λ (o : Option ℕ). on o (λ a. some (f a))) (natural_space l h)
      go false e =
          let h : length l ≤ p = ltb-false p (length l) e in
          ap (λ (fs : List (List ℕ)). on (all natural fs) (one f)) (fields_first l ∙ (λ i. take_all p l h i ∷ fields_end l (suc p) (omega arith) i))
          ∙ one_of (natural l)

  pub one_number : (text : List ℕ) → 2 ≤ length text → on (natural (drop 2 text)) (λ a. some (f a)) ≡ on (all natural (fields_from text 2)) (one f)
  one_number text h = sym (one_rest (drop 2 text)) ∙ ap (λ (b : Bool). on (all natural (cond b (fields (drop 2 text)) [])) (one f)) (sym (le-leb 2 (length text) h))

  pub no_number : (text : List ℕ) → length text < 2 → none ≡ on (all natural (fields_from text 2)) (one f)
  unfolding all
  no_number text h = ap (λ (fs : List (List ℕ)). on (all natural fs) (one f)) (sym (fields_end text 2 h))

-- ---- two numbers
module _ (f : ℕ → ℕ → Call) where
  two_of : (a : ℕ) (o : Option (List ℕ)) → on (cons_both (some a) o) (two f) ≡ on o (one (f a))
  two_of a none = refl
  two_of a (some []) = refl
  two_of a (some (b ∷ [])) = refl
  two_of a (some (b ∷ (c ∷ xs))) = refl

  two_rest : (o : Option ℕ) (l : List ℕ) → on (cons_both o (all natural (fields l))) (two f) ≡ on o (λ a. on (natural l) (λ b. some (f a b)))
  two_rest none l = refl
  two_rest (some a) l = two_of a (all natural (fields l)) ∙ one_rest (f a) l

  two_short : (o : Option ℕ) → on (cons_both o (some [])) (two f) ≡ none
  two_short none = refl
  two_short (some a) = refl

  module _ (text : List ℕ) (end : ℕ) (e : end ≡ 2 + position space (drop 2 text)) where
    pub two_numbers : end < length text → on (natural (take (end - 2) (drop 2 text))) (λ a. on (natural (drop (end + 1) text)) (λ b. some (f a b))) ≡ on (all natural (fields_from text 2)) (two f)
    unfolding all
    two_numbers h =
        sym (two_rest (natural (take (end - 2) (drop 2 text))) (drop (end + 1) text))
        ∙ ap (λ (b : Bool). on (all natural (take (end - 2) (drop 2 text) ∷ cond b (fields (drop (end + 1) text)) [])) (two f)) (sym (le-leb (end + 1) (length text) (omega arith)))
        ∙ ap (λ (fs : List (List ℕ)). on (all natural fs) (two f)) (sym (field_next text 2 end e (omega arith)))

    pub no_numbers : length text ≤ end → none ≡ on (all natural (fields_from text 2)) (two f)
    unfolding all
    no_numbers h = go (leb 2 (length text)) refl
      where
        go : (b : Bool) → leb 2 (length text) ≡ b → none ≡ on (all natural (fields_from text 2)) (two f)
        go true g =
            sym (two_short (natural (take (end - 2) (drop 2 text))))
            ∙ ap (λ (fs : List (List ℕ)). on (all natural (take (end - 2) (drop 2 text) ∷ fs)) (two f)) (sym (fields_end text (end + 1) (omega arith)))
            ∙ ap (λ (fs : List (List ℕ)). on (all natural fs) (two f)) (sym (field_next text 2 end e (leb-true 2 (length text) g)))
        go false g = ap (λ (fs : List (List ℕ)). on (all natural fs) (two f)) (sym (fields_end text 2 (leb-false 2 (length text) g)))
