-- Laws of the steps over a block's lines: a line answered, and one line after another.
use mathlib.Core.Path.{◌≡◌, refl, sym, ap, ap₂, subst, ◌∙◌}
use mathlib.Core.Bool.{Bool, true, false, ◌&&◌}
use mathlib.Core.List.{List, [], ◌∷◌, ◌++◌}
use mathlib.Core.Option.{Option}
use Prim.Native.Nat.{ℕ, suc, ◌+◌, ◌-◌, ◌≤◌, ◌<◌}
use native.Mathlib.Omega.{arith}
use lib.ListN.{length, take, drop, take-append-drop, length-append, length-take, length-drop}
use lib.Seq.{take-add, drop-drop}
use lib.Dec.{ltb, leb}
use borrow.Author.Tests.{ltb-true, ltb-false, lt-ltb, le-ltb, leb-true, leb-false}
use Rattle.words.specs.Words.{put}
use Rattle.lists.proofs.Every.{and_true}
use Rattle.decimal.specs.Decimal.{Printed}
use Rattle.decimal.proofs.Printing.{printed_none, printed_then}
use Rattle.protocol.specs.Network.{Network}
use Rattle.network_layout.specs.InWords.{shaped, meaning}
use Rattle.script_notation.specs.declared.Reply.{Reply}
use Rattle.script_notation.specs.Fields.{position}
use Rattle.script_notation.specs.Parse.{parse}
use Rattle.script_notation.specs.Answers.{answer, Answered}
use Rattle.script_notation.proofs.Putting.{put_end, put_length}
use Rattle.console_notation.specs.Lines.{newline, Told, told, line_most, used}
use Rattle.console_notation.proofs.Cutting.{and_then, line_told, told_append, told_none, told_line, told_newline}
use Rattle.console_notation.proofs.Feeding.{used_line, used_stops}
use Rattle.console_lines.specs.Promises.{Effect, Collected, Walked, Ended}

-- ---- one effect and then another
-- what is printed is within the buffer, or nothing
printed_fits : {w x : List ℕ} {a b : ℕ} {xs : List ℕ} → Printed w x a b xs → length x ≡ length w → length xs ≤ length w - a
printed_fits {w} {x} {a} {b} {xs} p e =
    omega (arith, ap length p.exit_is, length-append (take a w) (xs ++ drop (length xs) (drop a w)), length-append xs (drop (length xs) (drop a w)), length-drop (length xs) (drop a w), length-drop a w, length-take a w)

pub nothing_left : (xs : List ℕ) → length xs ≤ 0 → xs ≡ []
nothing_left [] h = refl
nothing_left (x ∷ xs) h = absurd (omega arith)

printed_nothing : {w x y : List ℕ} {a b c : ℕ} {ys : List ℕ} → Printed w x a b [] → Printed x y b c ys → Printed w y a c ys
printed_nothing {w} {x} {y} {a} {b} {c} {ys} p q =
    let same : x ≡ w = p.exit_is ∙ take-append-drop a w in
    let there : b ≡ a = omega (arith, p.end_is) in
    record { end_is = omega (arith, q.end_is); exit_is = q.exit_is ∙ ap (λ (z : List ℕ). put z b (length ys) ys) same ∙ ap (λ (k : ℕ). put w k (length ys) ys) there }

printed_both : {w x y : List ℕ} {a b c : ℕ} {xs ys : List ℕ} → length x ≡ length w → Printed w x a b xs → Printed x y b c ys → Printed w y a c (xs ++ ys)
printed_both {w} {x} {y} {a} {b} {c} {xs} {ys} e p q = go (leb a (length w)) refl
  where
    go : (t : Bool) → leb a (length w) ≡ t → Printed w y a c (xs ++ ys)
    go true g = printed_then (omega (arith, printed_fits p e, leb-true a (length w) g)) p q
    go false g =
        let none : xs ≡ [] = nothing_left xs (omega (arith, printed_fits p e, leb-false a (length w) g)) in
        subst (λ (l : List ℕ). Printed w x a b l → Printed w y a c (l ++ ys)) (sym none) (λ o. printed_nothing o q) p

pub effect_then : {t u : Told} {mid exit w x y : List ℕ} {a b c : ℕ} → length x ≡ length w → Effect t mid w x a b → Effect u exit x y b c → Effect (and_then t u) exit w y a c
effect_then e p q = record { printed = printed_both e p.printed q.printed; after_is = q.after_is }

pub effect_as : {t u : Told} {exit w x : List ℕ} {a b : ℕ} → t ≡ u → Effect t exit w x a b → Effect u exit w x a b
effect_as {exit = exit} {w = w} {x = x} {a = a} {b = b} e p = subst (λ (t : Told). Effect t exit w x a b) e p

-- ---- a line answered
module _ (text : List ℕ) {entry exit out₀ x : List ℕ} {at : ℕ} {r : Reply} (h : at + line_most ≤ length out₀) (q : Answered (parse text) entry exit out₀ x at r) where
  -- there is room for a newline behind its answer
  pub newline_fits : r.end < length x
  newline_fits = let p = q.replied_at.printed in omega (arith, put_length (omega arith) p, put_end p)

  -- its answer and a newline behind it
  pub collected : {y : List ℕ} {end : ℕ} → Printed x y r.end end (newline ∷ []) → Collected (told (meaning entry) text (newline ∷ [])) exit out₀ y at (record { end = end; formed = r.formed })
  unfolding answer
  collected n =
      let p = q.replied_at.printed in
      record {
        effect =
            effect_as (sym (told_newline (meaning entry) text)) (record {
              printed = printed_then (omega (arith, p.small)) p.printed n;
              after_is = q.replied_at.after_is;
            });
        formed_is = q.formed_is;
      }

-- ---- the lines of a block
-- a test of numbers is the same of both moved on
shifted_test : (k p end m n : ℕ) → end ≡ k + p → n ≡ k + m → ltb end n ≡ ltb p m
shifted_test k p end m n e f = go (ltb p m) refl
  where
    go : (t : Bool) → ltb p m ≡ t → ltb end n ≡ ltb p m
    go true g = lt-ltb end n (omega (arith, ltb-true p m g)) ∙ sym g
    go false g = le-ltb end n (omega (arith, ltb-false p m g)) ∙ sym g

module _ {block entry out₀ : List ℕ} {at : ℕ} where
  pub walked_none : Walked block entry entry out₀ out₀ at 0 at
  walked_none =
      let s = meaning entry in
      record {
        effect = effect_as (sym (told_none s [])) (record { printed = printed_none out₀ at; after_is = refl });
        whole = ap (λ (z : Told). z.held) (told_none s []);
        within = omega arith;
        goes = omega arith;
      }

  module _ {mid x : List ℕ} {from filled end : ℕ} (w : Walked block entry mid out₀ x at from filled) (e : end ≡ from + position newline (drop from block)) (same : length x ≡ length out₀) where
    -- the code's test is the definition's, of what is left
    tests : (ltb end (length block) && leb (filled + line_most) (length x)) ≡ (ltb (position newline (drop from block)) (length (drop from block)) && leb (filled + line_most) (length out₀))
    tests =
        ap₂ (λ (a b : Bool). a && b)
        (shifted_test from (position newline (drop from block)) end (length (drop from block)) (length block) e (omega (arith, length-drop from block, w.within)))
        (ap (leb (filled + line_most)) same)

    pub walked_ends : {formed : Bool} → formed ≡ shaped mid → (ltb end (length block) && leb (filled + line_most) (length x)) ≡ false → Ended block entry mid out₀ x at (record { from = from; end = end; filled = filled; formed = formed })
    walked_ends g f =
        record {
          walked = w;
          end_is = e;
          used_is = omega (arith, w.goes, used_stops (meaning mid) (length out₀) filled [] (drop from block) (sym tests ∙ f));
          formed_is = g;
        }

    pub walked_next : {exit y : List ℕ} {from' end' : ℕ} → from' ≡ end + 1 → (ltb end (length block) && leb (filled + line_most) (length x)) ≡ true
        → Effect (told (meaning mid) (take (end - from) (drop from block)) (newline ∷ [])) exit x y filled end' → Walked block entry exit out₀ y at from' end'
    walked_next {exit} {y} {from'} {end'} b' f q =
        let s = meaning entry in
        let m = meaning mid in
        let b = drop from block in
        let p = position newline b in
        let size = length out₀ in
        let both = and_true (ltb p (length b)) (leb (filled + line_most) size) (sym tests ∙ f) in
        let short : p < length b = ltb-true p (length b) both.0 in
        let line = take p b in
        let next : from' ≡ from + suc p = omega arith in
        let t = told s [] (take from block) in
        let told-one : told m (take (end - from) b) (newline ∷ []) ≡ line_told (answer m line)
        = ap (λ (k : ℕ). told m (take k b) (newline ∷ [])) (let k : end - from ≡ p = omega arith in k) ∙ told_newline m line in
        let one : Effect (line_told (answer m line)) exit x y filled end' = effect_as told-one q in
        let told-all : told s [] (take from' block) ≡ and_then t (line_told (answer m line))
        = ap (λ (k : ℕ). told s [] (take k block)) next
        ∙ ap (told s []) (take-add from (suc p) block)
        ∙ told_append s [] (take from block) (take (suc p) b)
        ∙ ap₂ (λ (o : Option Network) (h : List ℕ). and_then t (told o h (take (suc p) b))) (sym w.effect.after_is) w.whole
        ∙ ap (and_then t) (told_line m [] b short) in
        let there : end' ≡ filled + suc (length (answer m line).bytes) = omega (arith, one.printed.end_is, length-append (answer m line).bytes (newline ∷ [])) in
        let rests : drop from' block ≡ drop (suc p) b = ap (λ (k : ℕ). drop k block) next ∙ sym (drop-drop (suc p) from block) in
        let behind : used (meaning exit) size end' [] (drop from' block) ≡ used (answer m line).after size (filled + suc (length (answer m line).bytes)) [] (drop (suc p) b)
        = (λ i. used (one.after_is i) size (there i) [] (rests i)) in
        record {
          effect = effect_as (sym told-all) (effect_then same w.effect one);
          whole = ap (λ (z : Told). z.held) told-all;
          within = omega (arith, length-drop from block);
          goes = omega (arith, w.goes, used_line m size filled both.1 [] b short);
        }
