-- Laws of cutting and of what the lines lead to: bytes behind others, bytes up to a newline, and lines that are too long.
use mathlib.Core.Path.{◌≡◌, refl, sym, ap, ◌∙◌}
use mathlib.Core.Bool.{Bool, true, false, cond}
use mathlib.Core.List.{List, [], ◌∷◌, ◌++◌, append_assoc, append-nil}
use mathlib.Core.Option.{Option}
use Prim.Native.Nat.{ℕ, suc, ◌≤◌, ◌<◌}
use native.Mathlib.Omega.{arith}
use lib.ListN.{length, take}
use lib.Seq.{take_all, take-take, length-take-le}
use lib.Dec.{eqb, leb}
use borrow.Author.Tests.{leb-true, leb-false, lt-leb}
use Rattle.protocol.specs.Network.{Network}
use Rattle.script_notation.specs.Fields.{position}
use Rattle.script_notation.specs.Parse.{parse, longest}
use Rattle.script_notation.proofs.Walks.{take_front}
use Rattle.script_notation.specs.Answers.{Answer, replied, answer, answers}
use Rattle.console_notation.specs.Lines.{newline, Cut, line_before, cut, ending, script_lines, text, after_lines, clip_most, clipped, Told, told_of, told}

-- ---- bytes behind others
abbrev pub followed : Cut → Cut → Cut
followed c d = record { lines = c.lines ++ d.lines; rest = d.rest }

-- cutting a ++ b is cutting a, then b behind what is left of a
pub cut_append : (line a b : List ℕ) → cut line (a ++ b) ≡ followed (cut line a) (cut (cut line a).rest b)
unfolding cut
cut_append line [] b = refl
cut_append line (x ∷ xs) b = go (eqb x newline) (cut_append [] xs b) (cut_append (line ++ (x ∷ [])) xs b)
  where
    go : (t : Bool) → cut [] (xs ++ b) ≡ followed (cut [] xs) (cut (cut [] xs).rest b) → cut (line ++ (x ∷ [])) (xs ++ b) ≡ followed (cut (line ++ (x ∷ [])) xs) (cut (cut (line ++ (x ∷ [])) xs).rest b)
        → cond t (line_before line (cut [] (xs ++ b))) (cut (line ++ (x ∷ [])) (xs ++ b)) ≡ followed (cond t (line_before line (cut [] xs)) (cut (line ++ (x ∷ [])) xs)) (cut (cond t (line_before line (cut [] xs)) (cut (line ++ (x ∷ [])) xs)).rest b)
    go true e f = ap (line_before line) e
    go false e f = f

text_append : (ls ms : List (List ℕ)) → text (ls ++ ms) ≡ text ls ++ text ms
unfolding text
text_append [] ms = refl
text_append (a ∷ ls) ms = ap (λ (l : List ℕ). a ++ (newline ∷ l)) (text_append ls ms) ∙ sym (append_assoc a (newline ∷ text ls) (text ms))

answers_append : (s : Option Network) (ls ms : List (List ℕ)) → answers s (ls ++ ms) ≡ answers s ls ++ answers (after_lines s ls) ms
unfolding answers after_lines
answers_append s [] ms = refl
answers_append s (l ∷ ls) ms = ap (λ (z : List (List ℕ)). (answer s l).bytes ∷ z) (answers_append (answer s l).after ls ms)

after_append : (s : Option Network) (ls ms : List (List ℕ)) → after_lines s (ls ++ ms) ≡ after_lines (after_lines s ls) ms
unfolding after_lines
after_append s [] ms = refl
after_append s (l ∷ ls) ms = after_append (answer s l).after ls ms

-- ---- lines that are too long
-- a line and its first 513 bytes stand for the same call
pub parse_clipped : (line : List ℕ) → parse (clipped line) ≡ parse line
unfolding parse
parse_clipped line = go (leb (length line) longest) refl
  where
    go : (t : Bool) → leb (length line) longest ≡ t → parse (clipped line) ≡ parse line
    go true e = ap parse (take_all clip_most line (let h : length line ≤ longest = leb-true (length line) longest e in omega arith))
    go false e =
        let h : longest < length line = leb-false (length line) longest e in
        let k : length (clipped line) ≡ clip_most = length-take-le clip_most line (omega arith) in
        rw (e, lt-leb (length (clipped line)) longest (omega arith))

same_answer : (s : Option Network) (l m : List ℕ) → clipped l ≡ clipped m → answer s l ≡ answer s m
unfolding answer
same_answer s l m e = ap (replied s) (sym (parse_clipped l) ∙ ap parse e ∙ parse_clipped m)

clipped_behind : (l m b : List ℕ) → clipped l ≡ clipped m → clipped (l ++ b) ≡ clipped (m ++ b)
clipped_behind l m b e = sym (take_front clip_most l b) ∙ ap (λ (z : List ℕ). clipped (z ++ b)) e ∙ take_front clip_most m b

module _ (s : Option Network) where
  same_told : (l m b : List ℕ) → clipped l ≡ clipped m → told s l b ≡ told s m b
  unfolding told cut answers after_lines text
  same_told l m [] e = ap (λ (z : List ℕ). record { bytes = []; after = s; held = z }) e
  same_told l m (x ∷ xs) e = go (eqb x newline) (same_told (l ++ (x ∷ [])) (m ++ (x ∷ [])) xs (clipped_behind l m (x ∷ []) e))
    where
      go : (t : Bool) → told_of s (cut (l ++ (x ∷ [])) xs) ≡ told_of s (cut (m ++ (x ∷ [])) xs)
          → told_of s (cond t (line_before l (cut [] xs)) (cut (l ++ (x ∷ [])) xs)) ≡ told_of s (cond t (line_before m (cut [] xs)) (cut (m ++ (x ∷ [])) xs))
      go true f = ap (λ (a : Answer). record { bytes = text (a.bytes ∷ answers a.after (cut [] xs).lines); after = after_lines a.after (cut [] xs).lines; held = clipped (cut [] xs).rest }) (same_answer s l m e)
      go false f = f

  pub told_clipped : (line b : List ℕ) → told s (clipped line) b ≡ told s line b
  told_clipped line b = same_told (clipped line) line b (take-take clip_most clip_most line (omega arith))

-- ---- what bytes lead to, and then others
abbrev pub and_then : Told → Told → Told
and_then t u = record { bytes = t.bytes ++ u.bytes; after = u.after; held = u.held }

pub told_append : (s : Option Network) (line a b : List ℕ) → told s line (a ++ b) ≡ and_then (told s line a) (told (told s line a).after (told s line a).held b)
unfolding told
told_append s line a b =
    let c = cut line a in
    let d = cut c.rest b in
    ap (told_of s) (cut_append line a b)
    ∙ (λ i. record { bytes = text (answers_append s c.lines d.lines i); after = after_append s c.lines d.lines i; held = clipped d.rest })
    ∙ ap (λ (z : List ℕ). record { bytes = z; after = after_lines (after_lines s c.lines) d.lines; held = clipped d.rest }) (text_append (answers s c.lines) (answers (after_lines s c.lines) d.lines))
    ∙ ap (and_then (told s line a)) (sym (told_clipped (after_lines s c.lines) c.rest b))

-- ---- bytes up to a newline
-- up to the first newline no line ends
cut_part : (line b : List ℕ) → cut line (take (position newline b) b) ≡ record { lines = []; rest = line ++ take (position newline b) b }
unfolding cut position
cut_part line [] = ap (λ (l : List ℕ). record { lines = []; rest = l }) (sym (append-nil line))
cut_part line (x ∷ xs) = go (eqb x newline) refl (cut_part (line ++ (x ∷ [])) xs)
  where
    go : (t : Bool) → eqb x newline ≡ t → cut (line ++ (x ∷ [])) (take (position newline xs) xs) ≡ record { lines = []; rest = (line ++ (x ∷ [])) ++ take (position newline xs) xs }
        → cut line (take (cond t 0 (suc (position newline xs))) (x ∷ xs)) ≡ record { lines = []; rest = line ++ take (cond t 0 (suc (position newline xs))) (x ∷ xs) }
    go true e f = ap (λ (l : List ℕ). record { lines = []; rest = l }) (sym (append-nil line))
    go false e f = rw e (f ∙ ap (λ (l : List ℕ). record { lines = []; rest = l }) (append_assoc line (x ∷ []) (take (position newline xs) xs)))

-- with it one line ends
cut_line : (line b : List ℕ) → position newline b < length b → cut line (take (suc (position newline b)) b) ≡ record { lines = (line ++ take (position newline b) b) ∷ []; rest = [] }
unfolding cut position
cut_line line [] h = absurd (omega arith)
cut_line line (x ∷ xs) h = go (eqb x newline) refl h (cut_line (line ++ (x ∷ [])) xs)
  where
    go : (t : Bool) → eqb x newline ≡ t → cond t 0 (suc (position newline xs)) < suc (length xs)
        → (position newline xs < length xs → cut (line ++ (x ∷ [])) (take (suc (position newline xs)) xs) ≡ record { lines = ((line ++ (x ∷ [])) ++ take (position newline xs) xs) ∷ []; rest = [] })
        → cut line (take (suc (cond t 0 (suc (position newline xs)))) (x ∷ xs)) ≡ record { lines = (line ++ take (cond t 0 (suc (position newline xs))) (x ∷ xs)) ∷ []; rest = [] }
    go true e g f = rw e (ap (λ (l : List ℕ). record { lines = l ∷ []; rest = [] }) (sym (append-nil line)))
    go false e g f = rw e (f (omega arith) ∙ ap (λ (l : List ℕ). record { lines = l ∷ []; rest = [] }) (append_assoc line (x ∷ []) (take (position newline xs) xs)))

-- a line that ends: its answer and a newline, and nothing is held
abbrev pub line_told : Answer → Told
line_told a = record { bytes = a.bytes ++ (newline ∷ []); after = a.after; held = [] }

module _ (s : Option Network) (line b : List ℕ) where
  pub told_part : told s line (take (position newline b) b) ≡ record { bytes = []; after = s; held = clipped (line ++ take (position newline b) b) }
  unfolding told answers after_lines text
  told_part = ap (told_of s) (cut_part line b)

  pub told_line : position newline b < length b → told s line (take (suc (position newline b)) b) ≡ line_told (answer s (line ++ take (position newline b) b))
  unfolding told answers after_lines text
  told_line h = ap (told_of s) (cut_line line b h)

pub told_newline : (s : Option Network) (line : List ℕ) → told s line (newline ∷ []) ≡ line_told (answer s line)
unfolding told cut answers after_lines text
told_newline s line = refl

pub told_none : (s : Option Network) (line : List ℕ) → told s line [] ≡ record { bytes = []; after = s; held = clipped line }
unfolding told cut answers after_lines text
told_none s line = refl

-- ---- a whole script
ending_clipped : (line : List ℕ) → ending (clipped line) ≡ ending line
ending_clipped [] = refl
ending_clipped (x ∷ xs) = refl

-- behind the end of a script no line is left open
cut_ending : (line : List ℕ) → (cut line (ending line)).rest ≡ []
unfolding cut
cut_ending [] = refl
cut_ending (x ∷ xs) = refl

-- what a script's blocks lead to, however it is cut into them, and then its end, is what its lines answer and leave
pub told_script : (s : Option Network) (input : List ℕ)
    → and_then (told s [] input) (told (told s [] input).after (told s [] input).held (ending (told s [] input).held)) ≡ record { bytes = text (answers s (script_lines input)); after = after_lines s (script_lines input); held = [] }
unfolding told
told_script s input =
    let rest = (cut [] input).rest in
    sym (told_append s [] input (ending (clipped rest)))
    ∙ ap (λ (l : List ℕ). told s [] (input ++ l)) (ending_clipped rest)
    ∙ ap (λ (l : List ℕ). record { bytes = text (answers s (script_lines input)); after = after_lines s (script_lines input); held = clipped l }) (ap (λ (c : Cut). c.rest) (cut_append [] input (ending rest)) ∙ cut_ending rest)
