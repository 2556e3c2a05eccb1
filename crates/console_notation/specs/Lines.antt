-- A script's bytes cut into lines, and what the lines answer and leave, one after another.
use Rattle.std.specs.Prelude.{cond, List, [], ◌∷◌, ◌++◌, ℕ, suc, ◌+◌, length, take, eqb, leb}
use Rattle.std.proofs.Math.Option.{Option}
use Rattle.protocol.specs.Network.{Network}
use Rattle.script_notation.specs.Parse.{longest}
use Rattle.script_notation.specs.Print.{answer_most}
use Rattle.script_notation.specs.Answers.{answer, answers}

abbrev pub newline : ℕ
newline = 10

-- ---- bytes cut into lines
-- the lines that have ended, without their newlines, and the bytes of one that has not
pub record Cut : Type 0 where
  pub lines : List (List ℕ)
  pub rest : List ℕ

abbrev pub line_before : List ℕ → Cut → Cut
line_before line c = record { lines = line ∷ c.lines; rest = c.rest }

-- bytes behind those of a line that has not ended: each newline ends a line
unfoldable pub cut : List ℕ → List ℕ → Cut
cut line [] = record { lines = []; rest = line }
cut line (x ∷ xs) = cond (eqb x newline) (line_before line (cut [] xs)) (cut (line ++ (x ∷ [])) xs)

-- what the end of a script adds: the last line may lack its newline; where nothing stands behind the last newline there is no such line
abbrev pub ending : List ℕ → List ℕ
ending [] = []
ending (x ∷ xs) = newline ∷ []

-- the lines of a whole script
abbrev pub script_lines : List ℕ → List (List ℕ)
script_lines input = (cut [] (input ++ ending (cut [] input).rest)).lines

-- ---- what lines answer and leave
-- a newline behind each answer
unfoldable pub text : List (List ℕ) → List ℕ
text [] = []
text (a ∷ rest) = a ++ (newline ∷ text rest)

unfoldable pub after_lines : Option Network → List (List ℕ) → Option Network
after_lines s [] = s
after_lines s (l ∷ ls) = after_lines (answer s l).after ls

-- ---- one block of bytes after another
-- one byte more than a line has: that a line is too long is told by so many of its bytes
abbrev pub clip_most : ℕ
clip_most = suc longest

-- the bytes held of a line that has not ended
abbrev pub clipped : List ℕ → List ℕ
clipped line = take clip_most line

-- what bytes lead to behind those held of a line: the text of the answers, the state after them, and what is held then
pub record Told : Type 0 where
  pub bytes : List ℕ
  pub after : Option Network
  pub held : List ℕ

abbrev pub told_of : Option Network → Cut → Told
told_of s c = record { bytes = text (answers s c.lines); after = after_lines s c.lines; held = clipped c.rest }

unfoldable pub told : Option Network → List ℕ → List ℕ → Told
told s line bytes = told_of s (cut line bytes)

-- the most bytes of an answer and its newline
abbrev pub line_most : ℕ
line_most = suc answer_most

-- How many bytes are used where answers go from a place on into a buffer of a size: all, or those before the first newline that finds no room for
-- the longest answer.
unfoldable pub used : Option Network → ℕ → ℕ → List ℕ → List ℕ → ℕ
used s size at line [] = 0
used s size at line (x ∷ xs) =
    cond (eqb x newline)
    (cond (leb (at + line_most) size) (suc (used (answer s line).after size (at + suc (length (answer s line).bytes)) [] xs)) 0)
    (suc (used s size at (line ++ (x ∷ [])) xs))
