-- The table of worked examples: the ten lines of the script, one after another on one state that starts from nothing, and the three
-- comparisons printed under Definition 3.3.
use Rattle.std.specs.Prelude.{◌≡◌, List, [], ◌∷◌, map, ℕ, zero, suc, length, replicate}
use Rattle.std.proofs.Math.Option.{none, some}
use Rattle.timestamp_order.specs.declared.Order.TheVariants.{Earlier}
use Rattle.timestamp_order.specs.Order.{order}
use Rattle.timestamp_order.specs.Parting.{parting}
use Rattle.timestamp_order.specs.Examples.{Comparison, comparisons}
use Rattle.script_notation.specs.Answers.{answers}

-- a line and its answer, as bytes
pub record ScriptLine : Type 0 where
  pub input : List ℕ
  pub output : List ℕ

pub record Table : Type 0 where
  pub lines : List ScriptLine
  pub pairs : List Comparison

abbrev pub ten_lines : List ScriptLine
ten_lines =
    record { input = 112 ∷ 32 ∷ 51 ∷ 32 ∷ 50 ∷ 32 ∷ 48 ∷ 32 ∷ 54 ∷ 32 ∷ 49 ∷ 32 ∷ 52 ∷ []; output = 48 ∷ [] }  -- p 3 2 0 6 1 4 | 0
    ∷ record { input = 99 ∷ 32 ∷ 48 ∷ 32 ∷ 119 ∷ 48 ∷ 61 ∷ 53 ∷ []; output = 48 ∷ 32 ∷ 48 ∷ 32 ∷ 48 ∷ 46 ∷ 49 ∷ [] }  -- c 0 w0=5 | 0 0 0.1
    ∷ record { input = 108 ∷ 32 ∷ 48 ∷ 32 ∷ 49 ∷ []; output = 48 ∷ [] }  -- l 0 1 | 0
    ∷ record { input = 115 ∷ 32 ∷ 49 ∷ []; output = 48 ∷ 32 ∷ 48 ∷ 32 ∷ 48 ∷ 32 ∷ 48 ∷ 46 ∷ 49 ∷ [] }  -- s 1 | 0 0 0 0.1
    ∷ record { input = 99 ∷ 32 ∷ 49 ∷ 32 ∷ 114 ∷ 48 ∷ 32 ∷ 119 ∷ 49 ∷ 61 ∷ 55 ∷ []; output = 48 ∷ 32 ∷ 48 ∷ 32 ∷ 48 ∷ 46 ∷ 49 ∷ 44 ∷ 49 ∷ 46 ∷ 49 ∷ 32 ∷ 53 ∷ [] }  -- c 1 r0 w1=7 | 0 0 0.1,1.1 5
    ∷ record { input = 108 ∷ 32 ∷ 49 ∷ 32 ∷ 50 ∷ []; output = 48 ∷ [] }  -- l 1 2 | 0
    ∷ record { input = 115 ∷ 32 ∷ 50 ∷ []; output = 50 ∷ 48 ∷ [] }  -- s 2 | 20
    ∷ record { input = 108 ∷ 32 ∷ 48 ∷ 32 ∷ 50 ∷ []; output = 48 ∷ [] }  -- l 0 2 | 0
    ∷ record { input = 115 ∷ 32 ∷ 50 ∷ []; output = 48 ∷ 32 ∷ 48 ∷ 32 ∷ 48 ∷ 32 ∷ 48 ∷ 46 ∷ 49 ∷ [] }  -- s 2 | 0 0 0 0.1
    ∷ record { input = 99 ∷ 32 ∷ 50 ∷ 32 ∷ 114 ∷ 48 ∷ 32 ∷ 114 ∷ 49 ∷ []; output = 48 ∷ 32 ∷ 48 ∷ 32 ∷ 48 ∷ 46 ∷ 49 ∷ 44 ∷ 50 ∷ 46 ∷ 49 ∷ 32 ∷ 53 ∷ 32 ∷ 48 ∷ [] }  -- c 2 r0 r1 | 0 0 0.1,2.1 5 0
    ∷ []

abbrev pub table : Table
table = record { lines = ten_lines; pairs = comparisons }

-- every line is answered as the table has it; of every pair the first timestamp is the earlier one, and the two part after a tuple
pub record Holds (t : Table) : Type 0 where
  pub lines_hold : answers none (map (λ (l : ScriptLine). l.input) t.lines) ≡ map (λ (l : ScriptLine). l.output) t.lines
  pub pairs_hold : map (λ (c : Comparison). order c.first c.second) t.pairs ≡ replicate (length t.pairs) Earlier
  pub pairs_part : map (λ (c : Comparison). parting c.first c.second) t.pairs ≡ replicate (length t.pairs) (some 1)

-- ---- beside the table: the longest line goes to its call, which refuses the lists of 126 for 10 items; with a byte more it does not
abbrev pub zeros : ℕ → List ℕ
zeros zero = []
zeros (suc n) = 32 ∷ 48 ∷ zeros n

abbrev pub longest_line : ScriptLine
longest_line = record { input = 112 ∷ 32 ∷ 49 ∷ 32 ∷ 49 ∷ 48 ∷ 32 ∷ 49 ∷ 48 ∷ 32 ∷ 49 ∷ 48 ∷ zeros 250; output = 50 ∷ [] }  -- p 1 10 10 10 0 .. 0, 512 bytes | 2

abbrev pub too_long_line : ScriptLine
too_long_line = record { input = 112 ∷ 32 ∷ 49 ∷ 32 ∷ 49 ∷ 48 ∷ 48 ∷ 32 ∷ 49 ∷ 48 ∷ 32 ∷ 49 ∷ 48 ∷ zeros 250; output = 63 ∷ [] }  -- p 1 100 10 10 0 .. 0, 513 bytes | ?

abbrev pub long_lines : List ScriptLine
long_lines = longest_line ∷ too_long_line ∷ []

pub record LongHold : Type 0 where
  pub long_lines_lem : answers none (map (λ (l : ScriptLine). l.input) long_lines) ≡ map (λ (l : ScriptLine). l.output) long_lines
