-- A line's words lent by their range, and what a step on them does to the network.
use mathlib.Core.Path.{◌≡◌, sym, subst}
use mathlib.Core.List.{List}
use Prim.Native.Nat.{ℕ, ◌+◌, ◌-◌}
use lib.ListN.{length, get_or}
use Rattle.std.specs.declared.ops.Range.{Range}
use Rattle.words.specs.Words.{part, put, Stepped}
use Rattle.lines.specs.Lines.{Line, no_line}
use Rattle.lines.specs.InWords.{line_in, line_range, line_size}
use Rattle.network_layout.specs.InWords.{network_in, LineStep}
use Rattle.network_layout.specs.At.{AtLine, HasLine}
use Rattle.network_layout.specs.Lent.{Lent}
use Rattle.network_layout.proofs.AccessLaws.{line_start, line_lent, line_stepped}

module _ (w : List ℕ) (k : ℕ) (r : Range ℕ) (is : r ≡ record { start = line_start k; end = line_start k + line_size }) where
  -- by the start and the size
  abbrev Lends : Range ℕ → Type 0
  Lends q = Lent line_size line_in (get_or (network_in w).lines k no_line) (part w q.start (q.start + line_size - q.start))

  pub lent_from : HasLine w k → Lends r
  lent_from h = subst Lends (sym is) (line_lent w k h)

  module _ (h : AtLine w k) (step : Line → Line) (ys : List ℕ) where
    abbrev Steps : Range ℕ → Type 0
    Steps q =
        let n = q.end - q.start in
        length ys ≡ length (part w q.start n)
        → Stepped line_size line_in line_range step (part w q.start n) ys
        → LineStep w (put w q.start n ys) k step

    pub stepped_at : Steps r
    stepped_at = subst Steps (sym is) (line_stepped w k h step ys)
