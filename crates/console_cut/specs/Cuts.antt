-- Where a line of a block starts and ends.
use Rattle.std.specs.Prelude.{◌≡◌, List, ℕ, ◌+◌, drop}
use Rattle.script_notation.specs.Fields.{position}
use Rattle.console_notation.specs.Lines.{newline}
use Rattle.console_cut.specs.declared.Line.{Line}

-- the newline that ends the line from a place on, or the block's end
abbrev pub end_from : List ℕ → ℕ → ℕ
end_from block from = from + position newline (drop from block)

-- the line behind a newline
pub record LineBehind (block : List ℕ) (end : ℕ) (r : Line) : Type 0 where
  pub from_is : r.from ≡ end + 1
  pub end_is : r.end ≡ end_from block r.from
