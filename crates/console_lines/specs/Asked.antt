-- What is asked where a line is answered: that it is known whether the words are those of a network, and room for the longest answer and its newline.
use Rattle.std.specs.Prelude.{◌≡◌, Bool, List, ℕ, ◌+◌, ◌≤◌, length}
use Rattle.network_layout.specs.InWords.{shaped}
use Rattle.console_notation.specs.Lines.{line_most}

pub record Collecting (w : List ℕ) (formed : Bool) (out : List ℕ) (at : ℕ) : Type 0 where
  pub formed_is : formed ≡ shaped w
  pub room : at + line_most ≤ length out
