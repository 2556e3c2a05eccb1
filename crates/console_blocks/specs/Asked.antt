-- What the inner functions ask.
use Rattle.std.specs.Prelude.{◌≡◌, Bool, List, ℕ, ◌+◌, ◌≤◌, length}
use Rattle.network_layout.specs.InWords.{shaped}
use Rattle.console_notation.specs.Lines.{clip_most, line_most}
use Rattle.console_notation.specs.declared.Held.{Held}

-- a line that is held whole, words of which it is known whether they are those of a network, and room for the longest answer
pub record HeldWithRoom (held : Held) (w : List ℕ) (formed : Bool) (out : List ℕ) (at : ℕ) : Type 0 where
  pub whole : held.count ≤ clip_most
  pub formed_is : formed ≡ shaped w
  pub room : at + line_most ≤ length out
