-- What is asked where the first byte of a line chooses the call.
use Rattle.std.specs.Prelude.{◌≡◌, Bool, List, ℕ, ◌+◌, ◌≤◌, length}
use Rattle.network_layout.specs.InWords.{shaped}
use Rattle.script_notation.specs.Parse.{longest}
use Rattle.script_notation.specs.Print.{answer_most}

pub record Lettered (text w : List ℕ) (formed : Bool) (out : List ℕ) (at : ℕ) : Type 0 where
  pub some : 1 ≤ length text
  pub short : length text ≤ longest
  pub formed_is : formed ≡ shaped w
  pub room : at + answer_most ≤ length out
