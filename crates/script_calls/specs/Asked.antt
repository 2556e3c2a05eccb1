-- What the inner functions ask.
use Rattle.std.specs.Prelude.{◌≡◌, Bool, true, List, ℕ, ◌+◌, ◌≤◌, length}
use Rattle.network_layout.specs.InWords.{shaped}
use Rattle.script_notation.specs.Print.{answer_most}

-- the numbers of a set-up: how many sites and items, then two for each item, no more than a line has
pub record SettingUp (list w : List ℕ) (formed : Bool) (out : List ℕ) (at : ℕ) : Type 0 where
  pub two_there : 2 ≤ length list
  pub few : length list ≤ 256
  pub formed_is : formed ≡ shaped w
  pub room : at + answer_most ≤ length out

-- the words of a network, and room for an answer
pub record OnNetwork (w out : List ℕ) (at : ℕ) : Type 0 where
  pub formed : shaped w ≡ true
  pub room : at + answer_most ≤ length out
