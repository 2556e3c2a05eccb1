-- What the functions of this crate ask.
use Rattle.std.specs.Prelude.{◌≡◌, List, ℕ, length}
use Rattle.messages.specs.InWords.{message_size}

-- the words of a message
pub record MessageWords (w : List ℕ) : Type 0 where
  pub sized : length w ≡ message_size
