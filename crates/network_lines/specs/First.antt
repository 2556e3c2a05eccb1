-- The oldest message of a line, and what is asked where its own timestamp is lent.
use Rattle.std.specs.Prelude.{◌≡◌, List, ℕ, get_or}
use Rattle.limits.specs.Limits.{records_most}
use Rattle.messages.specs.Messages.{Message, commit, name_of}
use Rattle.lines.specs.Lines.{no_line}
use Rattle.protocol.specs.Network.{Network}
use Rattle.network_layout.specs.InWords.{network_in}
use Rattle.network_layout.specs.At.{HasLine}

-- of line k
abbrev pub first_on : Network → ℕ → Message
first_on n k = get_or (get_or n.lines k no_line).messages 0 (commit 0)

-- it is a dummy
pub record HasDummy (w : List ℕ) (k : ℕ) : Type 0 where
  pub line : HasLine w k
  pub own : name_of (first_on (network_in w) k) ≡ records_most
