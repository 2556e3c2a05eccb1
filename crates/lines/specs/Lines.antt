-- A line from a parent to a child: its messages in sending order, of which the first have arrived.
use Rattle.std.specs.Prelude.{cond, List, [], ◌∷◌, ◌++◌, ℕ, ◌+◌, ◌-◌, length, drop, ltb}
use Rattle.limits.specs.Limits.{held_most}
use Rattle.messages.specs.Messages.{Message}

pub record Line : Type 0 where
  pub messages : List Message
  pub arrived : ℕ

abbrev pub no_line : Line
no_line = record { messages = []; arrived = 0 }

-- a message sent
abbrev pub sent : Message → Line → Line
sent m l = record { messages = l.messages ++ (m ∷ []); arrived = l.arrived }

-- the oldest message on the way arrives
abbrev pub delivered : Line → Line
delivered l = record { messages = l.messages; arrived = l.arrived + 1 }

-- the oldest message taken off
abbrev pub taken : Line → Line
taken l = record { messages = drop 1 l.messages; arrived = l.arrived - 1 }

-- ---- at the edges the line stays as it is: one that holds 16, one with nothing on the way, one that holds nothing
unfoldable pub sent_or_same : Message → Line → Line
sent_or_same m l = cond (ltb (length l.messages) held_most) (sent m l) l

unfoldable pub delivered_or_same : Line → Line
delivered_or_same l = cond (ltb l.arrived (length l.messages)) (delivered l) l

unfoldable pub taken_or_same : Line → Line
taken_or_same l = cond (ltb 0 (length l.messages)) (taken l) l
