-- A message in words: its name, and the timestamp of a dummy.
use Rattle.std.specs.Prelude.{Bool, cond, ◌||◌, List, ℕ, ◌+◌, get_or, ltb}
use Rattle.limits.specs.Limits.{records_most}
use Rattle.words.specs.Words.{part}
use Rattle.timestamp.specs.Value.{stamp_of}
use Rattle.timestamp_words.specs.InWords.{stamp_in, stamp_size, stamp_range}
use Rattle.messages.specs.declared.Message.{Message as MessageValue}
use Rattle.messages.specs.Messages.{Message, commit, dummy}

abbrev pub message_size : ℕ
message_size = 1 + stamp_size

abbrev pub message_in : List ℕ → Message
message_in w = cond (ltb (get_or w 0 0) records_most) (commit (get_or w 0 0)) (dummy (stamp_in (part w 1 stamp_size)))

-- a dummy's words say at most eight tuples
abbrev pub message_range : List ℕ → Bool
message_range w = ltb (get_or w 0 0) records_most || stamp_range (part w 1 stamp_size)

-- what a value of the code means
abbrev pub message_of : MessageValue → Message
message_of m = cond (ltb m.name records_most) (commit m.name) (dummy (stamp_of m.stamp))
