-- A line in words: how many messages it holds, how many have arrived, and 16 places of a message.
use Rattle.std.specs.Prelude.{Bool, ◌&&◌, List, map, ℕ, ◌+◌, ◌*◌, take, get_or, leb}
use Rattle.limits.specs.Limits.{held_most}
use Rattle.lists.specs.Lists.{every}
use Rattle.words.specs.Words.{part, chunks}
use Rattle.messages.specs.InWords.{message_size, message_in, message_range}
use Rattle.lines.specs.Lines.{Line}

-- where its messages start, and the words of all of them
abbrev pub boxes_at : ℕ
boxes_at = 2

abbrev pub boxes_size : ℕ
boxes_size = held_most * message_size

abbrev pub line_size : ℕ
line_size = boxes_at + boxes_size

-- the words of each message held
abbrev pub boxes_in : List ℕ → List (List ℕ)
boxes_in w = take (get_or w 0 0) (chunks message_size held_most (part w boxes_at boxes_size))

abbrev pub line_from : ℕ → List (List ℕ) → Line
line_from arrived boxes = record { messages = map message_in boxes; arrived = arrived }

unfoldable pub line_in : List ℕ → Line
line_in w = line_from (get_or w 1 0) (boxes_in w)

-- it says at most 16 messages, each of them in range
unfoldable pub line_range : List ℕ → Bool
line_range w = leb (get_or w 0 0) held_most && every message_range (boxes_in w)

-- it says at most 16 messages, and no more of them arrived
unfoldable pub line_counted : List ℕ → Bool
line_counted w = leb (get_or w 0 0) held_most && leb (get_or w 1 0) (get_or w 0 0)
