-- The messages of a line by a table of names: which name a commit that goes, and all by their new names.
use Rattle.std.specs.Prelude.{◌≡◌, Bool, false, not, cond, List, ◌∷◌, map, ℕ, ◌<◌, length, get_or, drop, ltb}
use Rattle.limits.specs.Limits.{records_most, held_most}
use Rattle.lists.specs.Lists.{any}
use Rattle.messages.specs.Messages.{Message, commit, dummy}
use Rattle.messages.specs.InWords.{message_size}
use Rattle.lines.specs.Lines.{Line}
use Rattle.lines.specs.InWords.{line_in, line_size}
use Rattle.record_names.specs.Names.{stays}

-- a message that names a commit that goes
abbrev pub names_gone : List ℕ → Message → Bool
names_gone names (commit k) = not (stays names k)
names_gone names (dummy t) = false

-- the commit of a message by its new name
abbrev pub renamed_by : List ℕ → Message → Message
renamed_by names (commit k) = commit (get_or names k 0)
renamed_by names (dummy t) = dummy t

abbrev pub line_renamed_by : List ℕ → Line → Line
line_renamed_by names l = record { messages = map (renamed_by names) l.messages; arrived = l.arrived }

-- ---- in words
-- the words of a message with its new name
abbrev pub box_renamed : List ℕ → List ℕ → List ℕ
box_renamed names b = cond (ltb (get_or b 0 0) records_most) (get_or names (get_or b 0 0) 0 ∷ drop 1 b) b

-- ---- what is asked
-- no message of the line names a commit that goes
pub record NoneGone (names l : List ℕ) : Type 0 where
  pub none : any (names_gone names) (line_in l).messages ≡ false

-- message i has a place on it
pub record AtMessage (l : List ℕ) (i : ℕ) : Type 0 where
  pub sized : length l ≡ line_size
  pub few : i < held_most

-- the words of a message
pub record AtBox (b : List ℕ) : Type 0 where
  pub sized : length b ≡ message_size
