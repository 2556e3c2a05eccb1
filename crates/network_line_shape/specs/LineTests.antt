-- What the test for shape asks of a line: of its words that they are in range, and of what they mean that it fits.
use Rattle.std.specs.Prelude.{◌≡◌, Bool, ◌&&◌, List, map, ℕ, ◌*◌, ◌≤◌, ◌<◌, length, get_or, eqb, ltb}
use Rattle.words.specs.Words.{chunks}
use Rattle.limits.specs.Limits.{held_most, records_most}
use Rattle.placement.specs.Placement.{Item, LineBits}
use Rattle.placement.specs.Places.{places_of}
use Rattle.lines.specs.InWords.{line_in, line_range, line_size}
use Rattle.messages.specs.InWords.{message_in, message_range, message_size}
use Rattle.records.specs.Records.{Record}
use Rattle.records.specs.InWords.{record_in, record_size}
use Rattle.protocol.specs.Network.{lines_most, no_record, message_fits, line_fits}

-- ---- the tests
-- the records that are held against
abbrev pub history_in : List ℕ → ℕ → List Record
history_in kept made = map record_in (chunks record_size made kept)

-- there is a record k, and p made it
abbrev pub commit_test : List Record → ℕ → ℕ → Bool
commit_test h p k = ltb k (length h) && eqb (get_or h k no_record).site p

abbrev pub message_test : (ℕ → ℕ) → List Record → ℕ → List ℕ → Bool
message_test place h p x = message_range x && message_fits place h p (message_in x)

abbrev pub line_test : List Item → List Record → ℕ → List ℕ → Bool
line_test xs h k x = line_range x && line_fits xs h k (line_in x)

-- the test of a line by the bits of all lines and the places of the sites: that of every placement that gives these
abbrev pub LineTested : ℕ → List ℕ → List Record → ℕ → List ℕ → Bool → Type 0
LineTested given places h k x r = (xs : List Item) → LineBits xs given → places ≡ places_of xs → r ≡ line_test xs h k x

-- ---- what the functions ask
-- places of `one` words each, as many as `most`, of which the first n are used
pub record Places (w : List ℕ) (one most n : ℕ) : Type 0 where
  pub sized : length w ≡ most * one
  pub few : n ≤ most

-- a message, those of a line, a line, and one that holds n, beside the history that they are held against
pub record MessageAsked (w kept : List ℕ) (made : ℕ) : Type 0 where
  pub sized : length w ≡ message_size
  pub history : Places kept record_size records_most made

pub record MessagesAsked (w : List ℕ) (n : ℕ) (kept : List ℕ) (made : ℕ) : Type 0 where
  pub messages : Places w message_size held_most n
  pub history : Places kept record_size records_most made

pub record LineAsked (l : List ℕ) (k : ℕ) (kept : List ℕ) (made : ℕ) : Type 0 where
  pub sized : length l ≡ line_size
  pub few : k < lines_most
  pub history : Places kept record_size records_most made

pub record HeldAsked (l : List ℕ) (n k : ℕ) (kept : List ℕ) (made : ℕ) : Type 0 where
  pub line : LineAsked l k kept made
  pub held : n ≡ length (line_in l).messages
  pub few : n ≤ held_most
  pub some : n ≡ 0 → ⊥

-- a record that was made
pub record MadeAsked (kept : List ℕ) (made k : ℕ) : Type 0 where
  pub history : Places kept record_size records_most made
  pub there : k < made
