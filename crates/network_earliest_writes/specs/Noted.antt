-- The earliest write of each item on the lines into a site: what a walk over the messages notes, and what its functions ask.
use Rattle.std.specs.Prelude.{◌≡◌, false, List, ℕ, ◌<◌, length, get_or, replicate, ltb}
use Rattle.limits.specs.Limits.{items_most, records_most}
use Rattle.lists.specs.Lists.{any, fold}
use Rattle.lines.specs.Lines.{no_line}
use Rattle.messages.specs.Messages.{Message, name_of}
use Rattle.protocol.specs.Network.{Network, message_ops}
use Rattle.protocol.specs.Waiting.{into, carries, earliest_write}
use Rattle.network_layout.specs.InWords.{network_in}
use Rattle.network_layout.specs.At.{AtSite, AtLine, PlacesAre}
use Rattle.network_noting.specs.Noting.{stamp_at, note_ops}

-- ---- what is noted: the earliest
-- a message, for each item that it writes; messages, one after another
abbrev pub note_message : Network → List ℕ → Message → List ℕ
note_message n vs m = note_ops false n (name_of m) vs (message_ops n.history m)

abbrev pub note_messages : Network → List ℕ → List Message → List ℕ
note_messages n vs ms = fold (note_message n) vs ms

-- the messages of line k
abbrev pub messages_on : List ℕ → ℕ → List Message
messages_on w k = (get_or (network_in w).lines k no_line).messages

-- of each item the record with its earliest write on the lines into site i; where none writes it, a number that no record has
abbrev pub earliest_writers : Network → ℕ → List ℕ
earliest_writers n i = note_messages n (replicate items_most records_most) (into n i)

-- what is shown of them
pub record EarliestAre (n : Network) (i : ℕ) (vs : List ℕ) : Type 0 where
  pub sized : length vs ≡ items_most
  pub found : (x : ℕ) → x < items_most → any (carries n x) (into n i) ≡ ltb (get_or vs x 0) (length n.history)
  pub earliest : (x : ℕ) → x < items_most → get_or vs x 0 < length n.history → stamp_at n (get_or vs x 0) ≡ earliest_write n i x

-- ---- what is asked
-- with them, a site of words in range
pub record Finding (w places : List ℕ) (i : ℕ) : Type 0 where
  pub at : AtSite w i
  pub places_are : PlacesAre w places

-- .. a line
pub record Walking (w places : List ℕ) (k : ℕ) : Type 0 where
  pub at : AtLine w k
  pub places_are : PlacesAre w places
