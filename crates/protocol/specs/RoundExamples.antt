-- Worked examples of a round.
use Rattle.std.specs.Prelude.{◌≡◌, List, [], ◌∷◌, ℕ, ◌-◌, pos, length, replicate}
use Rattle.std.proofs.Math.Option.{none, some}
use Rattle.timestamp_order.specs.Timestamp.{Pair, Stamp, greatest}
use Rattle.messages.specs.Messages.{dummy as dummyMessage}
use Rattle.protocol.specs.Network.{Network, site_stamps, line_number, line_at, with_site, with_line}
use Rattle.protocol.specs.Steps.{set_up_network, commit_network}
use Rattle.protocol.specs.Round.{round_calls, round_number, round_network, epoch_by}
use Rattle.protocol.specs.Calls.{Call, set_up, commit, dummy, epoch, deliver, schedule, round}
use Rattle.protocol.specs.Agreement.{Known, nothing_known, learned_all}
use Rattle.protocol.specs.Examples.{after_both, values_of}

abbrev pub pair : ℕ → ℕ → Pair
pair i c = record { site = i; count = c }

abbrev pub stamp : ℕ → List Pair → Stamp
stamp e ps = record { epoch = e; tuples = ps }

-- ---- p 3 2 0 6 1 4, c 0 w0=5, c 1 w1=7, round
abbrev pub after_round : Network
after_round = round_network after_both

abbrev pub round_stamps : List Stamp
round_stamps = stamp 1 (pair 0 2 ∷ []) ∷ stamp 1 (pair 0 2 ∷ pair 1 2 ∷ []) ∷ stamp 1 (pair 0 2 ∷ pair 2 1 ∷ []) ∷ []

abbrev pub booked_calls : List Call
booked_calls = set_up 3 2 (0 ∷ 1 ∷ []) (6 ∷ 4 ∷ []) ∷ commit 0 (1 ∷ []) (0 ∷ []) (pos 5 ∷ []) ∷ commit 1 (1 ∷ []) (1 ∷ []) (pos 7 ∷ []) ∷ round ∷ []

abbrev pub booked : Known
booked = learned_all (nothing_known none) booked_calls

-- ---- p 3 1 2 1, c 2 w0=5, round: site 0, which copies from site 2, comes after it
abbrev pub from_above : Network
from_above = commit_network (set_up_network 3 (2 ∷ []) (1 ∷ [])) 2 (record { kind = 1; item = 0; value = pos 5 } ∷ [])

-- ---- p 2 1 0 2, with a number of messages on the line, or another timestamp at site 1
abbrev pub two : Network
two = set_up_network 2 (0 ∷ []) (2 ∷ [])

abbrev pub holding : ℕ → Network
holding k = with_line two (line_number 0 1) (record { messages = replicate k (dummyMessage (stamp 0 (pair 0 1 ∷ []))); arrived = 0 })

abbrev pub child_at : Network → Stamp → Network
child_at n t = with_site n 1 (record { table = []; stamp = t })

pub record RoundHolds : Type 0 where
  -- what it is made of, and the epoch that it sets
  pub calls : round_calls after_both
      ≡ epoch 0 1 ∷ dummy 0 ∷ deliver 0 1 ∷ deliver 0 1 ∷ schedule 1 ∷ schedule 1 ∷ dummy 1
      ∷ deliver 0 2 ∷ deliver 0 2 ∷ deliver 1 2 ∷ deliver 1 2 ∷ schedule 2 ∷ schedule 2 ∷ schedule 2 ∷ dummy 2 ∷ []
  pub epoch_set : epoch_by (some after_both) ≡ 1
  -- what it leaves: timestamps, both items at every site that has them, and the last line's dummy
  pub stamps : site_stamps after_round ≡ round_stamps
  pub first_item : values_of after_round 0 ≡ pos 5 ∷ pos 5 ∷ pos 5 ∷ []
  pub second_item : values_of after_round 1 ≡ pos 0 ∷ pos 7 ∷ pos 7 ∷ []
  pub still_held : (line_at after_round 1 2).messages ≡ dummyMessage (stamp 1 (pair 0 2 ∷ pair 1 2 ∷ [])) ∷ []
  -- the book has its timestamps too, and each dummy's among those answered
  pub book_stamps : booked.book.stamps ≡ round_stamps
  pub book_answers : length booked.answered ≡ 5
  -- by places, not by numbers
  pub by_places : round_calls from_above ≡ epoch 1 1 ∷ epoch 2 1 ∷ dummy 1 ∷ dummy 2 ∷ deliver 2 0 ∷ deliver 2 0 ∷ schedule 0 ∷ schedule 0 ∷ dummy 0 ∷ []
  -- the greatest epoch is any site's
  pub above_all : epoch_by (some (child_at two (stamp 7 (pair 1 0 ∷ [])))) ≡ 8
  -- a line that holds 16, then a count at its largest, then the largest epoch
  pub room_for_one : round_number (holding 15) ≡ 0
  pub line_full : round_number (child_at (holding 16) (stamp greatest (pair 1 greatest ∷ []))) ≡ 13
  pub count_most : round_number (child_at two (stamp greatest (pair 1 greatest ∷ []))) ≡ 14
  pub epoch_most : round_number (child_at two (stamp greatest (pair 1 0 ∷ []))) ≡ 16
  pub epoch_next : round_number (child_at two (stamp (greatest - 1) (pair 1 (greatest - 1) ∷ []))) ≡ 0
