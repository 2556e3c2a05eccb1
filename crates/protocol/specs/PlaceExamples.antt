-- Worked examples of a network whose places are not its numbers: everything that compares timestamps goes by the places.
use Rattle.std.specs.Prelude.{◌≡◌, true, List, [], ◌∷◌, map, ℕ, pos}
use Rattle.std.proofs.Math.Option.{none}
use Rattle.site_operations.specs.Operations.{Op}
use Rattle.protocol.specs.Network.{Network, place_of, site_at, well_shaped}
use Rattle.protocol.specs.Steps.{set_up_network, commit_network, deliver_network, schedule_network, chosen}
use Rattle.protocol.specs.Waiting.{waiting_items}
use Rattle.protocol.specs.Run.{Turn, in_turn}
use Rattle.protocol.specs.Calls.{Call, set_up, commit}
use Rattle.protocol.specs.Agreement.{Known, nothing_known, learned_all, book_place, book_point}
use Rattle.protocol.specs.RoundExamples.{stamp, pair}

-- p 3 3 2 3 0 2 1 0: item 0 at site 2 with copies at 0 and 1, item 1 at site 0 with a copy at 1; so the sites stand in the order 2, 0, 1
abbrev pub primaries : List ℕ
primaries = 2 ∷ 0 ∷ 1 ∷ []

abbrev pub masks : List ℕ
masks = 3 ∷ 2 ∷ 0 ∷ []

-- then c 2 w0=5 at 2.1 and c 0 w1=7 at 0.1: by places the second is the earlier one, by numbers the first
abbrev pub turned : Network
turned =
    commit_network (commit_network (set_up_network 3 primaries masks) 2 (record { kind = 1; item = 0; value = pos 5 } ∷ [])) 0
    (record { kind = 1; item = 1; value = pos 7 } ∷ [])

abbrev pub turned_book : Known
turned_book =
    learned_all (nothing_known none)
    (set_up 3 3 primaries masks ∷ commit 2 (1 ∷ []) (0 ∷ []) (pos 5 ∷ []) ∷ commit 0 (1 ∷ []) (1 ∷ []) (pos 7 ∷ []) ∷ [])

-- l 2 1, l 0 1: both have arrived at site 1
abbrev pub both_arrived : Network
both_arrived = deliver_network (deliver_network turned 2 1) 0 1

-- l 2 0, s 0: site 0 has heard of site 2
abbrev pub heard_above : Network
heard_above = schedule_network (deliver_network turned 2 0) 0

abbrev pub numbers_of : List Turn → List ℕ
numbers_of = map (λ (c : Turn). c.number)

pub record PlaceHolds : Type 0 where
  pub schedule_by_place : chosen both_arrived 1 ≡ 0
  pub report_by_place : waiting_items turned 1 ≡ 1 ∷ 0 ∷ []
  pub run_by_place : numbers_of (in_turn (place_of turned.items) turned.history) ≡ 1 ∷ 0 ∷ []
  -- the book's own run, and the earliest of its timestamps 0.1, 1.0 and 2.1
  pub book_by_place : numbers_of (in_turn (book_place turned_book) turned_book.book.commits) ≡ 1 ∷ 0 ∷ []
  pub point_by_place : book_point turned_book ≡ stamp 0 (pair 1 0 ∷ [])
  -- tuples stand by rising places, not by rising numbers
  pub tuples_by_place : (site_at heard_above 0).stamp ≡ stamp 0 (pair 2 1 ∷ pair 0 1 ∷ [])
  pub still_shaped : well_shaped heard_above ≡ true
