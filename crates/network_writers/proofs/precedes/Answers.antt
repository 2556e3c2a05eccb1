-- `precedes` compares the two timestamps, and where they are equal the two numbers.
use mathlib.Core.Path.{◌≡◌, sym, ap, ◌∙◌}
use Prim.Native.Nat.{ℕ}
use borrow.Author.Tests.{lt-ltb, le-ltb}
use Rattle.timestamp_order.specs.Timestamp.{Stamp}
use Rattle.timestamp_order.specs.Order.{order_by, not_later, is_earlier}
use Rattle.protocol.specs.Network.{nth_record, place_of}
use Rattle.network_layout.specs.InWords.{network_in}
use Rattle.network_layout.proofs.OnNetwork.{compared}
use Rattle.network_writers.proofs.precedes.Goals as goal
use Rattle.network_writers.proofs.precedes.Goals.{After-compare_records-found}

-- the order by the places that are handed over is that by the places of the items
module _ (c : After-compare_records-found) where
  abbrev stamp_at : ℕ → Stamp
  stamp_at i = (nth_record (network_in c.args.state.now) i).stamp

  told : c.compare_records-found.result.order ≡ order_by (place_of (network_in c.args.state.now).items) (stamp_at c.args.first) (stamp_at c.args.second)
  told = compared c.args.state.now c.args.places c.requires.places_are c.compare_records-found.ensures

pub returns-then-first-second : goal.returns-then-first-second
returns-then-first-second c =
    let A = c.args in
    c.not_later.ensures ∙ ap not_later (told (goal.at.returns-then-first-second c).After-compare_records-found) ∙ sym (rw (lt-ltb A.first A.second c.if-first-second.true))

pub returns : goal.returns
returns c =
    let A = c.args in
    c.is_earlier.ensures ∙ ap is_earlier (told (goal.at.returns c).After-compare_records-found) ∙ sym (rw (le-ltb A.first A.second c.if-first-second.false))
