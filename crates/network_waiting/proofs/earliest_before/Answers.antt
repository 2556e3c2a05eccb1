-- `earliest_before` compares the records of two earliest writes.
use mathlib.Core.Path.{◌≡◌, ap, ap₂, ◌∙◌}
use mathlib.Core.Bool.{Bool}
use Prim.Native.Nat.{ℕ}
use Rattle.timestamp_order.specs.Order.{not_later}
use Rattle.protocol.specs.Network.{place_of}
use Rattle.protocol.specs.Earliest.{no_later}
use Rattle.network_layout.specs.InWords.{network_in}
use Rattle.network_layout.proofs.OnNetwork.{compared}
use Rattle.network_noting.specs.Noting.{stamp_at}
use Rattle.network_waiting.proofs.earliest_before.Goals as goal

pub compare_records-requires : goal.compare_records-requires
compare_records-requires c =
    let P = c.requires in
    record { first = rw c.record_of-first.ensures P.first.has; second = rw c.record_of-second.ensures P.second.has }

pub returns : goal.returns
returns c =
    let n = network_in c.args.state.now in
    let told : c.not_later.result ≡ no_later (place_of n.items) (stamp_at n c.record_of-first.result) (stamp_at n c.record_of-second.result)
    = c.not_later.ensures ∙ ap not_later (compared c.args.state.now c.args.places c.requires.places_are c.compare_records.ensures) in
    told ∙ ap₂ {C = Bool} (λ (r c : ℕ). no_later (place_of n.items) (stamp_at n r) (stamp_at n c)) c.record_of-first.ensures c.record_of-second.ensures
