-- `better` takes p where it is a parent and there was none before, or its message is earlier.
use mathlib.Core.Path.{◌≡◌, sym, ap, ap₂, ◌∙◌}
use mathlib.Core.Bool.{Bool, true, false}
use Prim.Native.Nat.{ℕ, ◌<◌}
use Rattle.timestamp_order.specs.Timestamp.{Stamp}
use Rattle.timestamp_order.specs.Order.{order_by, is_earlier}
use Rattle.limits.specs.Limits.{sites_most}
use Rattle.placement.specs.Masks.{bit}
use Rattle.placement.specs.Placement.{is_line}
use Rattle.network_schedule_causes.specs.Parents.{parents_mask}
use Rattle.protocol.specs.Network.{Network, place_of}
use Rattle.protocol.specs.Steps.{head_earlier}
use Rattle.network_layout.specs.InWords.{network_in}
use Rattle.network_layout.proofs.OnNetwork.{compared}
use Rattle.network_schedule_causes.proofs.CauseLaws.{parent_bit}
use Rattle.network_choice.proofs.ChoiceLaws.{better_none, better_first, better_earlier, better_not}
use Rattle.network_choice.proofs.better.Goals as goal

-- whether p is a parent is its bit of the mask
parent_as : (n : Network) (j mask p : ℕ) (b t : Bool) → mask ≡ parents_mask n.items j → p < sites_most → b ≡ bit mask p → b ≡ t → is_line n.items p j ≡ t
parent_as n j mask p b t parents few is told = sym (is ∙ parent_bit n.items j mask p parents few) ∙ told

pub returns-then-not-bit : goal.returns-then-not-bit
returns-then-not-bit c =
    let A = c.args in
    let n = network_in A.state.now in
    better_none n A.j A.p A.best c.requires.best (parent_as n A.j A.mask A.p c.bit.result false c.requires.parents c.requires.few c.bit.ensures c.if-not-bit.true)

pub returns-then-best-ge-SITES : goal.returns-then-best-ge-SITES
returns-then-best-ge-SITES c =
    let A = c.args in
    let n = network_in A.state.now in
    let line = parent_as n A.j A.mask A.p c.bit.result true c.requires.parents c.requires.few c.bit.ensures c.if-not-bit.false in
    better_first n A.j A.p A.best c.requires.best line c.if-best-ge-SITES.true

pub head_words-first-requires : goal.head_words-first-requires
head_words-first-requires c =
    let A = c.args in
    let n = network_in A.state.now in
    record { free = c.requires.free; line = parent_as n A.j A.mask A.p c.bit.result true c.requires.parents c.requires.few c.bit.ensures c.if-not-bit.false }

pub head_words-second-requires : goal.head_words-second-requires
head_words-second-requires c = record { free = c.requires.free; line = c.requires.best.line c.if-best-ge-SITES.false }

-- the comparison of p's message with the best
pub returns-then-is_earlier : goal.returns-then-is_earlier
returns-then-is_earlier c =
    let A = c.args in
    let n = network_in A.state.now in
    let line = parent_as n A.j A.mask A.p c.bit.result true c.requires.parents c.requires.few c.bit.ensures c.if-not-bit.false in
    let found = c.is_earlier.ensures ∙ ap is_earlier (compared A.state.now A.places c.requires.places_are c.compare_words.ensures) in
    let told : head_earlier n A.j A.p A.best ≡ c.is_earlier.result
    = sym (found ∙ ap₂ {C = Bool} (λ (s t : Stamp). is_earlier (order_by (place_of n.items) s t)) c.head_words-first.ensures c.head_words-second.ensures) in
    better_earlier n A.j A.p A.best c.requires.best line c.if-best-ge-SITES.false (told ∙ c.if-is_earlier.true)

pub returns : goal.returns
returns c =
    let A = c.args in
    let n = network_in A.state.now in
    let line = parent_as n A.j A.mask A.p c.bit.result true c.requires.parents c.requires.few c.bit.ensures c.if-not-bit.false in
    let found = c.is_earlier.ensures ∙ ap is_earlier (compared A.state.now A.places c.requires.places_are c.compare_words.ensures) in
    let told : head_earlier n A.j A.p A.best ≡ c.is_earlier.result
    = sym (found ∙ ap₂ {C = Bool} (λ (s t : Stamp). is_earlier (order_by (place_of n.items) s t)) c.head_words-first.ensures c.head_words-second.ensures) in
    better_not n A.j A.p A.best c.requires.best line c.if-best-ge-SITES.false (told ∙ c.if-is_earlier.false)
