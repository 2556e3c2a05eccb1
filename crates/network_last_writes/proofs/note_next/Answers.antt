-- `note_next` passes record j over where it stays.
use mathlib.Core.Path.{◌≡◌, sym, subst, ◌∙◌}
use mathlib.Core.Bool.{true, not}
use Prim.Native.Nat.{◌<◌, ◌+◌}
use native.Mathlib.Omega.{arith}
use lib.ListN.{length}
use borrow.Author.Tests.{not-true, not-false}
use Rattle.record_names.proofs.NameLaws.{name_stays}
use Rattle.protocol.specs.Network.{Network}
use Rattle.protocol.specs.Collect.{is_past}
use Rattle.network_layout.specs.InWords.{network_in}
use Rattle.network_layout.proofs.Performs.{records_count}
use Rattle.network_last_writes.specs.LastWrites.{LastWrites}
use Rattle.network_last_writes.proofs.LastWriteLaws.{record_stays, record_goes}
use Rattle.network_last_writes.proofs.note_next.Goals as goal

pub returns-then-stays : goal.returns-then-stays
returns-then-stays c =
    let net : Network = network_in c.args.state.now in
    let there : c.args.j < length net.history = omega (arith, records_count c.args.state.now, c.requires.next.there) in
    let stays_is : c.stays.result ≡ not (is_past net c.args.j) = c.stays.ensures ∙ name_stays (is_past net) (length net.history) c.args.names.now c.requires.folding.names_are c.args.j there in
    let j = c.args.j in
    record_stays net j c.args.table.now c.requires.so_far (not-true (is_past net j) (sym stays_is ∙ c.if-stays.true))

pub overflow_cast-j : goal.overflow_cast-j
overflow_cast-j c = omega (arith, c.requires.next.few)

pub note_record-requires : goal.note_record-requires
note_record-requires c =
    record { at = c.requires.folding.at; has = c.requires.next; places_are = c.requires.folding.places_are }

pub returns : goal.returns
returns c =
    let net : Network = network_in c.args.state.now in
    let there : c.args.j < length net.history = omega (arith, records_count c.args.state.now, c.requires.next.there) in
    let stays_is : c.stays.result ≡ not (is_past net c.args.j) = c.stays.ensures ∙ name_stays (is_past net) (length net.history) c.args.names.now c.requires.folding.names_are c.args.j there in
    let j = c.args.j in
    let goes : is_past net j ≡ true = not-false (is_past net j) (sym stays_is ∙ c.if-stays.false) in
    subst (LastWrites net (j + 1)) (sym c.note_record.ensures) (record_goes net j c.args.table.now c.requires.so_far there c.requires.folding.names_are.few goes)
