-- `later_writer` passes record j over unless it writes the item before the reader; else it takes the last of the two.
use mathlib.Core.Path.{◌≡◌, sym, subst, ◌∙◌}
use mathlib.Core.Bool.{Bool, true, false}
use Prim.Native.Nat.{ℕ, ◌+◌}
use Rattle.site_operations.specs.Operations.{touches}
use Rattle.protocol.specs.Network.{Network, nth_record}
use Rattle.network_layout.specs.InWords.{network_in}
use Rattle.network_writers.specs.Writers.{comes_before, LastSoFar, is_writer}
use Rattle.network_writers.proofs.WriterLaws.{passed_over, best_there, taken}
use Rattle.network_writers.proofs.later_writer.Goals as goal

-- record j, by whether it writes the item and comes before the reader
no_writer : (n : Network) (reader item j : ℕ) → touches item (nth_record n j).ops ≡ false → is_writer n reader item j ≡ false
no_writer n reader item j t = rw t

as_before : (n : Network) (reader item j : ℕ) (b : Bool) → touches item (nth_record n j).ops ≡ true → comes_before n j reader ≡ b → is_writer n reader item j ≡ b
as_before n reader item j b t e = rw (t, e)

pub returns-then-not-record_touches : goal.returns-then-not-record_touches
returns-then-not-record_touches c =
    let A = c.args in
    let n = network_in A.state.now in
    passed_over n (is_writer n A.reader A.item) A.j A.best c.requires.so_far
    (no_writer n A.reader A.item A.j (sym c.record_touches.ensures ∙ c.if-not-record_touches.true))

pub returns-then-not-precedes : goal.returns-then-not-precedes
returns-then-not-precedes c =
    let A = c.args in
    let n = network_in A.state.now in
    passed_over n (is_writer n A.reader A.item) A.j A.best c.requires.so_far
    (as_before n A.reader A.item A.j false (sym c.record_touches.ensures ∙ c.if-not-record_touches.false) (sym c.precedes.ensures ∙ c.if-not-precedes.true))

pub later_of-requires : goal.later_of-requires
later_of-requires c =
    let A = c.args in
    let S = c.requires in
    let n = network_in A.state.now in
    record { best = best_there n (is_writer n A.reader A.item) A.j A.best S.so_far A.state.now S.next; next = S.next; places_are = S.places_are }

pub returns : goal.returns
returns c =
    let A = c.args in
    let n = network_in A.state.now in
    let test = is_writer n A.reader A.item in
    subst (LastSoFar n test (A.j + 1)) (sym c.later_of.ensures)
    (taken n test A.j A.best c.requires.so_far
    (as_before n A.reader A.item A.j true (sym c.record_touches.ensures ∙ c.if-not-record_touches.false) (sym c.precedes.ensures ∙ c.if-not-precedes.false))
    c.requires.next.few)
