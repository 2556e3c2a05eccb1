-- `earliest_writes` notes the messages of one line after another.
use mathlib.Core.Path.{◌≡◌, refl, sym, ap, ◌∙◌}
use mathlib.Core.List.{List}
use Prim.Native.Nat.{ℕ, ◌-◌}
use native.Mathlib.Omega.{arith}
use native.Mathlib.Numerals.{add-one}
use lib.ListN.{replicate}
use Rattle.limits.specs.Limits.{sites_most, items_most, records_most}
use Rattle.lists.proofs.Folds.{fold_more}
use Rattle.protocol.specs.Network.{line_at}
use Rattle.protocol.specs.Waiting.{into_below}
use Rattle.network_layout.specs.InWords.{network_in}
use Rattle.network_earliest_writes.specs.Noted.{note_message, note_messages, messages_on}
use Rattle.network_earliest_writes.proofs.earliest_writes.Invariants.{noted_below}
use Rattle.network_earliest_writes.proofs.earliest_writes.Goals as goal

pub loop-p-init : goal.loop-p-init
loop-p-init c = (omega arith, refl, refl)

pub note_line-requires : goal.note_line-requires
note_line-requires c =
    let P = c.requires in
    record {
      at = record { sized = P.at.sized; ranged = P.at.ranged; few = omega (arith, c.line_number.ensures, c.loop-p-test.true, P.at.few) };
      places_are = P.places_are;
    }

pub loop-p-preserved : goal.loop-p-preserved
loop-p-preserved c =
    let number = c.line_number in
    let A = c.args in
    let w = A.state.now in
    let line : messages_on w number.result ≡ (line_at (network_in w) c.loop-p.p A.site).messages = ap (messages_on w) number.ensures in
    let told : c.note_line.new.writers ≡ note_messages (network_in w) c.loop-p.writers (line_at (network_in w) c.loop-p.p A.site).messages
    = c.note_line.ensures ∙ ap (note_messages (network_in w) c.loop-p.writers) line in (
      omega arith,
      c.note_line.auto.writers ∙ c.loop-p.invariant.1,
      told
          ∙ ap (λ (vs : List ℕ). note_messages (network_in w) vs (line_at (network_in w) c.loop-p.p A.site).messages) c.loop-p.invariant.2
          ∙ sym (fold_more (note_message (network_in w)) (replicate items_most records_most) (into_below (network_in w) A.site c.loop-p.p) (line_at (network_in w) c.loop-p.p A.site).messages)
          ∙ ap (noted_below w A.site) (sym (add-one c.loop-p.p)),
    )

pub returns : goal.returns
returns c =
    let A = c.args in
    let all : c.loop-p.p ≡ sites_most = omega (arith, c.loop-p.invariant.0, c.loop-p-test.false) in
    c.loop-p.invariant.2 ∙ ap (noted_below A.state.now A.site) all
