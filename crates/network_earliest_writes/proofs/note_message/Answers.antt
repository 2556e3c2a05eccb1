-- `note_message` notes the record that the message names, where there is one.
use mathlib.Core.Path.{◌≡◌, ap, ◌∙◌}
use mathlib.Core.List.{List}
use Prim.Native.Nat.{ℕ}
use native.Mathlib.Omega.{arith}
use lib.ListN.{get_or}
use Rattle.lines.specs.Lines.{Line}
use Rattle.messages.specs.Messages.{Message, commit, name_of}
use Rattle.network_layout.specs.At.{AtState}
use Rattle.network_layout.proofs.Performs.{records_count}
use Rattle.network_layout.proofs.OnNetwork.{has_record}
use Rattle.network_earliest_writes.specs.Noted.{messages_on}
use Rattle.network_earliest_writes.proofs.NotedLaws.{message_noted, none_noted}
use Rattle.network_earliest_writes.proofs.note_message.Goals as goal
use Rattle.network_earliest_writes.proofs.note_message.Goals.{After-name-name}

-- ---- the message, and its name
module _ (c : After-name-name) where
  abbrev w : List ℕ
  w = c.args.state.now

  abbrev message : Message
  message = get_or (messages_on w c.args.k) c.args.i (commit 0)

  at : AtState w
  at = record { sized = c.requires.at.sized; ranged = c.requires.at.ranged }

  named : c.name-name.result ≡ name_of message
  named = c.name-name.ensures ∙ ap (λ (l : Line). name_of (get_or l.messages c.args.i (commit 0))) c.line_at.ensures.meant

pub note_record-requires : goal.note_record-requires
note_record-requires c =
    record {
      at = at (goal.at.note_record-requires c).After-name-name;
      has = has_record (w (goal.at.note_record-requires c).After-name-name) (at (goal.at.note_record-requires c).After-name-name) c.name-name.result (omega (arith, c.if-name-record_count.true, c.record_count.ensures));
      places_are = c.requires.places_are;
    }

pub returns-then-name-record_count : goal.returns-then-name-record_count
returns-then-name-record_count c =
    let q = c.note_record in
    q.ensures ∙ message_noted (w (goal.at.returns-then-name-record_count c).After-name-name) (at (goal.at.returns-then-name-record_count c).After-name-name) (message (goal.at.returns-then-name-record_count c).After-name-name) c.name-name.result (named (goal.at.returns-then-name-record_count c).After-name-name) c.args.writers.now

pub returns-else-name-record_count : goal.returns-else-name-record_count
returns-else-name-record_count c =
    none_noted (w (goal.at.returns-else-name-record_count c).After-name-name) (at (goal.at.returns-else-name-record_count c).After-name-name) (message (goal.at.returns-else-name-record_count c).After-name-name) c.name-name.result (named (goal.at.returns-else-name-record_count c).After-name-name) (omega (arith, records_count (w (goal.at.returns-else-name-record_count c).After-name-name), c.record_count.ensures, c.if-name-record_count.false)) c.args.writers.now
