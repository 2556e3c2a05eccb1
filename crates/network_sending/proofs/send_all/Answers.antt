-- `send_all` goes from site to site: the lines below c have got the message.
use mathlib.Core.Path.{◌≡◌, refl, ap, ◌∙◌}
use mathlib.Core.Bool.{true}
use Prim.Native.Nat.{ℕ, ◌-◌}
use native.Mathlib.Omega.{arith}
use Rattle.placement.specs.Masks.{bit}
use Rattle.limits.specs.Limits.{sites_most}
use Rattle.messages.specs.InWords.{message_of}
use Rattle.protocol.specs.Network.{with_lines}
use Rattle.protocol.specs.Steps.{sent_to}
use Rattle.network_layout.specs.InWords.{network_in}
use Rattle.protocol.proofs.Sent.{line_room, sent_next}
use Rattle.network_sending.proofs.send_all.Goals as goal

pub loop-c-init : goal.loop-c-init
loop-c-init c = (refl, c.requires.ranged)

pub send_one-requires : goal.send_one-requires
send_one-requires c = record { sized = c.loop-c.auto.state ∙ c.requires.sized; ranged = c.loop-c.invariant.1; from = c.requires.from; to = c.loop-c-test.true }

pub loop-c-preserved : goal.loop-c-preserved
loop-c-preserved c =
    let A = c.args in
    let n = network_in A.state.now in (
      sent_next n (bit A.mask) A.i (message_of A.m) c.loop-c.c (line_room n A.i (bit A.mask) c.requires.room c.loop-c.c c.loop-c-test.true) (network_in c.loop-c.state) (network_in c.send_one.new.state) c.loop-c.invariant.0 c.send_one.ensures.state_after,
      c.send_one.ensures.state_after_2,
    )

pub returns : goal.returns
returns c =
    let A = c.args in
    let n = network_in A.state.now in
    let same : c.loop-c.c ≡ sites_most = omega arith in
    record {
      meant = c.loop-c.invariant.0 ∙ ap (λ (k : ℕ). with_lines n (sent_to (bit A.mask) A.i (message_of A.m) k n.lines)) same;
      ranged = c.loop-c.invariant.1;
    }
