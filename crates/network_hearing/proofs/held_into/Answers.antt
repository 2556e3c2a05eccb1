-- `held_into` adds up what the lines hold: those from the sites below `from` have been.
use mathlib.Core.Path.{◌≡◌, refl, ap, ◌∙◌}
use Prim.Native.Nat.{ℕ, ◌+◌, ◌-◌}
use native.Mathlib.Omega.{arith}
use native.Mathlib.Numerals.{add-one}
use lib.ListN.{length, get_or, length-append}
use Rattle.limits.specs.Limits.{sites_most}
use Rattle.lines.specs.Lines.{no_line}
use Rattle.protocol.specs.Network.{line_at}
use Rattle.protocol.specs.Waiting.{into_below}
use Rattle.network_layout.specs.InWords.{network_in}
use Rattle.network_hearing.proofs.held_into.Goals as goal

pub loop-from-init : goal.loop-from-init
loop-from-init c = (omega arith, omega arith, refl)

pub line_held-held-requires : goal.line_held-held-requires
line_held-held-requires c =
    record { sized = c.requires.sized; few = omega (arith, c.requires.few, c.line_number.ensures, c.loop-from-test.true) }

pub overflow_add-held : goal.overflow_add-held
overflow_add-held c =
    omega (arith, c.loop-from.invariant.0, c.loop-from.invariant.1, c.line_held-held.ensures.1)

pub loop-from-preserved : goal.loop-from-preserved
loop-from-preserved c =
    let A = c.args in
    let n = network_in A.state.now in
    let p = c.loop-from.from in
    let line : c.line_held-held.result ≡ length (line_at n p A.j).messages = c.line_held-held.ensures.0 ∙ ap (λ (k : ℕ). length (get_or n.lines k no_line).messages) c.line_number.ensures in
    let more : length (into_below n A.j (p + 1)) ≡ length (into_below n A.j p) + length (line_at n p A.j).messages = ap (λ (k : ℕ). length (into_below n A.j k)) (add-one p) ∙ length-append (into_below n A.j p) (line_at n p A.j).messages in
    (omega (arith, c.loop-from-test.true), omega (arith, c.loop-from.invariant.1, c.line_held-held.ensures.1), omega (arith, c.loop-from.invariant.2, line, more))

pub returns : goal.returns
returns c =
    let A = c.args in
    let all : c.loop-from.from ≡ sites_most = omega (arith, c.loop-from.invariant.0, c.loop-from-test.false) in
    c.loop-from.invariant.2 ∙ ap (λ (p : ℕ). length (into_below (network_in A.state.now) A.j p)) all
