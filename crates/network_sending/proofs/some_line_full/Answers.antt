-- `some_line_full` leaves at the first full line: none below c is.
use mathlib.Core.Path.{refl, sym, ◌∙◌}
use mathlib.Core.Bool.{false, ◌&&◌}
use Prim.Native.Nat.{◌-◌}
use native.Mathlib.Omega.{arith}
use lib.ListN.{length}
use lib.Dec.{leb}
use Rattle.placement.specs.Masks.{bit}
use Rattle.limits.specs.Limits.{sites_most, held_most}
use Rattle.protocol.specs.Network.{line_at}
use Rattle.network_layout.specs.InWords.{network_in}
use Rattle.lists.proofs.Some.{some_below_at, some_below_next, some_below_all}
use Rattle.network_sending.proofs.some_line_full.Goals as goal

pub loop-c-init : goal.loop-c-init
loop-c-init c = refl

pub returns-then-line_full : goal.returns-then-line_full
returns-then-line_full c =
    let A = c.args in
    sym (some_below_at (λ k. bit A.mask k && leb held_most (length (line_at (network_in A.state.now) A.i k).messages)) sites_most c.loop-c.c c.loop-c-test.true (sym c.line_full.ensures ∙ c.if-line_full.true))

pub loop-c-preserved : goal.loop-c-preserved
loop-c-preserved c =
    let A = c.args in
    some_below_next (λ k. bit A.mask k && leb held_most (length (line_at (network_in A.state.now) A.i k).messages)) c.loop-c.c c.loop-c.invariant (sym c.line_full.ensures ∙ c.if-line_full.false)

pub returns : goal.returns
returns c =
    let A = c.args in
    some_below_all (λ k. bit A.mask k && leb held_most (length (line_at (network_in A.state.now) A.i k).messages)) c.loop-c.c sites_most (omega arith) (omega arith) c.loop-c.invariant
