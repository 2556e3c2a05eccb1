-- `lacks_from` asks the mask, and then the line.
use mathlib.Core.Path.{sym, ap, ◌∙◌}
use mathlib.Core.Bool.{Bool, ◌&&◌}
use Prim.Native.Nat.{ℕ}
use native.Mathlib.Omega.{arith}
use lib.ListN.{get_or}
use lib.Dec.{eqb}
use borrow.Author.Tests.{not-true, not-false}
use Rattle.lines.specs.Lines.{no_line}
use Rattle.protocol.specs.Network.{line_at}
use Rattle.network_layout.specs.InWords.{network_in}
use Rattle.network_layout.specs.At.{AtLine}
use Rattle.network_layout.proofs.OnNetwork.{few_on, at_line}
use Rattle.network_schedule_causes.proofs.CauseLaws.{parent_bit}
use borrow.Author.Rules.{rules}
use Rattle.network_schedule_causes.proofs.lacks_from.Goals as goal

pub returns-then-not-bit : goal.returns-then-not-bit
returns-then-not-bit c =
    let A = c.args in
    let n = network_in A.state.now in
    let bit_is = sym (parent_bit n.items A.j A.mask A.p c.requires.parents c.requires.few) ∙ sym c.bit.ensures ∙ not-true c.bit.result c.if-not-bit.true-raw in
    sym (ap (λ (b : Bool). b && eqb (line_at n A.p A.j).arrived 0) bit_is)

pub line_arrived-requires : goal.line_arrived-requires
line_arrived-requires c =
    let A = c.args in
    let child = c.requires.child in
    let at : AtLine A.state.now c.line_number.result
    = at_line A.state.now child.net A.p A.j c.line_number.result c.line_number.ensures c.requires.few (omega (arith, child.there, few_on A.state.now child.net)) in
    search rules

pub returns : goal.returns
returns c =
    let A = c.args in
    let n = network_in A.state.now in
    let bit_is = sym (parent_bit n.items A.j A.mask A.p c.requires.parents c.requires.few) ∙ sym c.bit.ensures ∙ not-false c.bit.result c.if-not-bit.false-raw in
    ap (λ (m : ℕ). eqb m 0) (c.line_arrived.ensures ∙ ap (λ (i : ℕ). (get_or n.lines i no_line).arrived) c.line_number.ensures)
    ∙ sym (ap (λ (b : Bool). b && eqb (line_at n A.p A.j).arrived 0) bit_is)
