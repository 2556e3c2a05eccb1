-- `lines` goes from newline to newline: all before the present line is answered. What is left of the block falls.
use mathlib.Core.Path.{refl, sym, ◌∙◌}
use Rattle.console_lines.proofs.Steps.{walked_none, walked_next, walked_ends}
use Rattle.console_lines.proofs.lines.Goals as goal

pub loop-from-init : goal.loop-from-init
loop-from-init c = (walked_none, c.line_end-end.ensures, refl, c.requires)

pub loop-from-preserved : goal.loop-from-preserved
loop-from-preserved c =
    let L = c.loop-from in
    let q = c.collect-reply in
    let n = c.line_behind-next in
    let test = sym c.goes_on.ensures ∙ c.loop-from-test.true in
    (walked_next L.invariant.0 L.invariant.1 L.invariant.2 n.ensures.from_is test q.ensures.effect, n.ensures.end_is, q.auto.out ∙ L.invariant.2, q.ensures.formed_is)

pub returns : goal.returns
returns c =
    let L = c.loop-from in
    walked_ends L.invariant.0 L.invariant.1 L.invariant.2 L.invariant.3 (sym c.goes_on.ensures ∙ c.loop-from-test.false)
