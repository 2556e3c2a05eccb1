-- `next_used` leaves at the first line that is not idle.
use mathlib.Core.Path.{◌≡◌, sym, ap, ◌∙◌}
use mathlib.Core.Bool.{true}
use Prim.Native.Nat.{◌*◌, ◌-◌}
use borrow.Author.Tests.{not-false}
use Rattle.words.specs.Words.{part}
use Rattle.lines.specs.InWords.{line_size}
use Rattle.network_shape.specs.Tested.{idle}
use Rattle.network_shape.proofs.ShapeLaws.{skip_none, skip_one}
use Rattle.network_shape.proofs.next_used.Goals as goal

pub loop-i-init : goal.loop-i-init
loop-i-init c = skip_none c.args.w.now c.args.k c.requires.few

pub returns-then-not-is_idle : goal.returns-then-not-is_idle
returns-then-not-is_idle c = c.loop-i.invariant

pub loop-i-preserved : goal.loop-i-preserved
loop-i-preserved c =
    let A = c.args in
    let l = c.loop-i in
    let here : idle (part A.w.now (l.i * line_size) line_size) ≡ true = sym (c.is_idle.ensures ∙ ap idle c.chunk.ensures) ∙ not-false _ c.if-not-is_idle.false-raw in
    skip_one A.w.now A.k l.i l.invariant c.loop-i-test.true here

pub returns : goal.returns
returns c = c.loop-i.invariant
