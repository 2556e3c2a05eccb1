-- `deliver_line` delivers as often as there are messages on the way.
use mathlib.Core.Path.{◌≡◌, sym, ap, ap₂, subst, ◌∙◌}
use mathlib.Core.List.{List}
use Prim.Native.Nat.{ℕ, ◌-◌, ◌<◌}
use native.Mathlib.Omega.{arith}
use lib.ListN.{length, get_or, replicate}
use Rattle.lines.specs.Lines.{no_line}
use Rattle.protocol.specs.Network.{line_number}
use Rattle.protocol.specs.Calls.{deliver}
use Rattle.protocol.proofs.WellShaped.{Shape, shape_parts}
use Rattle.protocol.specs.Round.{walked, line_calls}
use Rattle.network_layout.specs.InWords.{network_in}
use Rattle.network_layout.specs.At.{HasLine}
use Rattle.network_layout.proofs.Performs.{lines_count}
use Rattle.network_layout.proofs.OnNetwork.{well_on}
use Rattle.network_hearing.specs.Walked.{Left}
use Rattle.network_hearing.proofs.WalkLaws.{step_walked, all_left, none_left, again_first, again_then}
use Rattle.network_hearing.proofs.HearingLaws.{line_calls_lem}
use Rattle.network_hearing.proofs.deliver_line.Goals as goal

pub line_held-requires : goal.line_held-requires
line_held-requires c =
    let w : List ℕ = c.args.state.now in
    let line_of : HasLine w c.line_number-k.result = record { sized = c.requires.hearing.walking.net.sized; few = omega (arith, c.line_number-k.ensures, c.requires.from, c.requires.hearing.few) } in
    line_of

pub line_arrived-requires : goal.line_arrived-requires
line_arrived-requires c =
    let w : List ℕ = c.args.state.now in
    let line_of : HasLine w c.line_number-k.result = record { sized = c.requires.hearing.walking.net.sized; few = omega (arith, c.line_number-k.ensures, c.requires.from, c.requires.hearing.few) } in
    line_of

pub overflow_sub-left : goal.overflow_sub-left
overflow_sub-left c =
    let w : List ℕ = c.args.state.now in
    let line_of : HasLine w c.line_number-k.result = record { sized = c.requires.hearing.walking.net.sized; few = omega (arith, c.line_number-k.ensures, c.requires.from, c.requires.hearing.few) } in
    let shape : Shape (network_in w) = shape_parts (network_in w) (well_on w c.requires.hearing.walking.net) in
    omega (arith, c.line_held.ensures.0, c.line_arrived.ensures, (shape.lined c.line_number-k.result (omega (arith, line_of.few, lines_count w))).held)

pub loop-left-init : goal.loop-left-init
loop-left-init c =
    let w : List ℕ = c.args.state.now in
    let line_of : HasLine w c.line_number-k.result = record { sized = c.requires.hearing.walking.net.sized; few = omega (arith, c.line_number-k.ensures, c.requires.from, c.requires.hearing.few) } in
    let shape : Shape (network_in w) = shape_parts (network_in w) (well_on w c.requires.hearing.walking.net) in
    let p = c.args.p in
    let j = c.args.j in
    let n = network_in w in
    let there : line_number p j < length n.lines = omega (arith, c.line_number-k.ensures, line_of.few, lines_count w) in
    let left = all_left c.requires.hearing.walking in
    let on_way_lem = ap₂ (λ (h a : ℕ). h - a) c.line_held.ensures.0 c.line_arrived.ensures ∙ ap (λ (k : ℕ). length (get_or n.lines k no_line).messages - (get_or n.lines k no_line).arrived) c.line_number-k.ensures in
    subst (Left (walked n (line_calls j n p)) w) (line_calls_lem n shape p j c.requires.from c.requires.hearing.few there ∙ ap (λ (k : ℕ). replicate k (deliver p j)) (sym on_way_lem)) left

pub deliver_on-requires : goal.deliver_on-requires
deliver_on-requires c = c.loop-left.invariant.walking.net

pub loop-left-preserved : goal.loop-left-preserved
loop-left-preserved c =
    let A = c.args in
    let call = deliver A.p A.j in
    let once = again_first call c.loop-left.left c.loop-left-test.true c.loop-left.invariant in
    again_then call c.loop-left.left c.loop-left-test.true c.loop-left.invariant c.deliver_on.new.state (step_walked once c.deliver_on.ensures (c.deliver_on.auto.state ∙ c.loop-left.invariant.walking.net.sized))

pub shape_of-state : goal.shape_of-state
shape_of-state c =
    c.loop-left.invariant.walking.net.sized ∙ sym c.requires.hearing.walking.net.sized

pub returns : goal.returns
returns c =
    let A = c.args in
    let none : c.loop-left.left ≡ 0 = omega (arith, c.loop-left-test.false) in
    none_left (subst (λ (k : ℕ). Left (walked (network_in A.state.now) (line_calls A.j (network_in A.state.now) A.p)) c.loop-left.state (replicate k (deliver A.p A.j))) none c.loop-left.invariant)
