-- `schedule_all` schedules as long as any schedule is left.
use mathlib.Core.Path.{◌≡◌, sym, subst, ◌∙◌}
use Prim.Native.Nat.{ℕ}
use native.Mathlib.Omega.{arith}
use Rattle.protocol.specs.Round.{walked, schedule_calls, schedule_all}
use Rattle.network_layout.specs.InWords.{network_in}
use Rattle.network_hearing.specs.Walked.{Left}
use Rattle.network_hearing.proofs.WalkLaws.{all_left, none_left, left_on}
use Rattle.network_hearing.proofs.schedule_all.Goals as goal

pub held_into-left-requires : goal.held_into-left-requires
held_into-left-requires c = record { sized = c.requires.walking.net.sized; few = c.requires.few }

pub loop-left-init : goal.loop-left-init
loop-left-init c =
    let w = c.args.state.now in
    let n = network_in w in
    let j = c.args.j in
    subst (λ (k : ℕ). Left (walked n (schedule_all n j)) w (schedule_calls k n j)) (sym c.held_into-left.ensures) (all_left c.requires.walking)

pub schedule_once-left-requires : goal.schedule_once-left-requires
schedule_once-left-requires c =
    record { walking = c.loop-left.invariant.walking; some = c.loop-left-test.true }

pub loop-left-smaller : goal.loop-left-smaller
loop-left-smaller c = c.schedule_once-left.ensures.fewer

pub loop-left-preserved : goal.loop-left-preserved
loop-left-preserved c =
    left_on c.loop-left.invariant c.schedule_once-left.ensures.rest

pub shape_of-state : goal.shape_of-state
shape_of-state c =
    c.loop-left.invariant.walking.net.sized ∙ sym c.requires.walking.net.sized

pub returns : goal.returns
unfolding schedule_calls
returns c =
    let A = c.args in
    let n = network_in A.state.now in
    let none : c.loop-left.left ≡ 0 = omega (arith, c.loop-left-test.false) in
    none_left (subst (λ (k : ℕ). Left (walked n (schedule_all n A.j)) c.loop-left.state (schedule_calls k (network_in c.loop-left.state) A.j)) none c.loop-left.invariant)
