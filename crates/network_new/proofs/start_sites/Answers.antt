-- `start_sites` lays one site after another: the first i are at their start.
use mathlib.Core.Path.{◌≡◌, subst, ◌∙◌}
use Prim.Native.Nat.{ℕ, ◌-◌}
use native.Mathlib.Omega.{arith}
use Rattle.network_new.specs.New.{Started}
use Rattle.network_new.proofs.StartWords.{none_started}
use Rattle.network_new.proofs.start_sites.Goals as goal

pub loop-i-init : goal.loop-i-init
loop-i-init c = none_started c.args.w.now

pub start_one-requires : goal.start_one-requires
start_one-requires c =
    record { sized = c.loop-i.auto.w ∙ c.requires.sized; room = omega (arith, c.requires.few); so_far = c.loop-i.invariant }

pub loop-i-preserved : goal.loop-i-preserved
loop-i-preserved c =
    c.start_one.ensures

pub returns : goal.returns
returns c =
    let all : c.loop-i.i ≡ c.args.n = omega arith in
    subst (λ (k : ℕ). Started c.loop-i.w k) all c.loop-i.invariant
