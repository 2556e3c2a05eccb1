-- `clear_lines` clears one line after another: the first k hold nothing.
use mathlib.Core.Path.{◌≡◌, subst, ◌∙◌}
use Prim.Native.Nat.{ℕ, ◌-◌}
use native.Mathlib.Omega.{arith}
use Rattle.protocol.specs.Network.{lines_most}
use Rattle.network_new_lines.specs.Cleared.{Cleared}
use Rattle.network_new_lines.proofs.ClearWords.{none_cleared}
use Rattle.network_new_lines.proofs.clear_lines.Goals as goal

pub loop-k-init : goal.loop-k-init
loop-k-init c = none_cleared c.args.w.now

pub clear_one-requires : goal.clear_one-requires
clear_one-requires c =
    record { sized = c.loop-k.auto.w ∙ c.requires; room = omega arith; so_far = c.loop-k.invariant }

pub loop-k-preserved : goal.loop-k-preserved
loop-k-preserved c =
    c.clear_one.ensures

pub returns : goal.returns
returns c =
    let all : c.loop-k.k ≡ lines_most = omega arith in
    subst (λ (k : ℕ). Cleared c.loop-k.w k) all c.loop-k.invariant
