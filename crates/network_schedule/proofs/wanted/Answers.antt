-- `wanted` takes one operation after another: of the first i those that are wanted are laid.
use mathlib.Core.Path.{◌≡◌, refl, subst}
use Prim.Native.Nat.{ℕ, ◌-◌}
use native.Mathlib.Omega.{arith}
use Rattle.words.specs.Words.{chunks}
use Rattle.lists.specs.Lists.{keep}
use Rattle.site_operations.specs.InWords.{ops_in}
use Rattle.network_layout.specs.InWords.{network_in}
use Rattle.protocol.specs.Steps.{wanted_at}
use Rattle.network_schedule.specs.Wanted.{Laid}
use Rattle.network_schedule.proofs.wanted.Goals as goal

pub loop-i-init : goal.loop-i-init
unfolding chunks
loop-i-init c = (omega arith, record { few = omega arith; are = refl })

pub wanted_one-count-requires : goal.wanted_one-count-requires
wanted_one-count-requires c =
    record { sized = c.requires.sized; few = omega (arith, c.requires.few); so_far = c.loop-i.invariant.1 }

pub loop-i-preserved : goal.loop-i-preserved
loop-i-preserved c = (omega arith, c.wanted_one-count.ensures)

pub returns : goal.returns
returns c =
    let A = c.args in
    let all : c.loop-i.i ≡ A.n = omega arith in
    subst (λ (k : ℕ). Laid k c.loop-i.count c.loop-i.out (keep (wanted_at (network_in A.state.now).items A.j) (ops_in k A.ops.now))) all c.loop-i.invariant.1
