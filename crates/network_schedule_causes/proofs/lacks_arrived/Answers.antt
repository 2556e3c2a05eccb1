-- `lacks_arrived` asks each site in turn: none below p is a parent whose line lacks an arrived message.
use mathlib.Core.Path.{◌≡◌, refl, sym, ap, ◌∙◌}
use mathlib.Core.Bool.{false}
use Prim.Native.Nat.{◌-◌}
use native.Mathlib.Omega.{arith}
use Rattle.limits.specs.Limits.{sites_most}
use Rattle.lists.specs.Lists.{some_below}
use Rattle.protocol.specs.Steps.{lacks_arrived}
use Rattle.network_layout.specs.InWords.{network_in}
use Rattle.network_layout.specs.At.{AtState}
use Rattle.network_layout.proofs.OnNetwork.{at_state}
use Rattle.lists.proofs.Some.{some_below_at, some_below_next}
use borrow.Author.Rules.{rules}
use Rattle.network_schedule_causes.proofs.lacks_arrived.Goals as goal

pub parents-mask-requires : goal.parents-mask-requires
parents-mask-requires c =
    let w = c.args.state.now in
    let at : AtState w = at_state w c.requires.net in
    search rules

pub loop-p-init : goal.loop-p-init
loop-p-init c = (omega arith, refl)

pub lacks_from-requires : goal.lacks_from-requires
lacks_from-requires c =
    record { child = c.requires; few = omega arith; parents = c.parents-mask.ensures }

pub returns-then-lacks_from : goal.returns-then-lacks_from
returns-then-lacks_from c =
    let A = c.args in
    sym (some_below_at (lacks_arrived (network_in A.state.now) A.j) sites_most c.loop-p.p (omega arith) (sym c.lacks_from.ensures ∙ c.if-lacks_from.true))

pub loop-p-preserved : goal.loop-p-preserved
loop-p-preserved c =
    let A = c.args in
    (omega arith, some_below_next (lacks_arrived (network_in A.state.now) A.j) c.loop-p.p c.loop-p.invariant.1 (sym c.lacks_from.ensures ∙ c.if-lacks_from.false))

pub returns : goal.returns
returns c =
    let A = c.args in
    let all : sites_most ≡ c.loop-p.p = omega arith in
    sym (ap (some_below (lacks_arrived (network_in A.state.now) A.j)) all ∙ c.loop-p.invariant.1)
