-- `chosen` goes over the sites: `best` is the best of the parents below p.
use mathlib.Core.Path.{◌≡◌, ap, ◌∙◌}
use Prim.Native.Nat.{◌-◌}
use native.Mathlib.Omega.{arith}
use Rattle.timestamp.proofs.Plain.{plain_as}
use Rattle.limits.specs.Limits.{sites_most}
use Rattle.protocol.specs.Steps.{earliest}
use Rattle.network_layout.specs.InWords.{network_in}
use Rattle.network_layout.specs.At.{AtState}
use Rattle.network_layout.proofs.OnNetwork.{at_state}
use Rattle.network_choice.proofs.ChoiceLaws.{best_none, earliest_line}
use borrow.Author.Rules.{rules}
use Rattle.network_choice.proofs.chosen.Goals as goal

pub parents-mask-requires : goal.parents-mask-requires
parents-mask-requires c =
    let w = c.args.state.now in
    let at : AtState w = at_state w c.requires.net in
    search rules

pub places-places-requires : goal.places-places-requires
places-places-requires c =
    let w = c.args.state.now in
    let at : AtState w = at_state w c.requires.net in
    search rules

pub loop-p-init : goal.loop-p-init
loop-p-init c =
    let A = c.args in
    (omega arith, best_none (network_in A.state.now) A.j)

pub better-best-requires : goal.better-best-requires
better-best-requires c =
    record {
      free = c.requires;
      few = omega arith;
      parents = c.parents-mask.ensures;
      best = c.loop-p.invariant.1;
      places_are = c.places-places.ensures;
    }

pub loop-p-preserved : goal.loop-p-preserved
loop-p-preserved c = (omega arith, c.better-best.ensures)

-- of all parents the best
pub head_words-requires : goal.head_words-requires
head_words-requires c =
    let A = c.args in
    let n = network_in A.state.now in
    let all : c.loop-p.p ≡ sites_most = omega (arith, c.loop-p-test.false, c.loop-p.invariant.0) in
    let best : c.loop-p.best ≡ earliest n A.j sites_most = c.loop-p.invariant.1.is ∙ ap (earliest n A.j) all in
    record { free = c.requires; line = earliest_line A.state.now A.j c.requires c.loop-p.best best }

pub returns : goal.returns
returns c =
    let A = c.args in
    let n = network_in A.state.now in
    let all : c.loop-p.p ≡ sites_most = omega (arith, c.loop-p-test.false, c.loop-p.invariant.0) in
    let best : c.loop-p.best ≡ earliest n A.j sites_most = c.loop-p.invariant.1.is ∙ ap (earliest n A.j) all in
    record { is = best; stamped = λ _. plain_as c.head_words.ensures c.from_words.ensures }
