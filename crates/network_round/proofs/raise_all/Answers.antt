-- `raise_all` asks one site after another: those below i have been.
use mathlib.Core.Path.{◌≡◌, sym, subst, ◌∙◌}
use mathlib.Core.List.{List, ◌∷◌}
use Prim.Native.Nat.{ℕ, ◌+◌, ◌-◌}
use native.Mathlib.Omega.{arith}
use lib.ListN.{length}
use Rattle.lists.specs.Lists.{up_to}
use Rattle.protocol.specs.Round.{walked, one_by_one, epoch_calls, raise_calls}
use Rattle.network_layout.specs.InWords.{network_in}
use Rattle.network_layout.proofs.Performs.{sites_count}
use Rattle.network_hearing.specs.Walked.{Left}
use Rattle.network_hearing.proofs.WalkLaws.{all_left, none_left, numbers_next, numbers_none, each_first, each_then, each_none}
use Rattle.network_round.proofs.RoundLaws.{epoch_walked}
use Rattle.network_round.proofs.raise_all.Goals as goal
use Rattle.network_round.proofs.raise_all.Goals.{At-loop-i, In-loop-i}

pub site_count-sites-requires : goal.site_count-sites-requires
site_count-sites-requires c = c.requires.net.sized

pub loop-i-init : goal.loop-i-init
loop-i-init c =
    let w = c.args.state.now in
    let n = network_in w in
    let to = c.args.to in
    let sites : length n.sites ≡ c.site_count-sites.result - 0 = omega (arith, sites_count w, c.site_count-sites.ensures) in
    subst (λ (k : ℕ). Left (walked n (raise_calls to n)) w (one_by_one (epoch_calls to) n (up_to 0 k))) sites (all_left c.requires)

-- at the loop: the sites from i on, and those behind it
module _ (h : At-loop-i) where
  abbrev sites : ℕ
  sites = h.site_count-sites.result

  abbrev rest : List ℕ
  rest = up_to h.loop-i.i (sites - h.loop-i.i)

  abbrev later : List ℕ
  later = up_to (h.loop-i.i + 1) (sites - (h.loop-i.i + 1))

next : (turn : In-loop-i) → rest turn.before ≡ turn.loop-i.i ∷ later turn.before
next turn = numbers_next turn.loop-i.i (sites turn.before) turn.loop-i-test.true

pub epoch_on-requires : goal.epoch_on-requires
epoch_on-requires c = c.loop-i.invariant.walking.net

pub loop-i-preserved : goal.loop-i-preserved
loop-i-preserved c =
    let to = c.args.to in
    let one = epoch_walked c.loop-i.i to (each_first (epoch_calls to) (rest (goal.at.loop-i-preserved c).At-loop-i) c.loop-i.invariant c.loop-i.i (later (goal.at.loop-i-preserved c).At-loop-i) (next (goal.at.loop-i-preserved c).In-loop-i)) c.epoch_on.ensures (c.epoch_on.auto.state ∙ c.loop-i.invariant.walking.net.sized) in
    each_then (epoch_calls to) (rest (goal.at.loop-i-preserved c).At-loop-i) c.loop-i.invariant c.loop-i.i (later (goal.at.loop-i-preserved c).At-loop-i) (next (goal.at.loop-i-preserved c).In-loop-i) c.epoch_on.new.state one

pub shape_of-state : goal.shape_of-state
shape_of-state c =
    c.loop-i.invariant.walking.net.sized ∙ sym c.requires.net.sized

pub returns : goal.returns
returns c =
    none_left (each_none (epoch_calls c.args.to) (rest (goal.at.returns c).At-loop-i) (numbers_none c.loop-i.i (sites (goal.at.returns c).At-loop-i) c.loop-i-test.false) c.loop-i.invariant)
