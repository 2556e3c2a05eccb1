-- `deliver_all` delivers one line after another: those from the sites below p have been.
use mathlib.Core.Path.{◌≡◌, sym, ◌∙◌}
use mathlib.Core.List.{List, ◌∷◌}
use Prim.Native.Nat.{ℕ, ◌+◌, ◌-◌}
use Rattle.limits.specs.Limits.{sites_most}
use Rattle.lists.specs.Lists.{up_to}
use Rattle.protocol.specs.Round.{line_calls, deliver_calls}
use Rattle.network_hearing.proofs.WalkLaws.{all_left, none_left, numbers_next, numbers_none, each_first, each_then, each_none}
use Rattle.network_hearing.proofs.deliver_all.Goals as goal
use Rattle.network_hearing.proofs.deliver_all.Goals.{At-loop-p, In-loop-p}

pub loop-p-init : goal.loop-p-init
unfolding deliver_calls
loop-p-init c = all_left c.requires.walking

-- the sites from p on, and those behind it
module _ (h : At-loop-p) where
  abbrev rest : List ℕ
  rest = up_to h.loop-p.p (sites_most - h.loop-p.p)

  abbrev later : List ℕ
  later = up_to (h.loop-p.p + 1) (sites_most - (h.loop-p.p + 1))

next : (turn : In-loop-p) → rest turn.before ≡ turn.loop-p.p ∷ later turn.before
next turn = numbers_next turn.loop-p.p sites_most turn.loop-p-test.true

pub deliver_line-requires : goal.deliver_line-requires
deliver_line-requires c =
    record {
      hearing = record { walking = each_first (line_calls c.args.j) (rest (goal.at.deliver_line-requires c).At-loop-p) c.loop-p.invariant c.loop-p.p (later (goal.at.deliver_line-requires c).At-loop-p) (next (goal.at.deliver_line-requires c).In-loop-p); few = c.requires.few };
      from = c.loop-p-test.true;
    }

pub loop-p-preserved : goal.loop-p-preserved
loop-p-preserved c =
    each_then (line_calls c.args.j) (rest (goal.at.loop-p-preserved c).At-loop-p) c.loop-p.invariant c.loop-p.p (later (goal.at.loop-p-preserved c).At-loop-p) (next (goal.at.loop-p-preserved c).In-loop-p) c.deliver_line.new.state c.deliver_line.ensures

pub shape_of-state : goal.shape_of-state
shape_of-state c =
    c.loop-p.invariant.walking.net.sized ∙ sym c.requires.walking.net.sized

pub returns : goal.returns
returns c =
    none_left (each_none (line_calls c.args.j) (rest (goal.at.returns c).At-loop-p) (numbers_none c.loop-p.p sites_most c.loop-p-test.false) c.loop-p.invariant)
