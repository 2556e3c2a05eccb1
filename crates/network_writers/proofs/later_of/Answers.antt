-- `later_of` takes record j where there is no best yet, or where that comes before it.
use mathlib.Core.Path.{◌≡◌, sym, ◌∙◌}
use mathlib.Core.Bool.{Bool, true, false, cond}
use Prim.Native.Nat.{ℕ, ◌≤◌, ◌<◌}
use borrow.Author.Tests.{le-leb, lt-leb}
use Rattle.limits.specs.Limits.{records_most}
use Rattle.protocol.specs.Network.{Network}
use Rattle.network_layout.specs.InWords.{network_in}
use Rattle.network_layout.specs.At.{HasRecord}
use Rattle.network_writers.specs.Writers.{comes_before, later_of}
use borrow.Author.Rules.{rules}
use Rattle.network_writers.proofs.later_of.Goals as goal
use Rattle.network_writers.proofs.later_of.Goals.{After-precedes}

module _ (n : Network) (b j : ℕ) where
  none_yet : records_most ≤ b → j ≡ later_of n b j
  none_yet high = sym (rw (le-leb records_most b high))

  by_order : b < records_most → (d : Bool) → comes_before n b j ≡ d → cond d j b ≡ later_of n b j
  by_order low d e = sym (rw (lt-leb records_most b low, e))

pub returns-then-best-ge-RECORDS_WIDE : goal.returns-then-best-ge-RECORDS_WIDE
returns-then-best-ge-RECORDS_WIDE c =
    let A = c.args in
    none_yet (network_in A.state.now) A.best A.j c.if-best-ge-RECORDS_WIDE.true

pub precedes-requires : goal.precedes-requires
precedes-requires c =
    let best : HasRecord c.args.state.now c.args.best = c.requires.best c.if-best-ge-RECORDS_WIDE.false in
    search rules

-- the last of the two
last_of_two : (c : After-precedes) (d : Bool) → c.precedes.result ≡ d → let A = c.args in cond d A.j A.best ≡ later_of (network_in A.state.now) A.best A.j
last_of_two c d e =
    let A = c.args in
    by_order (network_in A.state.now) A.best A.j c.if-best-ge-RECORDS_WIDE.false d (sym c.precedes.ensures ∙ e)

pub returns-then-precedes : goal.returns-then-precedes
returns-then-precedes c = last_of_two (goal.at.returns-then-precedes c).After-precedes true c.if-precedes.true

pub returns : goal.returns
returns c = last_of_two (goal.at.returns c).After-precedes false c.if-precedes.false
