-- `place` reads the table at the site; past the table it answers the site.
use mathlib.Core.Path.{sym, ap, ◌∙◌}
use Prim.Native.Nat.{ℕ}
use native.Mathlib.Omega.{arith}
use lib.ListN.{get_or}
use Rattle.place_table.proofs.Ranks.{rank_inside, rank_past}
use Rattle.history_table.proofs.place.Goals as goal

pub returns-then-i-b : goal.returns-then-i-b
returns-then-i-b c =
    let A = c.args in
    ap (λ (i : ℕ). get_or A.b.now i 0) c.wide-i.ensures ∙ rank_inside A.b.now A.site (omega (arith, c.wide-i.ensures, c.if-i-b.true))

pub returns : goal.returns
returns c =
    let A = c.args in
    sym (rank_past A.b.now A.site (omega (arith, c.wide-i.ensures, c.if-i-b.false)))
