-- `by_number` walks over the sites: the first k have their places.
use mathlib.Core.Path.{◌≡◌, refl, sym, ap, ap₂, ◌∙◌}
use mathlib.Core.List.{List}
use mathlib.Core.Logic.{⊎_elim}
use Prim.Native.Nat.{ℕ, suc, ◌+◌, ◌-◌, ◌<◌}
use native.Mathlib.Omega.{arith}
use native.Mathlib.Numerals.{add-one}
use lib.ListN.{length, length-set}
use Rattle.placement_order.proofs.Filled.{filled_from, filled_open, filled_placed, filled_all}
use Rattle.placement_order.proofs.by_number.Goals as goal

pub loop-k-init : goal.loop-k-init
loop-k-init c = (omega arith, c.well_formed.0.1.0.1, omega arith, refl)

next_from : {t u : List ℕ} {m n : ℕ} (k : ℕ) → t ≡ u → m ≡ n → filled_from (suc k) t m ≡ filled_from (k + 1) u n
next_from {u = u} {n = n} k e f = ap₂ (filled_from (suc k)) e f ∙ ap (λ (j : ℕ). filled_from j u n) (sym (add-one k))

pub returns : goal.returns
returns c =
    sym (c.loop-k.invariant.3 ∙ filled_all c.loop-k.table c.loop-k.count c.loop-k.k (omega (arith, c.loop-k.invariant.1, c.loop-k-test.false)))
