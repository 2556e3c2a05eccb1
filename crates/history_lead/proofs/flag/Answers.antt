-- `flag` adds the two flags.
use mathlib.Core.Bool.{Bool, true, false, cond}
use Prim.Native.Nat.{ℕ, ◌≤◌}
use native.Mathlib.Omega.{arith}
use lib.Dec.{eqb}
use Rattle.history_lead.proofs.flag.Goals as goal

low : (b : Bool) (k : ℕ) → cond b 0 k ≤ k
low true k = omega arith
low false k = omega arith

pub overflow_add-result : goal.overflow_add-result
overflow_add-result c =
    let lead = c.args.lead in
    omega (arith, c.table_flag.ensures, c.base_flag.ensures, low (eqb lead.table 0) 1, low (eqb lead.values 0) 2)
