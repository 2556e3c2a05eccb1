-- `is_folded` reads the first word of the base.
use mathlib.Core.Path.{sym, ap}
use mathlib.Core.Bool.{not}
use Prim.Native.Nat.{ℕ}
use native.Mathlib.Omega.{arith}
use lib.Dec.{eqb}
use Rattle.words.proofs.Parts.{part_get_d}
use Rattle.network_layout.specs.Layout.{base_at, base_size}
use Rattle.network_layout.specs.InWords.{network_in}
use Rattle.network_records.proofs.is_folded.Goals as goal

pub returns : goal.returns
unfolding network_in
returns c = ap (λ (flag : ℕ). not (eqb flag 0)) (sym (part_get_d c.args.state.now base_at base_size 0 (omega arith)))
