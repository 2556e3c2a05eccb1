-- `gather` adds one operation after another.
use mathlib.Core.Path.{sym, ap, subst, ◌∙◌}
use mathlib.Core.List.{List}
use Prim.Native.Nat.{ℕ}
use native.Mathlib.Numerals.{add-one}
use lib.ListN.{take}
use lib.Seq.{take-suc}
use Rattle.network_layout.specs.declared.Operation.{Operation}
use Rattle.network_operations.specs.Gathered.{gathered_most, Gathers}
use Rattle.network_operations.proofs.gather.Goals as goal

pub loop-i-preserved : goal.loop-i-preserved
loop-i-preserved c =
    let os = c.args.operations.now in
    let i = c.loop-i.i in
    subst
    (λ (xs : List Operation). Gathers (take gathered_most xs) c.added-gathered.result)
    (sym (take-suc os i _ c.loop-i-test.true) ∙ ap (λ (n : ℕ). take n os) (sym (add-one i)))
    (c.added-gathered.ensures (take i os) c.loop-i.invariant)
