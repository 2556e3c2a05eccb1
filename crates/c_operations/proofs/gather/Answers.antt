-- `gather` adds one operation after another: what is gathered is that of the first i.
use mathlib.Core.Path.{◌≡◌, sym, ap, subst, ◌∙◌}
use mathlib.Core.List.{List, [], ◌∷◌, ◌++◌, map, map-append}
use Prim.Native.Nat.{ℕ, ◌+◌, ◌-◌}
use native.Mathlib.Omega.{arith}
use native.Mathlib.Numerals.{add-one}
use lib.ListN.{length, take, get_or}
use lib.Seq.{take-suc, take-length}
use Rattle.network_layout.specs.declared.Operation.{Operation}
use Rattle.network_operations.specs.Gathered.{gathered_most, Gathers}
use Rattle.c_operations.specs.Operations.{operation_of}
use Rattle.c_operations.proofs.gather.Goals as goal

pub loop-i-init : goal.loop-i-init
loop-i-init c = (omega arith, c.empty-gathered.ensures)

pub loop-i-preserved : goal.loop-i-preserved
loop-i-preserved c =
    let l = c.loop-i in
    let ws = c.args.operations.now in
    let next : map operation_of (take l.i ws) ++ (c.operation.result ∷ []) ≡ map operation_of (take (l.i + 1) ws)
    = ap (λ (o : Operation). map operation_of (take l.i ws) ++ (o ∷ [])) c.operation.ensures
    ∙ sym (map-append operation_of (take l.i ws) (get_or ws l.i [] ∷ []))
    ∙ ap (λ (xs : List (List ℕ)). map operation_of xs) (sym (take-suc ws l.i [] (omega arith)) ∙ ap (λ (n : ℕ). take n ws) (sym (add-one l.i))) in
    (omega arith, subst (λ (os : List Operation). Gathers (take gathered_most os) c.added-gathered.result) next (c.added-gathered.ensures (map operation_of (take l.i ws)) l.invariant.1))

pub returns : goal.returns
returns c =
    let l = c.loop-i in
    let ws = c.args.operations.now in
    let all : take l.i ws ≡ ws = ap (λ (n : ℕ). take n ws) (let e : l.i ≡ length ws = omega arith in e) ∙ take-length ws in
    subst (λ (os : List (List ℕ)). Gathers (take gathered_most (map operation_of os)) l.gathered) all l.invariant.1
