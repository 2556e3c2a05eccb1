-- `tuples` prints tuple after tuple: the first i are printed.
use mathlib.Core.Path.{◌≡◌, refl, ap, ◌∙◌}
use mathlib.Core.List.{◌∷◌, ◌++◌}
use Prim.Native.Nat.{ℕ, ◌+◌}
use native.Mathlib.Omega.{arith}
use lib.ListN.{take}
use lib.Seq.{take_all}
use Rattle.timestamp_order.specs.Timestamp.{Pair}
use Rattle.timestamp.specs.Value.{stamp_of, pair_of}
use Rattle.script_notation.specs.Print.{tuple_text, tuples_text}
use Rattle.script_notation.proofs.Putting.{separator_of, put_none, put_then, put_as, put_end, tuples_next}
use Rattle.script_printing.proofs.tuples.Goals as goal

pub loop-i-init : goal.loop-i-init
unfolding tuples_text
loop-i-init c = (omega arith, refl, put_none c.args.out.now c.args.at)

pub tuple-end-requires : goal.tuple-end-requires
tuple-end-requires c = omega (arith, put_end c.loop-i.invariant.2, c.size-n.ensures.1, c.loop-i.invariant.1)

pub overflow_add-i : goal.overflow_add-i
overflow_add-i c = omega arith

pub loop-i-smaller : goal.loop-i-smaller
loop-i-smaller c = omega arith

pub loop-i-preserved : goal.loop-i-preserved
loop-i-preserved c =
    let A = c.args in
    let l = c.loop-i in
    let ts = (stamp_of A.t).tuples in
    let short = c.size-n.ensures.1 in
    let text : tuples_text 32 (take l.i ts) ++ (c.separator.result ∷ tuple_text (pair_of c.tuple-x.result)) ≡ tuples_text 32 (take (l.i + 1) ts)
    = ap (λ (b : ℕ). tuples_text 32 (take l.i ts) ++ (b ∷ tuple_text (pair_of c.tuple-x.result))) c.separator.ensures
    ∙ ap (λ (p : Pair). tuples_text 32 (take l.i ts) ++ (separator_of l.i ∷ tuple_text p)) c.tuple-x.ensures
    ∙ tuples_next ts l.i (omega (arith, c.size-n.ensures.0)) in
    (omega arith, c.tuple-end.auto.out ∙ l.invariant.1, put_as (omega arith) text (put_then (omega arith) l.invariant.2 c.tuple-end.ensures))

pub shape_of-out : goal.shape_of-out
shape_of-out c = c.loop-i.invariant.1

pub returns : goal.returns
returns c = let ts = (stamp_of c.args.t).tuples in put_as (omega (arith, c.size-n.ensures.1)) (ap (tuples_text 32) (take_all c.loop-i.i ts (omega (arith, c.size-n.ensures.0)))) c.loop-i.invariant.2
