-- `compare_lists` walks to the first tuples that differ, or to an end: those before i are shared.
use mathlib.Core.Path.{◌≡◌, sym, ap₂, subst, ◌∙◌}
use mathlib.Core.Bool.{Bool}
use mathlib.Core.List.{List}
use Prim.Native.Nat.{ℕ, ◌<◌}
use native.Mathlib.Omega.{arith}
use native.Mathlib.Numerals.{add-one}
use lib.ListN.{length, get_or}
use Rattle.timestamp_order.specs.declared.Order.{Order}
use Rattle.timestamp_order.specs.declared.Order.TheVariants.{Earlier, Equal}
use Rattle.timestamp_order.specs.declared.Parting.TheVariants.{After}
use Rattle.timestamp_order.specs.Timestamp.{no_pair}
use Rattle.timestamp_order.specs.Order.{rank, pair_order}
use Rattle.timestamp_order.specs.Parting.{same_pair, Compares}
use Rattle.timestamp_order.proofs.PartingLaws.{goes_on, they_differ, first_ends, second_ends, both_end}
use Rattle.timestamp_words.specs.InWords.{stamp_in, tuple_in}
use Rattle.timestamp_words.proofs.Shaped.{tuple_law}
use Rattle.timestamp_comparison.proofs.compare_lists.Goals as goal

-- what the test of the two tuples at i said
met : (a b : List ℕ) (i : ℕ) (r : Bool) → i < length (stamp_in a).tuples → i < length (stamp_in b).tuples → r ≡ same_pair (tuple_in a i) (tuple_in b i) → same_pair (get_or (stamp_in a).tuples i no_pair) (get_or (stamp_in b).tuples i no_pair) ≡ r
met a b i r in_a in_b is = ap₂ {C = Bool} same_pair (tuple_law a i in_a) (tuple_law b i in_b) ∙ sym is

pub returns-then-m-i : goal.returns-then-m-i
returns-then-m-i c =
    let A = c.args in
    second_ends (rank A.places) (stamp_in A.a.now) (stamp_in A.b.now) c.requires c.loop-i.i c.loop-i.invariant.1 (omega (arith, c.size_in-n.ensures.0, c.loop-i-test.true)) (omega (arith, c.size_in-m.ensures.0, c.if-m-i.true))

pub returns-then-not-same_at : goal.returns-then-not-same_at
returns-then-not-same_at c =
    let A = c.args in
    let place = rank A.places in
    let i = c.loop-i.i in
    let in_a : i < length (stamp_in A.a.now).tuples = omega (arith, c.size_in-n.ensures.0, c.loop-i-test.true) in
    let in_b : i < length (stamp_in A.b.now).tuples = omega (arith, c.size_in-m.ensures.0, c.if-m-i.false) in
    they_differ place (stamp_in A.a.now) (stamp_in A.b.now) c.requires i c.loop-i.invariant.1 in_a in_b
    (met A.a.now A.b.now i c.same_at.result in_a in_b c.same_at.ensures ∙ c.if-not-same_at.true)
    c.order_at.result
    (c.order_at.ensures ∙ sym (ap₂ {C = Order} (pair_order place) (tuple_law A.a.now i in_a) (tuple_law A.b.now i in_b)))

pub loop-i-preserved : goal.loop-i-preserved
loop-i-preserved c =
    let A = c.args in
    let i = c.loop-i.i in
    let in_a : i < length (stamp_in A.a.now).tuples = omega (arith, c.size_in-n.ensures.0, c.loop-i-test.true) in
    let in_b : i < length (stamp_in A.b.now).tuples = omega (arith, c.size_in-m.ensures.0, c.if-m-i.false) in (
      omega (arith, c.loop-i-test.true),
      rw add-one
          (goes_on (rank A.places) (stamp_in A.a.now) (stamp_in A.b.now) c.requires i c.loop-i.invariant.1 in_a in_b
          (met A.a.now A.b.now i c.same_at.result in_a in_b c.same_at.ensures ∙ c.if-not-same_at.false)),
    )

pub returns-then-n-m : goal.returns-then-n-m
returns-then-n-m c =
    let A = c.args in
    let all : c.loop-i.i ≡ c.size_in-n.result = omega (arith, c.loop-i.invariant.0, c.loop-i-test.false) in
    subst (λ (k : ℕ). Compares (rank A.places) (stamp_in A.a.now) (stamp_in A.b.now) (record { order = Earlier; parting = After k })) all
    (first_ends (rank A.places) (stamp_in A.a.now) (stamp_in A.b.now) c.requires c.loop-i.i c.loop-i.invariant.1 (omega (arith, c.size_in-n.ensures.0, c.loop-i-test.false)) (omega (arith, c.size_in-m.ensures.0, all, c.if-n-m.true)))

pub returns : goal.returns
returns c =
    let A = c.args in
    let all : c.loop-i.i ≡ c.size_in-n.result = omega (arith, c.loop-i.invariant.0, c.loop-i-test.false) in
    subst (λ (k : ℕ). Compares (rank A.places) (stamp_in A.a.now) (stamp_in A.b.now) (record { order = Equal; parting = After k })) all
    (both_end (rank A.places) (stamp_in A.a.now) (stamp_in A.b.now) c.requires c.loop-i.i c.loop-i.invariant.1 (omega (arith, c.size_in-n.ensures.0, c.loop-i-test.false)) (omega (arith, c.size_in-m.ensures.0, all, c.if-n-m.false)))
