-- `rising` leaves at the first place that does not rise: up to i - 1 the list is passed, and `last` is the place there.
use mathlib.Core.Path.{◌≡◌, refl, sym, ap, ◌∙◌}
use mathlib.Core.List.{List}
use Prim.Native.Nat.{ℕ, suc, ◌+◌, ◌*◌, ◌<◌, ◌-◌}
use native.Mathlib.Omega.{arith}
use lib.ListN.{length, get_or, drop}
use Rattle.timestamp_order.specs.Timestamp.{Pair, no_pair}
use Rattle.timestamp_order.specs.Order.{rank}
use Rattle.timestamp_order.specs.Made.{rising as risingOf}
use Rattle.timestamp_order.proofs.Made.{rise_stops, rise_goes_on, rise_ends}
use Rattle.history_file.specs.Bytes.{unit_size}
use Rattle.history_file.proofs.Units.{pairs_of, pairs_length, pair_site}
use Rattle.history_tuple_validity.proofs.rising.Invariants.{Inside}
use Rattle.history_tuple_validity.proofs.rising.Goals as goal

-- the places of the sites of the tuples
place_of : (b places : List ℕ) (n k at : ℕ) → k < n → at ≡ k * unit_size → rank places (get_or (pairs_of b n) k no_pair).site ≡ rank places (get_or b at 0)
place_of b places n k at l e = ap {B = ℕ} (rank places) (pair_site b n k at l e)

-- the two places that a turn looks at
record Turn (b places : List ℕ) (n i last next : ℕ) : Type 0 where
  inside : suc (i - 1) < length (pairs_of b n)
  first : rank places (get_or (pairs_of b n) (i - 1) no_pair).site ≡ last
  second : rank places (get_or (pairs_of b n) (suc (i - 1)) no_pair).site ≡ next

turn : (b places : List ℕ) (n i last next : ℕ) → Inside b places n last i → i < n → next ≡ rank places (get_or b (i * 8) 0) → Turn b places n i last next
turn b places n i last next inside l read =
    let some = inside.some in
    record {
      inside = omega (arith, pairs_length b n);
      first = place_of b places n (i - 1) ((i - 1) * unit_size) (omega arith) refl ∙ sym inside.last_is;
      second = place_of b places n (suc (i - 1)) (i * 8) (omega arith) (omega arith) ∙ sym read;
    }

pub loop-i-init : goal.loop-i-init
loop-i-init c = record { some = omega arith; last_is = c.place_at-last.ensures; so_far = refl }

pub returns-then-next-last : goal.returns-then-next-last
returns-then-next-last c =
    let A = c.args in
    let i = c.loop-i.i in
    let t = turn A.b.now A.places A.n i c.loop-i.last c.place_at-next.result c.loop-i.invariant c.loop-i-test.true c.place_at-next.ensures in
    sym (rise_stops (rank A.places) (pairs_of A.b.now A.n) (i - 1) c.loop-i.invariant.so_far t.inside (omega (arith, t.first, t.second, c.if-next-last.true)))

pub loop-i-preserved : goal.loop-i-preserved
loop-i-preserved c =
    let A = c.args in
    let i = c.loop-i.i in
    let place = rank A.places in
    let pairs = pairs_of A.b.now A.n in
    let t = turn A.b.now A.places A.n i c.loop-i.last c.place_at-next.result c.loop-i.invariant c.loop-i-test.true c.place_at-next.ensures in
    let some = c.loop-i.invariant.some in
    let back : i * 8 ≡ (i + 1 - 1) * unit_size = omega arith in
    let e : suc (i - 1) ≡ i + 1 - 1 = omega arith in
    record {
      some = omega arith;
      last_is = c.place_at-next.ensures ∙ ap (λ (k : ℕ). place (get_or A.b.now k 0)) back;
      so_far = rise_goes_on place pairs (i - 1) c.loop-i.invariant.so_far t.inside (omega (arith, t.first, t.second, c.if-next-last.false)) ∙ ap (λ (k : ℕ). risingOf place (drop k pairs)) e;
    }

pub returns : goal.returns
returns c =
    let A = c.args in
    sym (rise_ends (rank A.places) (pairs_of A.b.now A.n) (c.loop-i.i - 1) c.loop-i.invariant.so_far (omega (arith, pairs_length A.b.now A.n, c.loop-i-test.false)))
