-- `rising` leaves at the first place that does not rise: up to i - 1 the list is passed, and `last` is the place there.
use mathlib.Core.Path.{◌≡◌, refl, sym, ap, ◌∙◌}
use mathlib.Core.List.{List}
use Prim.Native.Nat.{ℕ, suc, ◌+◌, ◌≤◌, ◌<◌, ◌-◌}
use native.Mathlib.Omega.{arith}
use lib.ListN.{length, get_or, take, drop}
use Rattle.timestamp_order.specs.Timestamp.{Pair, no_pair, room}
use Rattle.timestamp_order.specs.Order.{rank}
use Rattle.timestamp_words.specs.InWords.{pair_at, pairs_at, pairs_start, pair_place}
use Rattle.timestamp_order.specs.Made.{rising}
use Rattle.timestamp_words.proofs.Shaped.{held_length, held_site}
use Rattle.timestamp_order.proofs.Made.{rise_stops, rise_goes_on, rise_ends}
use Rattle.timestamp_words.proofs.rising.Invariants.{Inside}
use Rattle.timestamp_words.proofs.rising.Goals as goal

-- ---- the tuples, and the places of their sites
abbrev passed : List ℕ → ℕ → List Pair
passed w n = take n (pairs_at w pairs_start room)

-- the two places that a turn looks at
record Turn (w places : List ℕ) (n i last next : ℕ) : Type 0 where
  inside : suc (i - 1) < length (passed w n)
  first : rank places (get_or (passed w n) (i - 1) no_pair).site ≡ last
  second : rank places (get_or (passed w n) (suc (i - 1)) no_pair).site ≡ next

turn : (w places : List ℕ) (n i last next : ℕ) → n ≤ room → Inside w places n last i → i < n → next ≡ rank places (pair_at w (pair_place i)).site → Turn w places n i last next
turn w places n i last next few inside b read =
    let some = inside.some in
    let here : suc (i - 1) ≡ i = omega arith in
    record {
      inside = omega (arith, held_length w n few);
      first = ap {B = ℕ} (rank places) (held_site w n few (i - 1) (omega arith)) ∙ sym inside.last_is;
      second = ap (λ (k : ℕ). rank places (get_or (passed w n) k no_pair).site) here ∙ ap {B = ℕ} (rank places) (held_site w n few i b) ∙ sym read;
    }

pub loop-i-init : goal.loop-i-init
loop-i-init c = record { some = omega arith; last_is = c.place_in-last.ensures; so_far = refl }

pub returns-then-next-last : goal.returns-then-next-last
returns-then-next-last c =
    let A = c.args in
    let i = c.loop-i.i in
    let t = turn A.w.now A.places A.n i c.loop-i.last c.place_in-next.result c.requires c.loop-i.invariant c.loop-i-test.true c.place_in-next.ensures in
    sym (rise_stops (rank A.places) (passed A.w.now A.n) (i - 1) c.loop-i.invariant.so_far t.inside (omega (arith, t.first, t.second, c.if-next-last.true)))

pub loop-i-preserved : goal.loop-i-preserved
loop-i-preserved c =
    let A = c.args in
    let i = c.loop-i.i in
    let t = turn A.w.now A.places A.n i c.loop-i.last c.place_in-next.result c.requires c.loop-i.invariant c.loop-i-test.true c.place_in-next.ensures in
    let some = c.loop-i.invariant.some in
    let back : i ≡ i + 1 - 1 = omega arith in
    let e : suc (i - 1) ≡ i + 1 - 1 = omega arith in
    record {
      some = omega arith;
      last_is = c.place_in-next.ensures ∙ ap (λ (k : ℕ). rank A.places (pair_at A.w.now (pair_place k)).site) back;
      so_far = rise_goes_on (rank A.places) (passed A.w.now A.n) (i - 1) c.loop-i.invariant.so_far t.inside (omega (arith, t.first, t.second, c.if-next-last.false)) ∙ ap (λ (k : ℕ). rising (rank A.places) (drop k (passed A.w.now A.n))) e;
    }

pub returns : goal.returns
returns c =
    let A = c.args in
    sym (rise_ends (rank A.places) (passed A.w.now A.n) (c.loop-i.i - 1) c.loop-i.invariant.so_far (omega (arith, held_length A.w.now A.n c.requires, c.loop-i-test.false)))
