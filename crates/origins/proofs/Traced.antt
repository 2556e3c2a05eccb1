-- In every network that a set-up leads to, the last write of the item in the commit named, in the read's own commit the last before it, has the value read; where none is named the base value was read.
use mathlib.Core.Path.{◌≡◌, refl, ap, sym, subst, ◌∙◌}
use mathlib.Core.Bool.{Bool, true, false, cond}
use mathlib.Core.List.{List}
use mathlib.Core.Logic.{◌⊎◌, inl, inr}
use mathlib.Core.Option.{Option, none, some}
use Prim.Native.Nat.{ℕ, ◌<◌}
use native.Mathlib.Omega.{arith}
use lib.IntN.{ℤ, pos}
use lib.ListN.{length, get_or}
use lib.Dec.{eqb, ltb}
use borrow.Author.Tests.{ltb-true, ltb-false, eq-eqb, ne_eqb}
use Rattle.lists.specs.Lists.{keep}
use Rattle.lists.proofs.Every.{and_true}
use Rattle.timestamp_order.specs.Order.{is_earlier}
use Rattle.site_operations.specs.Operations.{touches, last_written}
use Rattle.records.specs.Records.{Record}
use Rattle.protocol.specs.Network.{Network, nth_record}
use Rattle.protocol.specs.Questions.{nth_op}
use Rattle.protocol.specs.Agreement.{Known}
use Rattle.site_operations.proofs.Works.{wrote, untouched, wrote_last}
use Rattle.protocol.proofs.Values.{last_from, none_kept, joined_commit}
use Rattle.protocol.proofs.Places.{place_at, order_at, Before, times_at}
use Rattle.protocol.proofs.Kept.{Kept}
use Rattle.protocol.proofs.Follows.{Follows, always}
use Rattle.protocol.proofs.Theorem.{kept_state}
use Rattle.origins.specs.Origin.{ops_before, own_write, origin_of}
use Rattle.origins.specs.Statements.{turn_at, precedes, writes_before, LastBelow, NoneBelow, FoundBelow, FoundFor, seen_ops, Traced, AllTraced, OriginLast, OriginTrue}
use Rattle.protocol.proofs.Precedes.{number_of, stamp_of, before_precedes, precedes_upto, precedes_one_way}
use Rattle.origins.proofs.Last.{IsRead, read_there, origin_last}

-- ---- a read of a network whose commits are as they must be
module _ (n : Network) (kept : Kept n) (k a : ℕ) (read : IsRead n k a) where
  open times_at n use {upto_self, upto_before, upto_other, before_trans, before_upto, never_before, before_test, test_before, test_fails}

  abbrev h : List Record
  h = n.history

  abbrev x : ℕ
  x = (nth_op n k a).item

  abbrev earlier_than : ℕ → Record → Bool
  earlier_than m r = is_earlier (order_at n r.stamp (nth_record n m).stamp)

  abbrev Earlier : ℕ → ℕ → Type 0
  Earlier i m = Before n (nth_record n i).stamp (nth_record n m).stamp

  abbrev Precedes : ℕ → ℕ → Type 0
  Precedes i m = precedes (place_at n) (turn_at h i) (turn_at h m) ≡ true

  -- the base value, and what the commits before a commit leave of it
  abbrev start : ℤ
  start = get_or n.base.values x (pos 0)

  abbrev value_before : ℕ → ℤ
  value_before m = last_from x start (keep (earlier_than m) h)

  abbrev writes_earlier : ℕ → Bool
  writes_earlier = writes_before (place_at n) h k x

  -- what the operations before it leave of the value before its commit
  value_read_lem : (nth_op n k a).value ≡ wrote x (value_before k) (ops_before n k a)
  value_read_lem = kept.read k read.commit a read.operation read.reading

  seen_by : (m : ℕ) (b : Bool) → eqb m k ≡ b → seen_ops n k a m ≡ cond b (ops_before n k a) (nth_record n m).ops
  seen_by m b e = ap (λ (c : Bool). cond c (ops_before n k a) (nth_record n m).ops) e

  -- where one of them writes the item, the last such write; else that value
  own_traced : own_write n k a ≡ true → Traced n k a (some k)
  own_traced e =
      ap (last_written x) (seen_by k true (eq-eqb k k refl))
      ∙ wrote_last x (value_before k) (ops_before n k a) e
      ∙ ap {B = Option ℤ} some (sym value_read_lem)

  before_read : own_write n k a ≡ false → (nth_op n k a).value ≡ value_before k
  before_read e = value_read_lem ∙ untouched x (value_before k) (ops_before n k a) e

  earlier_precedes : (i : ℕ) → earlier_than k (nth_record n i) ≡ true → Precedes i k
  earlier_precedes i e = before_precedes (place_at n) number_of stamp_of (turn_at h i) (turn_at h k) (test_before (nth_record n i).stamp (nth_record n k).stamp e)

  -- no writer before it: the base value
  start_read_lem : own_write n k a ≡ false → NoneBelow writes_earlier (length h) → (nth_op n k a).value ≡ start
  start_read_lem alone nobody = before_read alone ∙ none_kept x (earlier_than k) start h (λ i l t. go i l t (earlier_than k (nth_record n i)) refl)
    where
      go : (i : ℕ) → i < length h → touches x (nth_record n i).ops ≡ true → (b : Bool) → earlier_than k (nth_record n i) ≡ b → earlier_than k (nth_record n i) ≡ false
      go i l t true e = absurd (nobody i l (rw (t, earlier_precedes i e)))
      go i l t false e = e

  -- the last writer before it: its writes on what was there before it
  module _ (m : ℕ) (f : LastBelow (place_at n) h writes_earlier (length h) m) where
    writer_is : (touches x (nth_record n m).ops ≡ true) × Precedes m k
    writer_is = and_true (touches x (nth_record n m).ops) (precedes (place_at n) (turn_at h m) (turn_at h k)) f.is_one

    pub writer_writes : touches x (nth_record n m).ops ≡ true
    writer_writes = writer_is.0

    -- not the reader, and as no two commits have one timestamp, strictly earlier
    differ : (nth_record n m).stamp ≡ (nth_record n k).stamp → ⊥
    differ e = go (ltb m k) refl (ltb k m) refl
      where
        go : (b : Bool) → ltb m k ≡ b → (c : Bool) → ltb k m ≡ c → ⊥
        go true s c t = kept.apart m k (ltb-true m k s) read.commit e
        go false s true t = kept.apart k m (ltb-true k m t) f.low (sym e)
        go false s false t =
            let same : m ≡ k = omega (arith, ltb-false m k s, ltb-false k m t) in
            let self : Precedes k k = subst (λ (i : ℕ). Precedes i k) same writer_is.1 in
            precedes_one_way (place_at n) number_of stamp_of (turn_at h k) (turn_at h k) self self

    writer_earlier : Earlier m k
    writer_earlier =
        upto_other (nth_record n m).stamp (nth_record n k).stamp (precedes_upto (place_at n) number_of stamp_of (turn_at h m) (turn_at h k) writer_is.1) differ

    -- the writers of the item made after it come later than the reader
    late : (i : ℕ) → m < i → i < length h → touches x (nth_record n i).ops ≡ true → earlier_than k (nth_record n i) ≡ false
    late i l low t = go (earlier_than k (nth_record n i)) refl
      where
        rise : Earlier m i
        rise = kept.rise x m i l low writer_writes t

        clash : (i ≡ m) ⊎ Precedes i m → ⊥
        clash (inl s) = omega arith
        clash (inr p) =
            never_before (nth_record n m).stamp
            (before_upto (nth_record n m).stamp (nth_record n i).stamp (nth_record n m).stamp rise (precedes_upto (place_at n) number_of stamp_of (turn_at h i) (turn_at h m) p))

        go : (b : Bool) → earlier_than k (nth_record n i) ≡ b → earlier_than k (nth_record n i) ≡ false
        go false e = e
        go true e = absurd (clash (f.last i low (rw (t, earlier_precedes i e))))

    -- of the other writers those made before it are earlier than both, those after it than neither
    tells : (i : ℕ) → i < length h → (i ≡ m → ⊥) → touches x (nth_record n i).ops ≡ true → earlier_than k (nth_record n i) ≡ earlier_than m (nth_record n i)
    tells i low other t = go (ltb i m) refl
      where
        go : (b : Bool) → ltb i m ≡ b → earlier_than k (nth_record n i) ≡ earlier_than m (nth_record n i)
        go true e =
            let rise : Earlier i m = kept.rise x i m (ltb-true i m e) f.low t writer_writes in
            before_test (nth_record n i).stamp (nth_record n k).stamp (before_trans (nth_record n i).stamp (nth_record n m).stamp (nth_record n k).stamp rise writer_earlier)
            ∙ sym (before_test (nth_record n i).stamp (nth_record n m).stamp rise)
        go false e =
            let up : m < i = omega (arith, other, ltb-false i m e) in
            let rise : Earlier m i = kept.rise x m i up low writer_writes t in
            late i up low t ∙ sym (test_fails (nth_record n i).stamp (nth_record n m).stamp (upto_before (nth_record n m).stamp (nth_record n i).stamp rise))

    pub named_read : own_write n k a ≡ false → (nth_op n k a).value ≡ wrote x (value_before m) (nth_record n m).ops
    named_read alone =
        before_read alone
        ∙ joined_commit x (earlier_than k) (earlier_than m) start h m f.low tells
        (before_test (nth_record n m).stamp (nth_record n k).stamp writer_earlier)
        (test_fails (nth_record n m).stamp (nth_record n m).stamp (upto_self (nth_record n m).stamp)) (λ t. late)

  other_traced : own_write n k a ≡ false → (o : Option ℕ) → FoundBelow (place_at n) h writes_earlier (length h) o → Traced n k a o
  other_traced alone none f = let read_is = start_read_lem alone f in (read_is, λ e. read_is ∙ kept.unfolded e x)
  other_traced alone (some m) f =
      ap (last_written x) (seen_by m false (ne_eqb m k (λ s. differ m f (ap (λ (i : ℕ). (nth_record n i).stamp) s))))
      ∙ wrote_last x (value_before m) (nth_record n m).ops (writer_writes m f)
      ∙ ap {B = Option ℤ} some (sym (named_read m f alone))

  traced : (o : Option ℕ) → FoundFor n k a o → Traced n k a o
  traced o f = go (own_write n k a) refl
    where
      go : (b : Bool) → own_write n k a ≡ b → Traced n k a o
      go true e = subst (Traced n k a) (sym (f.own e)) (own_traced e)
      go false e = other_traced e o (f.other e)

-- ---- after every list of calls
all_traced : (known : Known) → Follows known → AllTraced known
unfolding OriginLast
all_traced known f n e k a z = traced n (kept_state known f n e) k a (read_there n k a z) (origin_of n k a) (origin_last n k a z).found

pub origin_true : OriginTrue
unfolding OriginTrue
origin_true = always AllTraced all_traced
