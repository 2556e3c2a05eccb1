-- Beside one-copy agreement: what holds from no network on, no two commits have one timestamp, no call is refused with 6, and no later commit falls at or before the point.
use mathlib.Core.Path.{◌≡◌, refl, ap, sym, subst, ◌∙◌}
use mathlib.Core.Bool.{Bool, true, false, cond, not, ◌&&◌, ◌||◌}
use mathlib.Core.List.{List, [], ◌∷◌}
use mathlib.Core.Logic.{◌⊎◌, inl, inr}
use mathlib.Core.Option.{Option, none, some}
use Prim.Native.Nat.{ℕ, ◌≤◌, ◌<◌}
use native.Mathlib.Omega.{arith}
use lib.IntN.{ℤ}
use lib.ListN.{length}
use lib.Dec.{eqb, ltb, leb}
use borrow.Author.Tests.{eqb-false}
use Rattle.site_operations.specs.Operations.{Op, reads, writes}
use Rattle.placement.specs.Placement.{Item, owns, copies, is_line, has_parents}
use Rattle.placement.specs.Places.{cyclic, placement_number}
use Rattle.lists.specs.Numbers.{number_if, outside}
use Rattle.limits.specs.Limits.{sites_most, items_most, held_most, records_most}
use Rattle.timestamp_order.specs.Timestamp.{Stamp, greatest}
use Rattle.timestamp_order.specs.Order.{IsEarlier, NotLater}
use Rattle.lines.specs.Lines.{Line}
use Rattle.records.specs.Records.{Record}
use Rattle.protocol.specs.Network.{Network, no_record, record_at, place_of, site_at, site_stamps, line_at}
use Rattle.protocol.specs.Steps.{items_of, no_such_site, count_at_most, some_line_full, ops_of, op_number, due, wrong_lists, set_up_number, commit_number, dummy_number, epoch_number, deliver_number, schedule_number}
use Rattle.lists.specs.Lists.{any, some_below}
use Rattle.protocol.specs.Questions.{Question, waiting, table, stamp, line, origin, places, base, no_such_read, asked_site, question_number}
use Rattle.protocol.specs.Collect.{collect_number}
use Rattle.protocol.specs.Round.{greatest_epoch, round_number}
use Rattle.protocol.specs.Calls.{Call, set_up, commit, dummy, epoch, deliver, schedule, collect, round, ask, refused, perform}
use Rattle.protocol.specs.Book.{book_stamp}
use Rattle.protocol.specs.Agreement.{Known, nothing_known, is_removed, calls_of, witnessed_alone, learned_each, learned, learned_all, book_place, book_point, OneCopyAgreement, AgreedOrUnset, FromNothing, StampsDiffer, Never6, NoSetUp, NoneAtOrBefore}
use Rattle.protocol.proofs.Causes.{Not, either_not, first_not, when_not, all_not, items_not}
use Rattle.protocol.proofs.Times.{times}
use Rattle.protocol.proofs.Added.{added_each}
use Rattle.protocol.proofs.Earliest.{earliest_upto}
use Rattle.protocol.proofs.Alike.{alike_many, alike_stamp}
use Rattle.protocol.proofs.Invariant.{stamps_apart}
use Rattle.protocol.proofs.View.{view}
use Rattle.protocol.proofs.Collected.{collect_accepted}
use Rattle.protocol.proofs.Follows.{Follows, Extended, Grows, call_steps, always}
use Rattle.protocol.proofs.Theorem.{one_copy_agreement}

-- ---- timestamps
differ : (k : Known) → Follows k → (a b : ℕ) → a < b → b < length k.book.commits → (record_at k.book.commits a).stamp ≡ (record_at k.book.commits b).stamp → ⊥
differ k f a b l m e =
    let h = f.full.history in
    let cs = k.book.commits in
    let many = alike_many h cs f.commits_alike in
    let same = alike_stamp h cs f.commits_alike in
    stamps_apart f.full f.inv a b l (omega arith) (same a (omega arith) ∙ e ∙ sym (same b (omega arith)))

-- ---- numbers: no cause of a call has 6
abbrev Not6 : ℕ → Type 0
Not6 m = Not 6 m

zero_not6 : Not6 0
zero_not6 = record { differs = refl }

when_not6 : {rest : ℕ} (b : Bool) (m : ℕ) → eqb m 6 ≡ false → Not6 rest → Not6 (cond (eqb (number_if b m) 0) rest (number_if b m))
when_not6 = when_not zero_not6

placement_not6 : (sites : ℕ) (xs : List Item) → Not6 (placement_number sites xs)
unfolding placement_number
placement_not6 sites xs = first_not (items_not zero_not6 (record { differs = refl }) (record { differs = refl }) sites xs) (when_not6 (cyclic xs) 5 refl zero_not6)

set_up_not6 : (sites items : ℕ) (ps ms : List ℕ) → Not6 (set_up_number sites items ps ms)
unfolding set_up_number
set_up_not6 sites items ps ms =
    when_not6 (outside 1 sites_most sites) 1 refl
    (when_not6 (outside 1 items_most items || (not (eqb (length ps) items) || not (eqb (length ms) items))) 2 refl
    (first_not (placement_not6 sites (items_of ps ms)) zero_not6))

-- a call answers its number, accepted or not
by_number_lem : {A : Type 0} (m : ℕ) → (eqb m 0 ≡ true → A) → (eqb m 0 ≡ false → A) → A
by_number_lem {A = A} m f g = go (eqb m 0) refl
  where
    go : (b : Bool) → eqb m 0 ≡ b → A
    go true e = f e
    go false e = g e

module _ (n : Network) where
  op_not6 : (i : ℕ) (o : Op) → Not6 (op_number n.items i o)
  op_not6 i o =
      let xs = n.items in
      when_not6 (ltb 1 o.kind || leb (length xs) o.item) 9 refl
      (when_not6 (reads o && not (owns xs i o.item || copies xs i o.item)) 10 refl (when_not6 (writes o && not (owns xs i o.item)) 11 refl zero_not6))

  commit_not6 : (i : ℕ) (ks is : List ℕ) (vs : List ℤ) → Not6 (commit_number n i ks is vs)
  unfolding commit_number
  commit_not6 i ks is vs =
      let os = ops_of ks is vs in
      when_not6 (no_such_site n i) 7 refl
      (when_not6 (wrong_lists (length ks) (length is) (length vs)) 8 refl
      (first_not (all_not zero_not6 (op_number n.items i) (op_not6 i) os)
      (when_not6 (leb records_most (length n.history)) 12 refl (when_not6 (some_line_full n i (due n.items os)) 13 refl (when_not6 (count_at_most n i) 14 refl zero_not6)))))

  dummy_not6 : (i : ℕ) → Not6 (dummy_number n i)
  unfolding dummy_number
  dummy_not6 i = when_not6 (no_such_site n i) 7 refl (when_not6 (some_line_full n i (is_line n.items i)) 13 refl (when_not6 (count_at_most n i) 14 refl zero_not6))

  epoch_not6 : (i e : ℕ) → Not6 (epoch_number n i e)
  unfolding epoch_number
  epoch_not6 i e = when_not6 (no_such_site n i) 7 refl (when_not6 (has_parents n.items i) 15 refl (when_not6 (leb e (site_at n i).stamp.epoch) 16 refl zero_not6))

  deliver_not6 : (p c : ℕ) → Not6 (deliver_number n p c)
  unfolding deliver_number
  deliver_not6 p c =
      when_not6 (no_such_site n p || no_such_site n c) 7 refl
      (when_not6 (not (is_line n.items p c)) 17 refl (when_not6 (leb (length (line_at n p c).messages) (line_at n p c).arrived) 18 refl zero_not6))

  schedule_not6 : (j : ℕ) → Not6 (schedule_number n j)
  unfolding schedule_number
  schedule_not6 j =
      when_not6 (no_such_site n j) 7 refl
      (when_not6 (not (has_parents n.items j)) 19 refl (when_not6 (some_below (λ p. is_line n.items p j && eqb (line_at n p j).arrived 0) sites_most) 20 refl zero_not6))

  round_not6 : Not6 (round_number n)
  unfolding round_number
  round_not6 =
      when_not6 (any (λ (l : Line). leb held_most (length l.messages)) n.lines) 13 refl
      (when_not6 (some_below (count_at_most n) (length n.sites)) 14 refl (when_not6 (leb greatest (greatest_epoch (site_stamps n))) 16 refl zero_not6))

  site_not6 : (i : ℕ) → Not6 (asked_site n i)
  site_not6 i = either_not (no_such_site n i) (record { differs = refl }) zero_not6

  question_not6 : (q : Question) → Not6 (question_number n q)
  unfolding question_number
  question_not6 (waiting i) = site_not6 i
  question_not6 (table i) = site_not6 i
  question_not6 (stamp i) = site_not6 i
  question_not6 (line p c) = when_not6 (no_such_site n p || no_such_site n c) 7 refl (when_not6 (not (is_line n.items p c)) 17 refl zero_not6)
  question_not6 (origin k a) = either_not (no_such_read n k a) (record { differs = refl }) zero_not6
  question_not6 places = zero_not6
  question_not6 base = zero_not6

  -- a collect has no other
  call_not6 : collect_number n ≡ 0 → (c : Call) → Not6 (perform (some n) c).number
  unfolding perform
  call_not6 z (set_up sites items ps ms) = by_number_lem (set_up_number sites items ps ms) (λ e. rw e zero_not6) (λ e. rw e (set_up_not6 sites items ps ms))
  call_not6 z (commit i ks is vs) = by_number_lem (commit_number n i ks is vs) (λ e. rw e zero_not6) (λ e. rw e (commit_not6 i ks is vs))
  call_not6 z (dummy i) = by_number_lem (dummy_number n i) (λ e. rw e zero_not6) (λ e. rw e (dummy_not6 i))
  call_not6 z (epoch i h) = by_number_lem (epoch_number n i h) (λ e. rw e zero_not6) (λ e. rw e (epoch_not6 i h))
  call_not6 z (deliver p c) = by_number_lem (deliver_number n p c) (λ e. rw e zero_not6) (λ e. rw e (deliver_not6 p c))
  call_not6 z (schedule j) = by_number_lem (schedule_number n j) (λ e. rw e zero_not6) (λ e. rw e (schedule_not6 j))
  call_not6 z collect = rw z zero_not6
  call_not6 z round = by_number_lem (round_number n) (λ e. rw e zero_not6) (λ e. rw e round_not6)
  call_not6 z (ask q) = by_number_lem (question_number n q) (λ e. rw e zero_not6) (λ e. rw e (question_not6 q))

never : (k : Known) → Follows k → (c : Call) → (perform k.state c).number ≡ 6 → ⊥
never k f c =
    let v = view (is_removed k.removed) f.base f.full in
    let free : collect_number v ≡ 0 = collect_accepted f.full f.inv (is_removed k.removed) f.base f.removed in
    eqb-false (perform k.state c).number 6 (ap (λ (s : Option Network). eqb (perform s c).number 6) f.state_is ∙ (call_not6 v free c).differs)

-- ---- no later commit at or before the point
-- a timestamp not later than any site's, and earlier than each commit from number l on
record Ahead (xs : List Item) (t : Stamp) (l : ℕ) (k : Known) : Type 0 where
  items_are : k.items ≡ xs
  upto : (j : ℕ) → j < length k.book.stamps → NotLater (place_of xs) t (book_stamp k.book j)
  later : (m : ℕ) → m < length k.book.commits → l ≤ m → IsEarlier (place_of xs) t (record_at k.book.commits m).stamp

module _ (xs : List Item) (t : Stamp) (l : ℕ) where
  open times (place_of xs) use {upto_trans, upto_then}

  -- it is so after every call that is no accepted set-up
  stays_ahead : (k m : Known) → Ahead xs t l k → Grows k m → Ahead xs t l m
  stays_ahead k m a g =
      record {
        items_are = g.items_same ∙ a.items_are;
        upto = λ j b.
            let old : j < length k.book.stamps = omega (arith, g.many) in
            upto_trans t (book_stamp k.book j) (book_stamp m.book j) (a.upto j old) (subst (λ (ys : List Item). NotLater (place_of ys) (book_stamp k.book j) (book_stamp m.book j)) a.items_are (g.grows j old));
        later = go g.commits;
      }
    where
      go : (m.book.commits ≡ k.book.commits) ⊎ Extended k m → (i : ℕ) → i < length m.book.commits → l ≤ i → IsEarlier (place_of xs) t (record_at m.book.commits i).stamp
      go (inl same) = subst (λ (cs : List Record). (i : ℕ) → i < length cs → l ≤ i → IsEarlier (place_of xs) t (record_at cs i).stamp) (sym same) a.later
      go (inr e) =
          let r = e.made in
          let s = book_stamp k.book r.site in
          subst (λ (cs : List Record). (i : ℕ) → i < length cs → l ≤ i → IsEarlier (place_of xs) t (record_at cs i).stamp) (sym e.extends)
          (added_each k.book.commits r no_record (λ i c. l ≤ i → IsEarlier (place_of xs) t c.stamp) a.later
          (λ b. upto_then t s r.stamp (a.upto r.site e.there) (subst (λ (ys : List Item). IsEarlier (place_of ys) s r.stamp) a.items_are e.later)))

  all_ahead : (k : Known) → Follows k → Ahead xs t l k → (cs : List Call) → NoSetUp k cs → Ahead xs t l (learned_all k cs)
  all_ahead k f a [] unset = a
  all_ahead k f a (c ∷ cs) unset =
      let s = call_steps k f c unset.0 in
      all_ahead (learned k c) s.follows (stays_ahead k (learned k c) a s.grows) cs unset.1

none_before : (k : Known) → Follows k → (calls : List Call) → NoSetUp k calls → (m : ℕ) → length k.book.commits ≤ m → m < length (learned_all k calls).book.commits
    → IsEarlier (book_place k) (book_point k) (record_at (learned_all k calls).book.commits m).stamp
none_before k f calls unset m b l =
    (all_ahead k.items (book_point k) (length k.book.commits) k f
    (record { items_are = refl; upto = earliest_upto (book_place k) k.book.stamps; later = λ i c d. absurd (omega arith) })
    calls unset).later m l b

-- ---- from no network on: a call is refused, and then still nothing is known, until a set-up is accepted
module _ (c : Call) (cs : List Call) (rest : AgreedOrUnset (learned_all (nothing_known none) cs)) where
  still_unset : (m : ℕ) → eqb m 0 ≡ false → perform none c ≡ refused m none → calls_of none c ≡ [] → AgreedOrUnset (learned_all (nothing_known none) (c ∷ cs))
  still_unset m e is alone =
      let same : learned (nothing_known none) c ≡ nothing_known none = (λ i. witnessed_alone (learned_each (nothing_known none) (alone i)) c (is i)) ∙ rw e in
      subst (λ (k : Known). AgreedOrUnset (learned_all k cs)) (sym same) rest

from_nothing_on : (calls : List Call) → AgreedOrUnset (learned_all (nothing_known none) calls)
unfolding perform OneCopyAgreement
from_nothing_on [] = inl refl
from_nothing_on (set_up sites items ps ms ∷ cs) =
    by_number_lem (set_up_number sites items ps ms)
    (λ e. inr (one_copy_agreement none sites items ps ms (rw e) cs))
    (λ e. still_unset (set_up sites items ps ms) cs (from_nothing_on cs) (set_up_number sites items ps ms) e (rw e) refl)
from_nothing_on (commit i ks is vs ∷ cs) = still_unset (commit i ks is vs) cs (from_nothing_on cs) 6 refl refl refl
from_nothing_on (dummy i ∷ cs) = still_unset (dummy i) cs (from_nothing_on cs) 6 refl refl refl
from_nothing_on (epoch i h ∷ cs) = still_unset (epoch i h) cs (from_nothing_on cs) 6 refl refl refl
from_nothing_on (deliver p c ∷ cs) = still_unset (deliver p c) cs (from_nothing_on cs) 6 refl refl refl
from_nothing_on (schedule j ∷ cs) = still_unset (schedule j) cs (from_nothing_on cs) 6 refl refl refl
from_nothing_on (collect ∷ cs) = still_unset collect cs (from_nothing_on cs) 6 refl refl refl
from_nothing_on (round ∷ cs) = still_unset round cs (from_nothing_on cs) 6 refl refl refl
from_nothing_on (ask q ∷ cs) = still_unset (ask q) cs (from_nothing_on cs) 6 refl refl refl

pub from_nothing : FromNothing
unfolding FromNothing
from_nothing = from_nothing_on

pub stamps_differ : StampsDiffer
unfolding StampsDiffer
stamps_differ = always _ differ

pub never_6 : Never6
unfolding Never6
never_6 = always _ never

pub none_at_or_before : NoneAtOrBefore
unfolding NoneAtOrBefore
none_at_or_before = always _ none_before
