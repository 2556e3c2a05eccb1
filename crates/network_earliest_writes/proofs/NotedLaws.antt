-- The walk over the messages finds the earliest write of each item.
use mathlib.Core.Path.{◌≡◌, refl, sym, ap, ◌∙◌}
use mathlib.Core.Bool.{Bool, true, false, cond, true≢false}
use mathlib.Core.List.{List, [], ◌∷◌, map}
use Prim.Native.Nat.{ℕ, ◌≤◌, ◌<◌}
use native.Mathlib.Omega.{arith}
use lib.ListN.{length, get_or, replicate, length-replicate, get_or-replicate, get_or-eq_default}
use lib.Dec.{ltb}
use borrow.Author.Tests.{lt-ltb, le-ltb, ltb-true, ltb-false}
use Rattle.limits.specs.Limits.{items_most, records_most}
use Rattle.lists.specs.Lists.{any, keep, fold}
use Rattle.lists.specs.Sorting.{former}
use Rattle.lists.proofs.Chains.{Each, each_all, each_keep}
use Rattle.lists.proofs.Some.{some_kept, none_kept}
use Rattle.timestamp_order.specs.Timestamp.{Stamp}
use Rattle.site_operations.specs.Operations.{touches}
use Rattle.site_operations.proofs.ChangedItems.{changed_length, written_changed}
use Rattle.messages.specs.Messages.{Message, commit, dummy, name_of}
use Rattle.records.specs.Records.{Record}
use Rattle.protocol.specs.Network.{Network, no_record, record_at, place_of, message_ops, message_stamp}
use Rattle.protocol.specs.Earliest.{no_later, earliest_stamp}
use Rattle.protocol.specs.Waiting.{into, carries, earliest_write}
use Rattle.protocol.proofs.Earliest.{earlier_former, earliest_fold}
use Rattle.network_layout.specs.InWords.{network_in}
use Rattle.network_layout.specs.At.{AtState}
use Rattle.network_layout.proofs.Performs.{records_few}
use Rattle.network_noting.specs.Noting.{stamp_at, is_sooner, noted_then, note_ops}
use Rattle.network_noting.proofs.NotingLaws.{noted_then_twice}
use Rattle.network_earliest_writes.specs.Noted.{note_message, note_messages, earliest_writers, EarliestAre}

-- a message is noted by its name
module _ (w : List ℕ) (at : AtState w) (m : Message) (x : ℕ) (is : x ≡ name_of m) where
  abbrev h : List Record
  h = (network_in w).history

  ops_by_name : (m : Message) → message_ops h m ≡ (record_at h (name_of m)).ops
  ops_by_name (commit k) = refl
  ops_by_name (dummy t) = sym (ap (λ (r : Record). r.ops) (get_or-eq_default h no_record {n = records_most} (records_few w at.ranged)))

  pub message_noted : (vs : List ℕ) → note_ops false (network_in w) x vs (record_at h x).ops ≡ note_message (network_in w) vs m
  message_noted vs = ap (λ (k : ℕ). note_ops false (network_in w) k vs (record_at h k).ops) is ∙ ap (note_ops false (network_in w) (name_of m) vs) (sym (ops_by_name m))

  -- one that names no record writes nothing
  pub none_noted : length h ≤ x → (vs : List ℕ) → vs ≡ note_message (network_in w) vs m
  none_noted high vs = sym (ap (λ (r : Record). note_ops false (network_in w) x vs r.ops) (get_or-eq_default h no_record {n = x} high)) ∙ message_noted vs

module _ (n : Network) where
  -- ---- what is noted of one item: r where it is earlier than the record noted, or none is
  abbrev sooner : ℕ → ℕ → ℕ
  sooner r noted = noted_then false n noted r

  messages_length : (vs : List ℕ) (ms : List Message) → length (note_messages n vs ms) ≡ length vs
  messages_length vs [] = refl
  messages_length vs (m ∷ ms) = messages_length (note_message n vs m) ms ∙ changed_length (sooner (name_of m)) vs (message_ops n.history m)

  -- ---- the records that messages name, one after another
  abbrev soonest : ℕ → List Message → ℕ
  soonest f ms = fold (λ g m. sooner (name_of m) g) f ms

  messages_noted : (x : ℕ) → x < items_most → (vs : List ℕ) (ms : List Message) → x < length vs → get_or (note_messages n vs ms) x 0 ≡ soonest (get_or vs x 0) (keep (carries n x) ms)
  messages_noted x few vs [] l = refl
  messages_noted x few vs (m ∷ ms) l =
      messages_noted x few (note_message n vs m) ms (omega (arith, changed_length (sooner (name_of m)) vs (message_ops n.history m)))
      ∙ ap (λ (f : ℕ). soonest f (keep (carries n x) ms)) (written_changed (sooner (name_of m)) x few (noted_then_twice false n (name_of m)) vs (message_ops n.history m) l)
      ∙ go (carries n x m)
    where
      go : (b : Bool) → soonest (cond b (sooner (name_of m) (get_or vs x 0)) (get_or vs x 0)) (keep (carries n x) ms) ≡ soonest (get_or vs x 0) (cond b (m ∷ keep (carries n x) ms) (keep (carries n x) ms))
      go true = refl
      go false = refl

  -- a message that writes an item names a record, and has its timestamp
  pub record Named (m : Message) : Type 0 where
    pub there : name_of m < length n.history
    pub stamp_is : message_stamp n.history m ≡ stamp_at n (name_of m)

  named : (x : ℕ) (m : Message) → carries n x m ≡ true → Named m
  named x (commit k) e = record { there = go (ltb k (length n.history)) refl; stamp_is = refl }
    where
      go : (b : Bool) → ltb k (length n.history) ≡ b → k < length n.history
      go true t = ltb-true k (length n.history) t
      go false t = absurd (true≢false (sym e ∙ ap (λ (q : Record). touches x q.ops) (get_or-eq_default n.history no_record {n = k} (ltb-false k (length n.history) t))))
  named x (dummy t) e = absurd (true≢false (sym e))

  abbrev no_later_at : Stamp → Stamp → Bool
  no_later_at = no_later (place_of n.items)

  -- of two records the sooner has the former timestamp
  sooner_stamp : (f r : ℕ) → f < length n.history → stamp_at n (sooner r f) ≡ former no_later_at (stamp_at n f) (stamp_at n r)
  sooner_stamp f r l = rw (lt-ltb f (length n.history) l) (earlier_former (place_of n.items) (stamp_at n) f r)

  sooner_named : (f r : ℕ) → f < length n.history → r < length n.history → sooner r f < length n.history
  sooner_named f r l m = go (ltb f (length n.history)) (is_sooner n r f)
    where
      go : (a b : Bool) → cond a (cond b r f) r < length n.history
      go true true = m
      go true false = l
      go false b = m

  abbrev stamps_of : List Message → List Stamp
  stamps_of ms = map (message_stamp n.history) ms

  earliest_noted : (f : ℕ) (ms : List Message) → f < length n.history → Each Named ms
      → (soonest f ms < length n.history) × (stamp_at n (soonest f ms) ≡ fold (former no_later_at) (stamp_at n f) (stamps_of ms))
  earliest_noted f [] l h = (l, refl)
  earliest_noted f (m ∷ ms) l h =
      let rest = earliest_noted (sooner (name_of m) f) ms (sooner_named f (name_of m) l h.0.there) h.1 in
      let next : stamp_at n (sooner (name_of m) f) ≡ former no_later_at (stamp_at n f) (message_stamp n.history m)
      = sooner_stamp f (name_of m) l ∙ ap (former no_later_at (stamp_at n f)) (sym h.0.stamp_is) in
      (rest.0, rest.1 ∙ ap (λ (s : Stamp). fold (former no_later_at) s (stamps_of ms)) next)

  -- from a number that no record has on
  module _ (none : ℕ) (high : length n.history ≤ none) where
    first_noted : (ms : List Message) → Each Named ms → 0 < length ms
        → (soonest none ms < length n.history) × (stamp_at n (soonest none ms) ≡ earliest_stamp (place_of n.items) (stamps_of ms))
    first_noted [] h l = absurd (omega arith)
    first_noted (m ∷ ms) h l =
        let start : sooner (name_of m) none ≡ name_of m = rw (le-ltb none (length n.history) high) in
        let all = earliest_noted (name_of m) ms h.0.there h.1 in (
          rw start all.0,
          rw start all.1
              ∙ ap (λ (s : Stamp). fold (former no_later_at) s (stamps_of ms)) (sym h.0.stamp_is)
              ∙ sym (earliest_fold (place_of n.items) (message_stamp n.history m) (stamps_of ms)),
        )

    module _ (i : ℕ) where
      abbrev all : List ℕ
      all = note_messages n (replicate items_most none) (into n i)

      module _ (x : ℕ) (few : x < items_most) where
        abbrev kept : List Message
        kept = keep (carries n x) (into n i)

        noted : get_or all x 0 ≡ soonest none kept
        noted =
            messages_noted x few (replicate items_most none) (into n i) (omega (arith, few, length-replicate items_most none))
            ∙ ap (λ (f : ℕ). soonest f kept) (get_or-replicate items_most x none 0 few)

        all_named : Each Named kept
        all_named = each_keep (carries n x) Named (into n i) (each_all _ (named x) (into n i))

        written : any (carries n x) (into n i) ≡ true → (get_or all x 0 < length n.history) × (stamp_at n (get_or all x 0) ≡ earliest_write n i x)
        unfolding earliest_write
        written e = rw noted (first_noted kept all_named (some_kept (carries n x) (into n i) e))

        not_written : any (carries n x) (into n i) ≡ false → length n.history ≤ get_or all x 0
        not_written e = omega (arith, noted ∙ ap (soonest none) (none_kept (carries n x) (into n i) e))

      earliest_are : EarliestAre n i all
      earliest_are =
          record {
            sized = messages_length (replicate items_most none) (into n i) ∙ length-replicate items_most none;
            found = λ x few. found x few (any (carries n x) (into n i)) refl;
            earliest = λ x few l. earliest x few l (any (carries n x) (into n i)) refl;
          }
        where
          found : (x : ℕ) → x < items_most → (b : Bool) → any (carries n x) (into n i) ≡ b → b ≡ ltb (get_or all x 0) (length n.history)
          found x few true e = sym (lt-ltb (get_or all x 0) (length n.history) (written x few e).0)
          found x few false e = sym (le-ltb (get_or all x 0) (length n.history) (not_written x few e))

          earliest : (x : ℕ) → x < items_most → get_or all x 0 < length n.history → (b : Bool) → any (carries n x) (into n i) ≡ b → stamp_at n (get_or all x 0) ≡ earliest_write n i x
          earliest x few l true e = (written x few e).1
          earliest x few l false e = absurd (omega (arith, l, not_written x few e))

pub writers_are : (w : List ℕ) → AtState w → (i : ℕ) → EarliestAre (network_in w) i (earliest_writers (network_in w) i)
writers_are w at i = earliest_are (network_in w) records_most (records_few w at.ranged) i
