-- A collect on a network of which some commits have been removed: it is not refused, and the commits not later than the point are then removed too.
use mathlib.Core.Path.{◌≡◌, refl, ap, ap₂, sym, ◌∙◌}
use mathlib.Core.Bool.{Bool, true, false, not, ◌&&◌, ◌||◌, true≢false}
use mathlib.Core.List.{List, map, map-map}
use Prim.Native.Nat.{ℕ, ◌+◌, ◌≤◌, ◌<◌}
use native.Mathlib.Omega.{arith}
use lib.IntN.{pos}
use lib.ListN.{length, get_or, length-map, get_or-eq_default}
use Rattle.lists.specs.Lists.{any, some_below, keep, up_to}
use Rattle.lists.specs.Numbers.{number_if}
use Rattle.lists.proofs.Chains.{Each, each_implied, map_same, map_none}
use Rattle.lists.proofs.Some.{some_below_same, some_below_or, some_marked}
use Rattle.lists.proofs.Renumber.{count_same}
use Rattle.lists.proofs.KeptFrom.{both_tests, count_twice, some_twice, kept_twice, each_from, kept_same, kept_by}
use Rattle.timestamp_order.specs.Order.{order_by, not_later}
use Rattle.placement.proofs.Places.{numbers_length, table_at}
use Rattle.messages.specs.Messages.{Message, commit, dummy}
use Rattle.lines.specs.Lines.{Line}
use Rattle.records.specs.Records.{Record}
use Rattle.protocol.specs.Network.{Network, Base, no_record, record_at, nth_record}
use Rattle.protocol.specs.Run.{in_turn, is_up_to}
use Rattle.protocol.specs.Earliest.{earliest_stamp}
use Rattle.protocol.specs.Collect.{point_of, is_past, staying, new_number, names_one, renamed, renamed_line, collect_number, folded_base, collect_network}
use Rattle.protocol.specs.Book.{Book}
use Rattle.protocol.specs.Agreement.{is_removed, collected}
use Rattle.protocol.proofs.Values.{last_value}
use Rattle.protocol.proofs.Places.{place_at, order_at, UpTo, times_at}
use Rattle.protocol.proofs.Runs.{after_length, run_last}
use Rattle.protocol.proofs.Invariant.{stamp_at, Invariant, record_site}
use Rattle.protocol.proofs.Stays.{Stays, each_stays}
use Rattle.protocol.proofs.View.{view, Removed, record_view, history_view}
use Rattle.protocol.proofs.FromBase.{from_base}
use Rattle.protocol.proofs.Kept.{rise_view}
use Rattle.protocol.proofs.Point.{point_upto, point_one}

module _ (n : Network) (inv : Invariant n) (goes : ℕ → Bool) (base : Base) (r : Removed n goes base) where
  open times_at n use {upto_trans, upto_then, fails_later}

  abbrev h : List Record
  h = n.history

  abbrev v : Network
  v = view goes base n

  -- one that has been removed is not later than the point, as that is a site's timestamp
  removed_past : (m : ℕ) → m < length h → goes m ≡ true → is_past n m ≡ true
  removed_past m l e = point_one n (UpTo n (nth_record n m).stamp) (omega (arith, record_site n inv m l)) (r.bound m l e)

  -- one that stays is judged by its new number as by its own
  past_view : (m : ℕ) → m < length h → goes m ≡ false → is_past v (new_number goes m) ≡ is_past n m
  past_view m l e = ap (λ (s : Record). not_later (order_at n s.stamp (point_of n))) (record_view goes base n m l e)

  -- ---- no message names one that is not later than the point
  past_settled : (m : ℕ) → is_past n m ≡ true → (j : ℕ) → j < length n.sites → UpTo n (nth_record n m).stamp (stamp_at n j)
  past_settled m e j b = upto_trans (nth_record n m).stamp (point_of n) (stamp_at n j) e (point_upto n j b)

  -- so what holds of messages that name others holds of each of each line
  each_message : (P : Message → Type 0) → ((m : Message) → Stays (is_past n) h m → P m) → Each (λ (l : Line). Each P l.messages) n.lines
  each_message P f = each_implied _ (λ (l : Line). Each P l.messages) (λ l. each_implied (Stays (is_past n) h) P f l.messages) n.lines (each_stays n inv (is_past n) (λ m b. past_settled m))

  unnamed : (m : Message) → Stays (is_past n) h m → names_one (is_past v) (renamed goes m) ≡ false
  unnamed (commit k) s = go (goes k) refl
    where
      go : (b : Bool) → goes k ≡ b → is_past v (new_number goes k) ≡ false
      go true e = absurd (true≢false (sym (removed_past k s.0 e) ∙ s.1))
      go false e = past_view k s.0 e ∙ s.1
  unnamed (dummy t) s = refl

  pub collect_accepted : collect_number v ≡ 0
  unfolding collect_number
  collect_accepted =
      let names : Message → Bool = names_one (is_past v) in
      let none : any (λ (l : Line). any names l.messages) v.lines ≡ false
      = map_none (renamed_line goes) (λ l. any names l.messages) n.lines
      (each_implied (λ (l : Line). Each (λ m. names (renamed goes m) ≡ false) l.messages) _ (λ l. map_none (renamed goes) names l.messages) n.lines (each_message _ unnamed)) in
      ap (λ (b : Bool). number_if b 6) none

  -- ---- those that are removed after it
  module _ (goes' : ℕ → Bool) (few : (m : ℕ) → length h ≤ m → goes' m ≡ false) (is : (m : ℕ) → m < length h → goes' m ≡ (goes m || is_past n m)) where
    all_past : (m : ℕ) → m < length h → goes' m ≡ is_past n m
    all_past m l = is m l ∙ go (goes m) refl
      where
        go : (b : Bool) → goes m ≡ b → (b || is_past n m) ≡ is_past n m
        go true e = sym (removed_past m l e)
        go false e = refl

    pub collect_removed : Removed n goes' (folded_base v)
    collect_removed =
        record {
          few = few;
          bound = λ m l e. past_settled m (sym (all_past m l) ∙ e);
          lead = λ m k a b e f. upto_then (nth_record n m).stamp (point_of n) (nth_record n k).stamp (sym (all_past m a) ∙ e) (fails_later (nth_record n k).stamp (point_of n) (sym (all_past k b) ∙ f));
          base_length = after_length base.values (keep (is_up_to (place_at n) (point_of n)) (in_turn (place_at n) v.history)) ∙ r.base_length;
          base_is = λ x l.
              let past : Record → Bool = λ s. not_later (order_at n s.stamp (point_of n)) in
              run_last (place_at n) base.values (λ y. get_or base.values y (pos 0)) (λ y b. refl) x (omega (arith, r.base_length)) v.history (rise_view n inv goes base r x) past
              ∙ sym (from_base n inv goes base r past removed_past x l)
              ∙ ap (last_value x) (sym (kept_by goes' past 0 h (each_from (λ i s. goes' i ≡ past s) h no_record all_past)));
        }

    -- ---- the numbers of the others
    abbrev twice : ℕ → Bool
    twice = both_tests (λ m. not (goes m)) (λ m. not (is_past v m))

    twice_is : (m : ℕ) → m < length h → twice m ≡ not (goes' m)
    twice_is m l = go (goes m) refl ∙ ap not (sym (is m l))
      where
        go : (b : Bool) → goes m ≡ b → (not b && not (is_past v (new_number goes m))) ≡ not (b || is_past n m)
        go true e = refl
        go false e = ap not (past_view m l e)

    history_collected : staying (is_past v) (staying goes h) ≡ staying goes' h
    history_collected =
        kept_twice (λ m. not (goes m)) (λ m. not (is_past v m)) 0 h
        ∙ kept_same twice (λ m. not (goes' m)) 0 h (each_from (λ m s. twice m ≡ not (goes' m)) h no_record twice_is)

    message_collected : (m : Message) → Stays (is_past n) h m → renamed (is_past v) (renamed goes m) ≡ renamed goes' m
    message_collected (commit k) s =
        ap commit (count_twice (λ m. not (goes m)) (λ m. not (is_past v m)) k ∙ count_same twice (λ m. not (goes' m)) k (λ m l. twice_is m (omega (arith, s.0))))
    message_collected (dummy t) s = refl

    lines_collected : map (renamed_line (is_past v)) v.lines ≡ map (renamed_line goes') n.lines
    lines_collected =
        map-map (renamed_line (is_past v)) (renamed_line goes) n.lines
        ∙ map_same (λ l. renamed_line (is_past v) (renamed_line goes l)) (renamed_line goes') n.lines
        (each_implied (λ (l : Line). Each (λ m. renamed (is_past v) (renamed goes m) ≡ renamed goes' m) l.messages) _
        (λ l e. ap (λ (ms : List Message). record { messages = ms; arrived = l.arrived })
        (map-map (renamed (is_past v)) (renamed goes) l.messages ∙ map_same (λ m. renamed (is_past v) (renamed goes m)) (renamed goes') l.messages e))
        n.lines (each_message _ message_collected))

    pub collect_view : collect_network v ≡ view goes' (folded_base v) n
    unfolding collect_network
    collect_view = λ i. record { sites = n.sites; items = n.items; lines = lines_collected i; history = history_collected i; base = folded_base v }

    -- ---- the flag
    folded_collected : base.folded ≡ some_below goes (length h) → (folded_base v).folded ≡ some_below goes' (length h)
    folded_collected e =
        ap₂ ◌||◌ e (ap (some_below (is_past v)) (history_view goes base n) ∙ some_twice (λ m. not (goes m)) (is_past v) (length h))
        ∙ some_below_or goes (both_tests (λ m. not (goes m)) (is_past v)) (length h)
        ∙ some_below_same _ goes' (length h) (λ m l. go m l (goes m) refl ∙ sym (is m l))
      where
        go : (m : ℕ) → m < length h → (b : Bool) → goes m ≡ b → (b || (not b && is_past v (new_number goes m))) ≡ (b || is_past n m)
        go m l true e = refl
        go m l false e = past_view m l e

-- ---- by the marks of a book, before it and after it
pub collect_folded : (n : Network) (inv : Invariant n) (marks : List Bool) (base : Base) (r : Removed n (is_removed marks) base) (marks' : List Bool)
    → ((m : ℕ) → length n.history ≤ m → is_removed marks' m ≡ false)
    → ((m : ℕ) → m < length n.history → is_removed marks' m ≡ (is_removed marks m || is_past n m))
    → base.folded ≡ any (λ (b : Bool). b) marks → (folded_base (view (is_removed marks) base n)).folded ≡ any (λ (b : Bool). b) marks'
collect_folded n inv marks base r marks' few is e =
    folded_collected n inv (is_removed marks) base r (is_removed marks') few is (e ∙ some_marked marks (length n.history) r.few)
    ∙ sym (some_marked marks' (length n.history) few)

-- the book's marks after it, commit by commit
module _ (place : ℕ → ℕ) (b : Book) (marks : List Bool) where
  abbrev many : ℕ
  many = length b.commits

  abbrev mark : ℕ → Bool
  mark m = is_removed marks m || not_later (order_by place (record_at b.commits m).stamp (earliest_stamp place b.stamps))

  pub collected_few : (m : ℕ) → many ≤ m → is_removed (collected place b marks) m ≡ false
  collected_few m l = get_or-eq_default (collected place b marks) false {n = m} (omega (arith, length-map (up_to 0 many) mark, numbers_length 0 many))

  pub collected_at : (m : ℕ) → m < many → is_removed (collected place b marks) m ≡ mark m
  collected_at m l = let same : 0 + m ≡ m = omega arith in table_at mark 0 many m false l ∙ ap mark same
