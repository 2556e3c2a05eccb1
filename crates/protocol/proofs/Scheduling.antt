-- Schedules at one site until refused: what they leave as it was, that they end, and which epoch they reach.
use mathlib.Core.Path.{◌≡◌, refl, sym, ap, subst, ◌∙◌}
use mathlib.Core.Bool.{Bool, true, false, cond, ◌&&◌}
use mathlib.Core.List.{List, [], ◌∷◌}
use Prim.Native.Nat.{ℕ, zero, suc, ◌-◌, ◌≤◌, ◌<◌}
use native.Mathlib.Omega.{arith}
use lib.ListN.{length, get_or, drop, length-set, length-drop, length-append}
use lib.Seq.{get_or-set_same, get_or-set_other}
use lib.Dec.{eqb, ltb}
use borrow.Author.Tests.{eqb-true, eqb-false, eq-eqb, ne_eqb, ltb-true, ltb-false}
use Rattle.limits.specs.Limits.{sites_most}
use Rattle.lists.proofs.Some.{none_all}
use Rattle.timestamp_order.specs.Timestamp.{Pair, Stamp, own_count}
use Rattle.timestamp_order.proofs.OrderLaws.{own_appended}
use Rattle.placement.specs.Placement.{Item, is_line, has_parents}
use Rattle.site.specs.Site.{Site, received}
use Rattle.lines.specs.Lines.{Line, taken}
use Rattle.messages.specs.Messages.{Message, commit}
use Rattle.records.specs.Records.{Record}
use Rattle.protocol.specs.Network.{Network, no_site, site_at, line_at, line_number, message_stamp, well_shaped}
use Rattle.protocol.specs.Steps.{schedule_number, schedule_network, lacks_arrived, chosen, head, writes_for}
use Rattle.protocol.specs.Waiting.{into_below, into}
use Rattle.protocol.specs.Round.{walked, schedule_calls}
use Rattle.protocol.specs.Calls.{Call, schedule, AllPass, SchedulesUntilRefused}
use Rattle.protocol.proofs.WellShaped.{Shape, shape_parts}
use Rattle.protocol.proofs.Allowed.{allowed_schedule}
use Rattle.protocol.proofs.Chosen.{chosen_line, chosen_held, parent_held, parent_number, parent_ends, received_stamp, keeps_schedule}
use Rattle.protocol.proofs.Schedule.{get_d_rest}
use Rattle.protocol.proofs.Walks.{schedule_passes}
use Rattle.protocol.proofs.Hearing.{Hears, hears_nothing, hears_more, line_other, line_each}

-- ---- a schedule at j that is not refused
module _ (n : Network) (j : ℕ) (w : well_shaped n ≡ true) (few : length n.sites ≤ sites_most) (z : schedule_number n j ≡ 0) where
  abbrev whole : Shape n
  whole = shape_parts n w

  abbrev from : ℕ
  from = chosen n j

  -- the line from the chosen parent, without its oldest message
  abbrev rest : Line
  rest = taken (line_at n from j)

  abbrev new : Site
  new = let m = head n from j in received (writes_for n j m) (message_stamp n.history m) (site_at n j)

  is_line_lem : is_line n.items from j ≡ true
  is_line_lem = chosen_line n j few whole z

  line_there : line_number from j < length n.lines
  line_there = parent_number n j few whole z from is_line_lem

  site_there : j < length n.sites
  site_there = (parent_ends n j few whole z from is_line_lem).1

  close : j < sites_most
  close = omega (arith, site_there, few)

  -- each line into j: the chosen one has its oldest message taken off
  pub schedule_lines : (holds : ℕ → Line → Type 0) → holds from rest → ((q : ℕ) → (q ≡ from → ⊥) → holds q (line_at n q j)) → (q : ℕ) → holds q (line_at (schedule_network n j) q j)
  unfolding schedule_network
  schedule_lines holds = line_each n from j rest close holds line_there

  pub schedule_site : site_at (schedule_network n j) j ≡ new
  unfolding schedule_network
  schedule_site = get_or-set_same n.sites j new no_site site_there

  pub schedule_hears : Hears j n (schedule_network n j)
  unfolding schedule_network
  schedule_hears =
      record {
        shape = keeps_schedule n j few w z;
        many = length-set n.sites j new;
        items_same = refl;
        history_same = refl;
        lines_many = length-set n.lines (line_number from j) rest;
        sites_same = λ i e. get_or-set_other n.sites j i new no_site e;
        lines_same = line_other n from j rest close;
        no_longer = schedule_lines (λ q l. length l.messages ≤ length (line_at n q j).messages) (omega (arith, length-drop 1 (line_at n from j).messages)) (λ q e. omega arith);
        count_same = ap (λ (s : Site). own_count s.stamp) schedule_site ∙ ap own_count (received_stamp n j few whole z) ∙ ap (λ (x : Pair). x.count) (own_appended (message_stamp n.history (head n from j)) j (own_count (site_at n j).stamp));
      }

  -- one message less is on the lines into j
  abbrev held_at : Network → ℕ → ℕ
  held_at m q = length (line_at m q j).messages

  beside_same : (q : ℕ) → (q ≡ from → ⊥) → held_at (schedule_network n j) q ≡ held_at n q
  beside_same = schedule_lines (λ q l. (q ≡ from → ⊥) → length l.messages ≡ held_at n q) (λ e. absurd (e refl)) (λ q e f. refl)

  here_less : suc (held_at (schedule_network n j) from) ≡ held_at n from
  here_less = schedule_lines (λ q l. q ≡ from → suc (length l.messages) ≡ held_at n from) (λ e. omega (arith, length-drop 1 (line_at n from j).messages, chosen_held n j few whole z)) (λ q e f. absurd (e f)) from refl

  into_before : (k : ℕ) → k ≤ from → length (into_below (schedule_network n j) j k) ≡ length (into_below n j k)
  into_before zero h = refl
  into_before (suc q) h =
      let m = schedule_network n j in
      omega (arith, length-append (into_below m j q) (line_at m q j).messages, length-append (into_below n j q) (line_at n q j).messages, into_before q (omega arith), beside_same q (λ e. omega arith))

  into_after : (k : ℕ) → from < k → suc (length (into_below (schedule_network n j) j k)) ≡ length (into_below n j k)
  into_after zero h = absurd (omega arith)
  into_after (suc q) h = go (eqb q from) refl (into_after q)
    where
      m : Network
      m = schedule_network n j

      go : (b : Bool) → eqb q from ≡ b → (from < q → suc (length (into_below m j q)) ≡ length (into_below n j q)) → suc (length (into_below m j (suc q))) ≡ length (into_below n j (suc q))
      go true e before =
          let same : from ≡ q = sym (eqb-true q from e) in
          let less : suc (held_at m q) ≡ held_at n q = subst (λ (i : ℕ). suc (held_at m i) ≡ held_at n i) same here_less in
          omega (arith, length-append (into_below m j q) (line_at m q j).messages, length-append (into_below n j q) (line_at n q j).messages, into_before q (omega arith))
      go false e before =
          let other = eqb-false q from e in
          omega (arith, length-append (into_below m j q) (line_at m q j).messages, length-append (into_below n j q) (line_at n q j).messages, before (omega arith), beside_same q other)

  pub schedule_less : suc (length (into (schedule_network n j) j)) ≡ length (into n j)
  schedule_less = into_after sites_most (omega (arith, (parent_ends n j few whole z from is_line_lem).0, few))

-- ---- schedules at j until refused
-- where the first is refused there is none
pub refused_none : (n : Network) (j : ℕ) → (schedule_number n j ≡ 0 → ⊥) → (most : ℕ) → schedule_calls most n j ≡ []
unfolding schedule_calls
refused_none n j other zero = refl
refused_none n j other (suc most) = rw (ne_eqb (schedule_number n j) 0 other)

module _ (j : ℕ) where
  pub record Scheduled (n : Network) (cs : List Call) : Type 0 where
    pub accepted : AllPass n cs
    pub hears : Hears j n (walked n cs)

  pub all_scheduled : (most : ℕ) (n : Network) → well_shaped n ≡ true → length n.sites ≤ sites_most → Scheduled n (schedule_calls most n j)
  unfolding schedule_calls
  all_scheduled zero n w few = record { accepted = tt; hears = hears_nothing j n w }
  all_scheduled (suc most) n w few = go (eqb (schedule_number n j) 0) refl (all_scheduled most (schedule_network n j))
    where
      next : Network
      next = schedule_network n j

      go : (b : Bool) → eqb (schedule_number n j) 0 ≡ b → (well_shaped next ≡ true → length next.sites ≤ sites_most → Scheduled next (schedule_calls most next j)) → Scheduled n (cond b (schedule j ∷ schedule_calls most next j) [])
      go false e then = record { accepted = tt; hears = hears_nothing j n w }
      go true e then =
          let z = eqb-true (schedule_number n j) 0 e in
          let one = schedule_hears n j w few z in
          let more = then one.shape (omega (arith, one.many, few)) in
          record { accepted = (schedule_passes n j z, more.accepted); hears = hears_more j n next (walked next (schedule_calls most next j)) one more.hears }

  until_refused : (most : ℕ) (n : Network) → well_shaped n ≡ true → length n.sites ≤ sites_most → length (into n j) ≤ most → schedule_number (walked n (schedule_calls most n j)) j ≡ 0 → ⊥
  unfolding schedule_calls
  until_refused zero n w few h z = omega (arith, schedule_less n j w few z)
  until_refused (suc most) n w few h z = go (eqb (schedule_number n j) 0) refl z (until_refused most (schedule_network n j))
    where
      next : Network
      next = schedule_network n j

      go : (b : Bool) → eqb (schedule_number n j) 0 ≡ b → schedule_number (walked n (cond b (schedule j ∷ schedule_calls most next j) [])) j ≡ 0
          → (well_shaped next ≡ true → length next.sites ≤ sites_most → length (into next j) ≤ most → schedule_number (walked next (schedule_calls most next j)) j ≡ 0 → ⊥) → ⊥
      go false e y then = eqb-false (schedule_number n j) 0 e y
      go true e y then =
          let first = eqb-true (schedule_number n j) 0 e in
          let one = schedule_hears n j w few first in
          then one.shape (omega (arith, one.many, few)) (omega (arith, schedule_less n j w few first)) y

pub schedules_until_refused : SchedulesUntilRefused
unfolding SchedulesUntilRefused
schedules_until_refused n j w few = until_refused j (length (into n j)) n w few (omega arith)

-- ---- an epoch with which every line into j ends
-- the newest message
abbrev pub newest : List Message → Message
newest ms = get_or ms (length ms - 1) (commit 0)

module _ (e : ℕ) where
  -- a line holds something, and its newest message is of that epoch or a later one
  abbrev pub EndsIn : List Record → List Message → Type 0
  EndsIn h ms = (0 < length ms) × (e ≤ (message_stamp h (newest ms)).epoch)

  -- every line into j does, and all that it holds has arrived
  pub record Ready (n : Network) (j : ℕ) : Type 0 where
    pub ends : (q : ℕ) → is_line n.items q j ≡ true → EndsIn n.history (line_at n q j).messages
    pub arrived : (q : ℕ) → is_line n.items q j ≡ true → length (line_at n q j).messages ≤ (line_at n q j).arrived

  rest_ends : (h : List Record) (ms : List Message) → EndsIn h ms → 0 < length (drop 1 ms) → EndsIn h (drop 1 ms)
  rest_ends h ms (some, late) l =
      let at : suc (length (drop 1 ms) - 1) ≡ length ms - 1 = omega (arith, length-drop 1 ms) in
      (l, subst (λ (m : Message). e ≤ (message_stamp h m).epoch) (sym (get_d_rest ms (length (drop 1 ms) - 1) ∙ ap (λ (i : ℕ). get_or ms i (commit 0)) at)) late)

  -- a site that is ready, and has parents, is not refused
  ready_number : (n : Network) (j : ℕ) → j < length n.sites → has_parents n.items j ≡ true → Ready n j → schedule_number n j ≡ 0
  ready_number n j there parents ready = allowed_schedule n j (record { there = there; parents = parents; all_arrived_lem = none_all (lacks_arrived n j) sites_most (λ q l. go q (is_line n.items q j) refl) })
    where
      go : (q : ℕ) (b : Bool) → is_line n.items q j ≡ b → (b && eqb (line_at n q j).arrived 0) ≡ false
      go q false f = refl
      go q true f = ne_eqb (line_at n q j).arrived 0 (λ none. omega (arith, ready.arrived q f, (ready.ends q f).0))

  -- it schedules until it has taken the last message of some line, and is then in that epoch
  module _ (n : Network) (j : ℕ) (w : well_shaped n ≡ true) (few : length n.sites ≤ sites_most) (z : schedule_number n j ≡ 0) (ready : Ready n j) where
    abbrev next : Network
    next = schedule_network n j

    abbrev p : ℕ
    p = chosen n j

    abbrev ms : List Message
    ms = (line_at n p j).messages

    same_line : (q : ℕ) → is_line next.items q j ≡ true → is_line n.items q j ≡ true
    same_line q f = ap (λ (xs : List Item). is_line xs q j) (sym (schedule_hears n j w few z).items_same) ∙ f

    same_history : next.history ≡ n.history
    same_history = (schedule_hears n j w few z).history_same

    still_ready : 1 < length ms → Ready next j
    still_ready more =
        record {
          ends = λ q f. schedule_lines n j w few z (λ i l. is_line n.items i j ≡ true → EndsIn next.history l.messages)
              (λ g. subst (λ (h : List Record). EndsIn h (drop 1 ms)) (sym same_history) (rest_ends n.history ms (ready.ends p g) (omega (arith, length-drop 1 ms))))
              (λ i o g. subst (λ (h : List Record). EndsIn h (line_at n i j).messages) (sym same_history) (ready.ends i g))
              q (same_line q f);
          arrived = λ q f. schedule_lines n j w few z (λ i l. is_line n.items i j ≡ true → length l.messages ≤ l.arrived)
              (λ g. omega (arith, length-drop 1 ms, ready.arrived p g))
              (λ i o g. ready.arrived i g)
              q (same_line q f);
        }

    took_last : length ms ≤ 1 → e ≤ (site_at next j).stamp.epoch
    took_last one =
        let ends = ready.ends p (chosen_line n j few (shape_parts n w) z) in
        let at : length ms - 1 ≡ 0 = omega arith in
        let late : e ≤ (message_stamp n.history (head n p j)).epoch = subst (λ (i : ℕ). e ≤ (message_stamp n.history (get_or ms i (commit 0))).epoch) at ends.1 in
        let same : (site_at next j).stamp.epoch ≡ (message_stamp n.history (head n p j)).epoch
        = ap (λ (s : Site). s.stamp.epoch) (schedule_site n j w few z) ∙ ap (λ (t : Stamp). t.epoch) (received_stamp n j few (shape_parts n w) z) in
        omega arith

    -- a line that is empty refuses the next
    then_refused : length ms ≤ 1 → schedule_number next j ≡ 0 → ⊥
    then_refused one y =
        let h = schedule_hears n j w few z in
        let line : is_line next.items p j ≡ true = ap (λ (xs : List Item). is_line xs p j) h.items_same ∙ chosen_line n j few (shape_parts n w) z in
        let held = parent_held next j (omega (arith, h.many, few)) (shape_parts next h.shape) y p line in
        let left : length (line_at next p j).messages ≡ 0 = schedule_lines n j w few z (λ i l. i ≡ p → length l.messages ≡ 0) (λ g. omega (arith, length-drop 1 ms)) (λ i o g. absurd (o g)) p refl in
        omega arith

  pub reaches_epoch : (most : ℕ) (n : Network) (j : ℕ) → well_shaped n ≡ true → length n.sites ≤ sites_most → j < length n.sites → has_parents n.items j ≡ true → Ready n j → length (into n j) ≤ most
      → e ≤ (site_at (walked n (schedule_calls most n j)) j).stamp.epoch
  unfolding schedule_calls
  reaches_epoch zero n j w few there parents ready h = absurd (omega (arith, schedule_less n j w few (ready_number n j there parents ready)))
  reaches_epoch (suc most) n j w few there parents ready h =
      let z = ready_number n j there parents ready in
      let next = schedule_network n j in
      subst (λ (b : Bool). e ≤ (site_at (walked n (cond b (schedule j ∷ schedule_calls most next j) [])) j).stamp.epoch) (sym (eq-eqb (schedule_number n j) 0 z))
      (go z (ltb 1 (length (line_at n (chosen n j) j).messages)) refl (reaches_epoch most next j))
    where
      next : Network
      next = schedule_network n j

      go : (z : schedule_number n j ≡ 0) → (b : Bool) → ltb 1 (length (line_at n (chosen n j) j).messages) ≡ b
          → (well_shaped next ≡ true → length next.sites ≤ sites_most → j < length next.sites → has_parents next.items j ≡ true → Ready next j → length (into next j) ≤ most → e ≤ (site_at (walked next (schedule_calls most next j)) j).stamp.epoch)
          → e ≤ (site_at (walked next (schedule_calls most next j)) j).stamp.epoch
      go z true f then =
          let one = schedule_hears n j w few z in
          then one.shape (omega (arith, one.many, few)) (omega (arith, one.many, there)) (ap (λ (xs : List Item). has_parents xs j) one.items_same ∙ parents)
          (still_ready n j w few z ready (ltb-true 1 (length (line_at n (chosen n j) j).messages) f)) (omega (arith, schedule_less n j w few z, h))
      go z false f then =
          let one : length (line_at n (chosen n j) j).messages ≤ 1 = ltb-false 1 (length (line_at n (chosen n j) j).messages) f in
          subst (λ (cs : List Call). e ≤ (site_at (walked next cs) j).stamp.epoch) (sym (refused_none next j (then_refused n j w few z ready one) most)) (took_last n j w few z ready one)
