-- The parent that a schedule chooses has a message that has arrived, and taking it keeps a network well shaped.
use mathlib.Core.Path.{◌≡◌, refl, sym, ap, ◌∙◌}
use mathlib.Core.Bool.{Bool, true, false, cond, ◌&&◌, ◌||◌, true≢false}
use mathlib.Core.List.{List, [], ◌∷◌}
use Prim.Native.Nat.{ℕ, zero, suc, ◌/◌, ◌%◌, ◌≤◌, ◌<◌}
use native.Mathlib.Omega.{arith}
use lib.ListN.{length, get_or, drop, length-drop, get_or-eq_default}
use lib.Dec.{eqb, ltb, leb}
use borrow.Author.Tests.{leb-true, leb-false, ltb-true, eqb-true, eqb-false, eq-eqb}
use Rattle.lists.proofs.Every.{and_true, every_at, every_rest}
use Rattle.timestamp_order.specs.Timestamp.{appended, appended_or_same, own_site, own_count}
use Rattle.timestamp_order.specs.Made.{made_by}
use Rattle.timestamp_order.proofs.Made.{made_parts, made_length, made_appended}
use Rattle.timestamp_order.proofs.Timestamp.{append_room}
use Rattle.site.specs.Site.{received}
use Rattle.placement.specs.Masks.{bit}
use Rattle.placement.specs.Placement.{Item, no_item, is_line, has_parents}
use Rattle.placement.specs.Places.{placement_number}
use Rattle.limits.specs.Limits.{sites_most}
use Rattle.lists.proofs.Some.{some_at, some_index, none_below}
use Rattle.lines.specs.Lines.{Line, no_line, taken}
use Rattle.messages.specs.Messages.{Message, commit, dummy}
use Rattle.records.specs.Records.{Record}
use Rattle.protocol.specs.Network.{Network, no_record, site_at, line_at, line_number, message_stamp, place_of, message_fits, well_shaped}
use Rattle.lists.specs.Lists.{is_empty}
use Rattle.protocol.specs.Steps.{schedule_number, head, head_stamp, head_earlier, earlier_of, earliest, chosen, writes_for, schedule_network, lacks_arrived}
use Rattle.lists.proofs.Lists.{set_each}
use Rattle.protocol.proofs.Places.{line_rises, child_place, line_ends, place_at}
use Rattle.protocol.proofs.WellShaped.{LineShape, Shape, shape_parts, shape_whole}
use Rattle.protocol.proofs.Keeps.{placed_set, stamps_set, records_set}
use Rattle.protocol.specs.Allowed.{ScheduleAllowed}
use Rattle.protocol.proofs.Allowed.{schedule_allowed}

either : (holds : ℕ → Type 0) (b : Bool) (p q : ℕ) → holds p → holds q → holds (cond b p q)
either holds true p q x y = x
either holds false p q x y = y

-- ---- the parent with the earliest message
module _ (n : Network) (j : ℕ) where
  -- it is a parent, where it is a site
  pub earliest_line : (k : ℕ) → earliest n j k < sites_most → is_line n.items (earliest n j k) j ≡ true
  unfolding earliest
  earliest_line zero = λ h. absurd (omega arith)
  earliest_line (suc p) = go (is_line n.items p j) refl (earliest n j p) (earliest_line p)
    where
      go : (b : Bool) → is_line n.items p j ≡ b → (best : ℕ) → (best < sites_most → is_line n.items best j ≡ true)
          → cond b (earlier_of n j p best) best < sites_most → is_line n.items (cond b (earlier_of n j p best) best) j ≡ true
      go true e best rest = either (λ q. q < sites_most → is_line n.items q j ≡ true) (leb sites_most best || head_earlier n j p best) p best (λ h. e) rest
      go false e best rest = rest

  -- it is a site, where there is a parent
  pub earliest_site : (k p : ℕ) → p < k → k ≤ sites_most → is_line n.items p j ≡ true → earliest n j k < sites_most
  unfolding earliest
  earliest_site zero p h few e = absurd (omega arith)
  earliest_site (suc q) p h few e = go (is_line n.items q j) refl (earliest n j q) (earliest_site q p)
    where
      best_or : (best : ℕ) (b : Bool) → leb sites_most best ≡ b → cond (b || head_earlier n j q best) q best < sites_most
      best_or best true t = omega arith
      best_or best false t = either (λ r. r < sites_most) (head_earlier n j q best) q best (omega arith) (leb-false sites_most best t)

      go : (b : Bool) → is_line n.items q j ≡ b → (best : ℕ) → (p < q → q ≤ sites_most → is_line n.items p j ≡ true → best < sites_most) → cond b (earlier_of n j q best) best < sites_most
      go true t best rest = best_or best (leb sites_most best) refl
      go false t best rest =
          let other : p ≡ q → ⊥ = λ same. true≢false (sym e ∙ ap (λ (r : ℕ). is_line n.items r j) same ∙ t) in
          rest (omega arith) (omega arith) e

  pub chosen_parent : placement_number (length n.sites) n.items ≡ 0 → length n.sites ≤ sites_most → has_parents n.items j ≡ true → (is_line n.items (chosen n j) j ≡ true) × (chosen n j < sites_most)
  unfolding has_parents is_line
  chosen_parent z few e =
      let f = some_index (λ (x : Item). bit x.mask j) n.items no_item e in
      let p = (get_or n.items f.0 no_item).primary in
      let line : is_line n.items p j ≡ true
      = some_at (λ (x : Item). eqb x.primary p && bit x.mask j) n.items f.0 no_item f.1 (rw (eq-eqb p p refl) f.2) in
      let ends = line_ends (length n.sites) n.items p j z line in
      let site : chosen n j < sites_most = earliest_site sites_most p (omega (arith, ends.0)) (omega arith) line in
      (earliest_line sites_most site, site)

-- ---- the timestamp of a message that fits
pub message_made : (n : Network) (s : Shape n) (p : ℕ) (m : Message) → message_fits (place_at n) n.history p m ≡ true → made_by (place_at n) p (message_stamp n.history m) ≡ true
message_made n s p (commit k) e =
    let r = get_or n.history k no_record in
    let q = and_true (ltb k (length n.history)) (eqb r.site p) e in
    ap (λ (i : ℕ). made_by (place_at n) i r.stamp) (sym (eqb-true r.site p q.1)) ∙ (s.records k (ltb-true k (length n.history) q.0)).made
message_made n s p (dummy t) e = e

-- ---- a schedule that is not refused
and_false : (a b : Bool) → (a && b) ≡ false → a ≡ true → b ≡ false
and_false true b e f = e
and_false false b e f = absurd (true≢false (sym f))

module _ (n : Network) (j : ℕ) (few : length n.sites ≤ sites_most) (s : Shape n) (z : schedule_number n j ≡ 0) where
  allowed : ScheduleAllowed n j
  allowed = schedule_allowed n j z

  -- ---- each parent's line has a message that has arrived
  module _ (p : ℕ) (line : is_line n.items p j ≡ true) where
    pub parent_ends : (p < length n.sites) × (j < length n.sites)
    parent_ends = line_ends (length n.sites) n.items p j s.placed line

    pub parent_arrived : (line_at n p j).arrived ≡ 0 → ⊥
    parent_arrived =
        let l = line_at n p j in
        eqb-false l.arrived 0
        (and_false (is_line n.items p j) (eqb l.arrived 0)
        (none_below (lacks_arrived n j) sites_most p allowed.all_arrived_lem (omega (arith, parent_ends.0))) line)

    pub parent_number : line_number p j < length n.lines
    parent_number = go (leb (length n.lines) (line_number p j)) refl
      where
        go : (b : Bool) → leb (length n.lines) (line_number p j) ≡ b → line_number p j < length n.lines
        go true t =
            let past = leb-true (length n.lines) (line_number p j) t in
            absurd (parent_arrived (ap (λ (l : Line). l.arrived) (get_or-eq_default n.lines no_line {n = line_number p j} past)))
        go false t = leb-false (length n.lines) (line_number p j) t

    pub parent_shape : LineShape n.items n.history (line_number p j) (line_at n p j)
    parent_shape = s.lined (line_number p j) parent_number

    -- its oldest message is one of its line's
    pub parent_held : 0 < length (line_at n p j).messages
    parent_held = let some : (line_at n p j).arrived ≡ 0 → ⊥ = parent_arrived in omega (arith, parent_shape.held)

    pub parent_fits : message_fits (place_at n) n.history p (head n p j) ≡ true
    parent_fits =
        let from : line_number p j / sites_most ≡ p = omega (arith, parent_ends.1) in
        ap (λ (q : ℕ). message_fits (place_at n) n.history q (head n p j)) (sym from)
        ∙ every_at (message_fits (place_at n) n.history (line_number p j / sites_most)) (line_at n p j).messages 0 (commit 0) parent_shape.fitting parent_held

  -- ---- so has the chosen one's
  pub chosen_line : is_line n.items (chosen n j) j ≡ true
  chosen_line = (chosen_parent n j s.placed few allowed.parents).0

  pub chosen_rises : place_at n (chosen n j) < place_at n j
  chosen_rises = line_rises (length n.sites) n.items (chosen n j) j s.placed chosen_line few

  pub chosen_held : 0 < length (line_at n (chosen n j) j).messages
  chosen_held = parent_held (chosen n j) chosen_line

  pub head_made : made_by (place_at n) (chosen n j) (head_stamp n (chosen n j) j) ≡ true
  head_made = message_made n s (chosen n j) (head n (chosen n j) j) (parent_fits (chosen n j) chosen_line)

  -- the site's new timestamp: there is room for its own tuple
  pub received_stamp : appended_or_same (head_stamp n (chosen n j) j) (own_site (site_at n j).stamp) (own_count (site_at n j).stamp) ≡ appended (head_stamp n (chosen n j) j) j (own_count (site_at n j).stamp)
  received_stamp =
      let p = chosen n j in
      let t = head_stamp n p j in
      let own = (site_at n j).stamp in
      let c = own_count own in
      let last : own_site own ≡ j = (made_parts (place_at n) j own (s.stamps j allowed.there)).last in
      let inside = child_place (length n.sites) n.items p j s.placed chosen_line few in
      ap (λ (i : ℕ). appended_or_same t i c) last ∙ append_room t j c (omega (arith, made_length (place_at n) p t head_made, chosen_rises, inside))

  pub received_made : made_by (place_at n) j (appended_or_same (head_stamp n (chosen n j) j) (own_site (site_at n j).stamp) (own_count (site_at n j).stamp)) ≡ true
  received_made =
      let p = chosen n j in
      ap (made_by (place_at n) j) received_stamp ∙ made_appended (place_at n) p j (own_count (site_at n j).stamp) (head_stamp n p j) head_made chosen_rises

-- ---- the oldest message taken off a line
rest_placed : (ms : List Message) (b : Bool) → (is_empty ms || b) ≡ true → (is_empty (drop 1 ms) || b) ≡ true
rest_placed [] b e = refl
rest_placed (m ∷ []) b e = refl
rest_placed (m ∷ (m' ∷ ms)) b e = e

taken_shape : (xs : List Item) (h : List Record) (k : ℕ) (l : Line) → LineShape xs h k l → LineShape xs h k (taken l)
taken_shape xs h k l s =
    record {
      held = omega (arith, length-drop 1 l.messages, s.held);
      placed = rest_placed l.messages (is_line xs (k / sites_most) (k % sites_most)) s.placed;
      fitting = every_rest (message_fits (place_of xs) h (k / sites_most)) l.messages s.fitting;
    }

pub keeps_schedule : (n : Network) (j : ℕ) → length n.sites ≤ sites_most → well_shaped n ≡ true → schedule_number n j ≡ 0 → well_shaped (schedule_network n j) ≡ true
unfolding schedule_network
keeps_schedule n j few e z =
    let s = shape_parts n e in
    let p = chosen n j in
    let m = head n p j in
    let new = received (writes_for n j m) (message_stamp n.history m) (site_at n j) in
    shape_whole (schedule_network n j)
    (record {
      placed = placed_set n s j new;
      stamps = stamps_set n s j new (received_made n j few s z);
      records = records_set n s j new;
      lined = set_each (LineShape n.items n.history) n.lines (line_number p j) (taken (line_at n p j)) no_line s.lined
          (λ b. taken_shape n.items n.history (line_number p j) (line_at n p j) (s.lined (line_number p j) b));
      based = s.based;
    })
