-- A collect keeps a network well shaped, and what it removes and keeps are all.
use mathlib.Core.Path.{◌≡◌, refl, sym, ap, ap₂, subst, ◌∙◌}
use mathlib.Core.Bool.{Bool, true, false, not, ◌||◌, or-true, or-false as no_more}
use mathlib.Core.List.{List, [], ◌∷◌, map}
use Prim.Native.Nat.{ℕ, ◌/◌, ◌%◌, ◌<◌}
use native.Mathlib.Omega.{arith}
use lib.IntN.{ℤ}
use lib.ListN.{length, get_or, length-map, get_or-map}
use lib.Dec.{eqb, ltb}
use borrow.Author.Tests.{lt-ltb, ltb-true}
use Rattle.limits.specs.Limits.{sites_most}
use Rattle.lists.specs.Lists.{every, any, is_empty, some_below}
use Rattle.lists.specs.Numbers.{number_if}
use Rattle.lists.proofs.Every.{and_true, every_at, every_all}
use Rattle.lists.proofs.Some.{none_at, none_below}
use Rattle.lists.proofs.Numbers.{or_false}
use Rattle.lists.proofs.Chains.{Each, keep_none}
use Rattle.lists.proofs.Sorting.{each_sorted}
use Rattle.lists.proofs.Renumber.{count_both, count_rises, keep_length, keep_at, keep_every}
use Rattle.timestamp_order.specs.Order.{order_by, not_later}
use Rattle.placement.specs.Placement.{Item, is_line}
use Rattle.messages.specs.Messages.{Message, commit, dummy}
use Rattle.lines.specs.Lines.{Line, no_line}
use Rattle.records.specs.Records.{Record, record_fits}
use Rattle.protocol.specs.Network.{Network, Base, no_record, record_at, place_of, message_fits, is_zero, base_fits, well_shaped}
use Rattle.protocol.specs.Run.{Turn, numbered, comes_first, in_turn, is_up_to, after}
use Rattle.protocol.specs.Collect.{point_of, is_past, staying, new_number, names_one, renamed, renamed_line, collect_number, folded_base, collect_network, removed_by, RemovedAndKept}
use Rattle.protocol.proofs.Places.{place_at}
use Rattle.protocol.proofs.WellShaped.{LineShape, Shape, record_parts, record_whole, shape_parts, shape_whole}
use Rattle.protocol.proofs.Turns.{each_number}

-- ---- where some commits go, and no message names one of them
module _ (goes : ℕ → Bool) (h : List Record) where
  abbrev stays : ℕ → Bool
  stays k = not (goes k)

  -- a commit that stays has a new number, and under it the same record
  module _ (k : ℕ) (there : k < length h) (e : goes k ≡ false) where
    pub new_there : new_number goes k < length (staying goes h)
    new_there = omega (arith, keep_length stays h, count_rises stays k (length h) (ap not e) there)

    pub new_record : record_at (staying goes h) (new_number goes k) ≡ record_at h k
    new_record = keep_at stays h k no_record there (ap not e)

  renamed_fits : (place : ℕ → ℕ) (p : ℕ) (m : Message) → names_one goes m ≡ false → message_fits place h p m ≡ true → message_fits place (staying goes h) p (renamed goes m) ≡ true
  renamed_fits place p (commit k) e f =
      let q = and_true (ltb k (length h)) (eqb (record_at h k).site p) f in
      let there : k < length h = ltb-true k (length h) q.0 in
      rw (lt-ltb (new_number goes k) (length (staying goes h)) (new_there k there e), new_record k there e) q.1
  renamed_fits place p (dummy t) e f = f

  messages_fit : (place : ℕ → ℕ) (p : ℕ) (ms : List Message) → any (names_one goes) ms ≡ false → every (message_fits place h p) ms ≡ true → every (message_fits place (staying goes h) p) (map (renamed goes) ms) ≡ true
  messages_fit place p [] e f = refl
  messages_fit place p (m ∷ ms) e f =
      let none = or_false (names_one goes m) (any (names_one goes) ms) e in
      let fit = and_true (message_fits place h p m) (every (message_fits place h p) ms) f in
      rw (renamed_fits place p m none.0 fit.0) (messages_fit place p ms none.1 fit.1)

  still_empty : (ms : List Message) → is_empty (map (renamed goes) ms) ≡ is_empty ms
  still_empty [] = refl
  still_empty (m ∷ ms) = refl

  line_fits_lem : (xs : List Item) (k : ℕ) (l : Line) → any (names_one goes) l.messages ≡ false → LineShape xs h k l → LineShape xs (staying goes h) k (renamed_line goes l)
  line_fits_lem xs k l e s =
      record {
        held = omega (arith, length-map l.messages (renamed goes), s.held);
        placed = ap (λ (b : Bool). b || is_line xs (k / sites_most) (k % sites_most)) (still_empty l.messages) ∙ s.placed;
        fitting = messages_fit (place_of xs) (k / sites_most) l.messages e s.fitting;
      }

-- ---- what the commits that go leave
module _ (n : Network) where
  -- none goes: the base values are as they were
  none_folded : some_below (is_past n) (length n.history) ≡ false → (folded_base n).values ≡ n.base.values
  none_folded e =
      let place = place_of n.items in
      let early : Record → Type 0 = λ r. not_later (order_by place r.stamp (point_of n)) ≡ false in
      let none : Each (λ (c : Turn). early c.commit) (in_turn place n.history)
      = each_sorted (comes_first place) (λ (c : Turn). early c.commit) (numbered 0 n.history) (each_number n.history (λ c. early c.commit) (λ k h. none_below (is_past n) (length n.history) k e h)) in
      ap (after n.base.values) (keep_none (is_up_to place (point_of n)) (in_turn place n.history) none)

  folded_fits : base_fits n.base ≡ true → base_fits (folded_base n) ≡ true
  folded_fits e = go (some_below (is_past n) (length n.history)) refl
    where
      go : (b : Bool) → some_below (is_past n) (length n.history) ≡ b → base_fits (folded_base n) ≡ true
      go true f = ap (λ (b : Bool). (n.base.folded || b) || every is_zero (folded_base n).values) f ∙ ap (λ (b : Bool). b || every is_zero (folded_base n).values) (or-true n.base.folded)
      go false f = ap₂ (λ (b : Bool) (vs : List ℤ). (n.base.folded || b) || every is_zero vs) f (none_folded f) ∙ ap (λ (b : Bool). b || every is_zero n.base.values) (no_more n.base.folded) ∙ e

  -- where a collect is not refused no line names a commit that goes
  pub none_named : collect_number n ≡ 0 → (k : ℕ) → k < length n.lines → any (names_one (is_past n)) (get_or n.lines k no_line).messages ≡ false
  unfolding collect_number
  none_named z k h = none_at names n.lines k no_line (go (any names n.lines) z) h
    where
      names : Line → Bool
      names l = any (names_one (is_past n)) l.messages

      go : (b : Bool) → number_if b 6 ≡ 0 → b ≡ false
      go true e = absurd (omega arith)
      go false e = refl

-- a network without the commits that go, and with what they left
abbrev pub left_by : (ℕ → Bool) → Base → Network → Network
left_by goes base n = record { sites = n.sites; items = n.items; lines = map (renamed_line goes) n.lines; history = staying goes n.history; base = base }

pub keeps_left : (n : Network) (goes : ℕ → Bool) (base : Base) → Shape n → ((k : ℕ) → k < length n.lines → any (names_one goes) (get_or n.lines k no_line).messages ≡ false) → base_fits base ≡ true
    → well_shaped (left_by goes base n) ≡ true
keeps_left n goes base s none fits-base =
    let fits = record_fits (place_at n) (length n.sites) (length n.items) in
    let kept : every fits (staying goes n.history) ≡ true
    = keep_every fits (λ k. not (goes k)) 0 n.history
    (every_all fits n.history no_record (λ k h. record_whole (place_at n) (length n.sites) (length n.items) (record_at n.history k) (s.records k h))) in
    shape_whole (left_by goes base n)
    (record {
      placed = s.placed;
      stamps = s.stamps;
      records = λ k h. record_parts (place_at n) (length n.sites) (length n.items) (record_at (staying goes n.history) k) (every_at fits (staying goes n.history) k no_record kept h);
      lined = λ k h.
          let there : k < length n.lines = omega (arith, length-map n.lines (renamed_line goes)) in
          subst (LineShape n.items (staying goes n.history) k) (sym (get_or-map (renamed_line goes) n.lines k no_line))
          (line_fits_lem goes n.history n.items k (get_or n.lines k no_line) (none k there) (s.lined k there));
      based = fits-base;
    })

pub keeps_collect : (n : Network) → well_shaped n ≡ true → collect_number n ≡ 0 → well_shaped (collect_network n) ≡ true
unfolding collect_network
keeps_collect n w z = let s = shape_parts n w in keeps_left n (is_past n) (folded_base n) s (none_named n z) (folded_fits n s.based)

pub removed_and_kept : RemovedAndKept
unfolding RemovedAndKept collect_network removed_by
removed_and_kept n z = rw z (omega (arith, keep_length (λ k. not (is_past n k)) n.history, count_both (is_past n) (length n.history)))
