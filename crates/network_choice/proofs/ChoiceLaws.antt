-- Which message a schedule takes: its number, cause by cause, and the parent that is chosen.
use mathlib.Core.Path.{◌≡◌, refl, sym, ap, ap₂, ◌∙◌}
use mathlib.Core.Bool.{Bool, true, false, cond, ◌||◌}
use mathlib.Core.List.{List}
use Prim.Native.Nat.{ℕ, ◌+◌, ◌≤◌, ◌<◌}
use native.Mathlib.Omega.{arith}
use native.Mathlib.Numerals.{add-one}
use lib.ListN.{length, get_or}
use lib.Dec.{eqb, ltb, leb}
use borrow.Author.Tests.{ltb-true, le-leb, lt-leb}
use Rattle.lists.proofs.Every.{and_true}
use Rattle.timestamp_order.specs.Timestamp.{Stamp}
use Rattle.timestamp.specs.declared.Timestamp.{Timestamp}
use Rattle.limits.specs.Limits.{sites_most, records_most}
use Rattle.placement.specs.Placement.{is_line}
use Rattle.messages.specs.Messages.{Message, commit, dummy, name_of, own_stamp}
use Rattle.protocol.specs.Network.{Network, no_record, line_number, message_stamp, place_of, message_fits}
use Rattle.protocol.specs.Steps.{head, head_stamp, head_earlier, earlier_of, earliest}
use Rattle.network_layout.specs.InWords.{network_in}
use Rattle.network_layout.specs.At.{AtSite, AtLine}
use Rattle.network_choice.specs.Choice.{Best, Leading, Choosing}
use Rattle.network_layout.proofs.OnNetwork.{well_on, few_on, at_site, at_line, at_record}
use Rattle.network_lines.specs.First.{first_on}
use Rattle.protocol.proofs.WellShaped.{Shape, shape_parts}
use Rattle.protocol.proofs.Allowed.{schedule_allowed}
use Rattle.protocol.proofs.Chosen.{parent_ends, parent_fits, chosen_line}

-- ---- the best parent so far, and one more
module _ (n : Network) (j p parent : ℕ) (b : Leading n j p parent) where
  step : (r : ℕ) → cond (is_line n.items p j) (earlier_of n j p parent) parent ≡ r → r ≡ earliest n j (p + 1)
  unfolding earliest
  step r e = sym (ap (earliest n j) (add-one p) ∙ ap (λ (q : ℕ). cond (is_line n.items p j) (earlier_of n j p q) q) (sym b.is) ∙ e)

  pub better_none : is_line n.items p j ≡ false → Leading n j (p + 1) parent
  better_none e = record { is = step parent (ap (λ (x : Bool). cond x (earlier_of n j p parent) parent) e); line = b.line }

  module _ (line : is_line n.items p j ≡ true) where
    compared : (x y : Bool) → leb sites_most parent ≡ x → head_earlier n j p parent ≡ y → cond (x || y) p parent ≡ cond (is_line n.items p j) (earlier_of n j p parent) parent
    compared x y e f = sym (ap (λ (z : Bool). cond z (earlier_of n j p parent) parent) line ∙ ap₂ (λ (u v : Bool). cond (u || v) p parent) e f)

    pub better_first : sites_most ≤ parent → Leading n j (p + 1) p
    better_first h =
        let y = head_earlier n j p parent in
        record { is = step p (sym (compared true y (le-leb sites_most parent h) refl)); line = λ _. line }

    -- both messages are compared
    module _ (low : parent < sites_most) where
      pub better_earlier : head_earlier n j p parent ≡ true → Leading n j (p + 1) p
      better_earlier e = record { is = step p (sym (compared false true (lt-leb sites_most parent low) e)); line = λ _. line }

      pub better_not : head_earlier n j p parent ≡ false → Leading n j (p + 1) parent
      better_not e = record { is = step parent (sym (compared false false (lt-leb sites_most parent low) e)); line = b.line }

pub best_none : (n : Network) (j : ℕ) → Leading n j 0 sites_most
unfolding earliest
best_none n j = record { is = refl; line = λ h. absurd (omega arith) }

-- ---- a message, by its name
named_commit : (m : Message) (x : ℕ) → x ≡ name_of m → x < records_most → commit x ≡ m
named_commit (commit k) x e h = ap commit e
named_commit (dummy t) x e h = absurd (omega arith)

-- ---- a schedule that is not refused, on words
module _ (w : List ℕ) (j : ℕ) (free : Choosing w j) where
  abbrev net : Network
  net = network_in w

  pub well : Shape net
  well = shape_parts net (well_on w free.net)

  pub child_site : (k : ℕ) → k ≡ j → AtSite w k
  child_site k same = at_site w free.net j k same (schedule_allowed net j free.none).there

  -- the parent that is chosen
  pub earliest_line : (p : ℕ) → p ≡ earliest net j sites_most → is_line net.items p j ≡ true
  earliest_line p e = ap (λ (q : ℕ). is_line net.items q j) e ∙ chosen_line net j (few_on w free.net) well free.none

  pub best_line : (p : ℕ) (t : Timestamp) → Best net j sites_most p t → is_line net.items p j ≡ true
  best_line p t b = earliest_line p b.is

  -- a parent's line
  module _ (p : ℕ) (line : is_line net.items p j ≡ true) where
    pub parent_few : p < sites_most
    parent_few = let up = parent_ends net j (few_on w free.net) well free.none p line in omega (arith, up.0, up.1, few_on w free.net)

    pub parent_line : (k : ℕ) → k ≡ line_number p j → AtLine w k
    parent_line k same =
        let up = parent_ends net j (few_on w free.net) well free.none p line in
        at_line w free.net p j k same parent_few (omega (arith, up.1, few_on w free.net))

    -- its oldest message, by the name that the code reads
    fits : message_fits (place_of net.items) net.history p (head net p j) ≡ true
    fits = parent_fits net j (few_on w free.net) well free.none p line

    recorded : (k : ℕ) → message_fits (place_of net.items) net.history p (commit k) ≡ true → k < length net.history
    recorded k e = ltb-true k (length net.history) (and_true (ltb k (length net.history)) (eqb (get_or net.history k no_record).site p) e).0

    named_dummy : (m : Message) → message_fits (place_of net.items) net.history p m ≡ true → records_most ≤ name_of m → dummy (own_stamp m) ≡ m
    named_dummy (commit k) e h = absurd (omega (arith, (at_record w free.net k k refl (recorded k e)).few))
    named_dummy (dummy t) e h = refl

    module _ (k : ℕ) (at : k ≡ line_number p j) (name : ℕ) (is : name ≡ name_of (first_on net k)) where
      named : name ≡ name_of (head net p j)
      named = is ∙ ap (λ (i : ℕ). name_of (first_on net i)) at

      module _ (h : records_most ≤ name) where
        pub head_dummy : dummy (own_stamp (head net p j)) ≡ head net p j
        head_dummy = named_dummy (head net p j) fits (omega (arith, named))

        pub first_dummy : name_of (first_on net k) ≡ records_most
        first_dummy = sym is ∙ named ∙ ap name_of (sym head_dummy)

        pub stamp_dummy : (s : Stamp) → s ≡ own_stamp (first_on net k) → s ≡ head_stamp net p j
        stamp_dummy s e = e ∙ ap (λ (i : ℕ). own_stamp (first_on net i)) at ∙ ap (message_stamp net.history) head_dummy

      module _ (h : name < records_most) where
        pub head_commit : commit name ≡ head net p j
        head_commit = named_commit (head net p j) name named h

        pub head_recorded : name < length net.history
        head_recorded = recorded name (ap (message_fits (place_of net.items) net.history p) head_commit ∙ fits)

        pub stamp_commit : (s : Stamp) (i : ℕ) → i ≡ name → s ≡ (get_or net.history i no_record).stamp → s ≡ head_stamp net p j
        stamp_commit s i same e = e ∙ ap (λ (x : ℕ). (get_or net.history x no_record).stamp) same ∙ ap (message_stamp net.history) head_commit
