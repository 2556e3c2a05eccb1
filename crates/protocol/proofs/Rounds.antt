-- A round of a well-shaped network: none of its calls is refused, and it brings every site into the new epoch.
use mathlib.Core.Path.{◌≡◌, refl, sym, ap, subst, ◌∙◌}
use mathlib.Core.Bool.{Bool, true, false, true≢false, false≢true}
use mathlib.Core.List.{List, [], ◌∷◌, map}
use mathlib.Core.Logic.{◌⊎◌, inl, inr}
use Prim.Native.Nat.{ℕ, zero, suc, ◌-◌, ◌≤◌, ◌<◌}
use native.Mathlib.Omega.{arith}
use lib.ListN.{length, get_or}
use lib.Dec.{ltb, leb}
use borrow.Author.Tests.{leb-false, ltb-true, ltb-false}
use Rattle.limits.specs.Limits.{sites_most, held_most}
use Rattle.lists.specs.Lists.{any, some_below, up_to}
use Rattle.lists.specs.Numbers.{number_if}
use Rattle.lists.proofs.Some.{none_below}
use Rattle.lists.proofs.Numbers.{none_holds, or_false}
use Rattle.timestamp_order.specs.Timestamp.{raised, greatest}
use Rattle.placement.specs.Placement.{Item, is_line, has_parents}
use Rattle.placement.specs.Places.{is_placed, site_order}
use Rattle.placement.proofs.Places.{numbers_placed, numbers_within, order_steps, placement_parts}
use Rattle.placement.proofs.Groups.{steps_below, group_placed}
use Rattle.site.specs.Site.{Site}
use Rattle.lines.specs.Lines.{Line, no_line}
use Rattle.protocol.specs.Network.{lines_most, Network, no_site, site_at, site_stamps, line_number, well_shaped}
use Rattle.protocol.specs.Steps.{count_at_most}
use Rattle.protocol.specs.Round.{walked, greatest_epoch, next_epoch, epoch_calls, raise_calls, sites_in_order, hear_calls, round_calls, round_number, round_network, site_calls}
use Rattle.protocol.specs.Calls.{epoch, AllPass, RoundAccepted}
use Rattle.protocol.proofs.WellShaped.{shape_parts}
use Rattle.protocol.proofs.Walks.{walked_more, accepted_more, each_accepted, each_kept}
use Rattle.protocol.proofs.Sending.{Fresh}
use Rattle.protocol.proofs.SiteRounds.{Going, going_on, Reaching, reaching_on}
use Rattle.protocol.proofs.Raising.{Raising, raise_next, numbers_apart}

-- ---- what a number says
-- no line holds 16
lines_room : (ls : List Line) → any (λ (l : Line). leb held_most (length l.messages)) ls ≡ false → (k : ℕ) → length (get_or ls k no_line).messages < held_most
lines_room [] e k = omega arith
lines_room (l ∷ ls) e zero = leb-false held_most (length l.messages) (or_false (leb held_most (length l.messages)) _ e).0
lines_room (l ∷ ls) e (suc k) = lines_room ls (or_false (leb held_most (length l.messages)) _ e).1 k

-- no site is above the greatest epoch
greatest_above : (ss : List Site) (i : ℕ) → (get_or ss i no_site).stamp.epoch ≤ greatest_epoch (map (λ (s : Site). s.stamp) ss)
greatest_above [] i = omega arith
greatest_above (s ∷ ss) zero = omega arith
greatest_above (s ∷ ss) (suc i) = omega (arith, greatest_above ss i)

-- the order has sites alone
order_within : (k : ℕ) (line : ℕ → ℕ → Bool) (i : ℕ) → is_placed (site_order k line) i ≡ true → i < k
order_within k line i e = go (ltb i k) refl
  where
    go : (b : Bool) → ltb i k ≡ b → i < k
    go true f = ltb-true i k f
    go false f = absurd (true≢false (sym e ∙ steps_below k line i [] (site_order k line) (order_steps k line [] k) (ltb-false i k f)))

-- ---- a round that is not refused
module _ (n : Network) (w : well_shaped n ≡ true) (few : length n.sites ≤ sites_most) (z : round_number n ≡ 0) where
  -- what its number says
  round_parts : (any (λ (l : Line). leb held_most (length l.messages)) n.lines ≡ false) × (some_below (count_at_most n) (length n.sites) ≡ false)
  unfolding round_number
  round_parts =
      let full = any (λ (l : Line). leb held_most (length l.messages)) n.lines in
      let counts = some_below (count_at_most n) (length n.sites) in
      let last : List ℕ = number_if (leb greatest (greatest_epoch (site_stamps n))) 16 ∷ [] in
      let a = none_holds full 12 (number_if counts 14 ∷ last) z in
      (a.0, (none_holds counts 13 last a.1).0)

  abbrev to : ℕ
  to = next_epoch n

  all_fresh : (i : ℕ) → i < length n.sites → Fresh n i
  all_fresh i l = record { room = λ c b. lines_room n.lines round_parts.0 (line_number i c); count = none_below (count_at_most n) (length n.sites) i round_parts.1 l }

  -- every epoch is below the new one
  pub below_new : (i : ℕ) → (site_at n i).stamp.epoch < to
  below_new i = omega (arith, greatest_above n.sites i)

  raise_start : Raising to n below_new n (up_to 0 (length n.sites))
  raise_start =
      record {
        shape = w;
        many = refl;
        items_same = refl;
        lines_same = refl;
        history_same = refl;
        counts_same = λ i. refl;
        apart = numbers_apart 0 (length n.sites);
        there = λ i e. omega (arith, (numbers_within i 0 (length n.sites) e).1);
        to_come = λ i e. refl;
        raised = λ i l e. inl (numbers_placed i 0 (length n.sites) (omega arith) (omega arith));
      }

  abbrev raised_network : Network
  raised_network = walked n (raise_calls to n)

  raise_end : Raising to n below_new raised_network []
  raise_end = each_kept (epoch_calls to) (Raising to n below_new) (raise_next to n below_new) n (up_to 0 (length n.sites)) raise_start

  going_start : Going raised_network (sites_in_order raised_network)
  going_start =
      let r = raise_end in
      let many = length raised_network.sites in
      record {
        shape = r.shape;
        few = omega (arith, r.many, few);
        placed = [];
        steps = order_steps many (is_line raised_network.items) [] many;
        fresh = λ i e.
            let f = all_fresh i (omega (arith, order_within many (is_line raised_network.items) i e, r.many)) in
            record {
              room = λ c l. subst (λ (ls : List Line). length (get_or ls (line_number i c) no_line).messages < held_most) (sym r.lines_same) (f.room c l);
              count = ap (leb greatest) (r.counts_same i) ∙ f.count;
            };
      }

  round_accepts : AllPass n (round_calls n)
  unfolding round_calls
  round_accepts = accepted_more n (raise_calls to n) (hear_calls raised_network)
      (each_accepted (epoch_calls to) (Raising to n below_new) (raise_next to n below_new) n (up_to 0 (length n.sites)) raise_start)
      (each_accepted site_calls Going going_on raised_network (sites_in_order raised_network) going_start)

  -- ---- every site is in the new epoch after it
  module _ (lines : length n.lines ≡ lines_most) where
    reaching_start : Reaching to raised_network (sites_in_order raised_network)
    unfolding going_start
    reaching_start =
        let r = raise_end in
        let parts = placement_parts (length raised_network.sites) raised_network.items (shape_parts raised_network r.shape).placed in
        record {
          going = going_start;
          lines = ap length r.lines_same ∙ lines;
          late = λ i f. absurd (false≢true f);
          sources = λ i l f. done (r.raised i (omega (arith, l, r.many)) (ap (λ (xs : List Item). has_parents xs i) (sym r.items_same) ∙ f));
          covers = λ i l. inr (group_placed (length raised_network.sites) raised_network.items (omega (arith, r.many, few)) parts.0 parts.1 i l);
          ends = λ p c f. absurd (false≢true f);
        }
      where
        done : {A : Type 0} → (false ≡ true) ⊎ A → A
        done (inl e) = absurd (false≢true e)
        done (inr a) = a

    reaching_end : Reaching to (round_network n) []
    unfolding round_network round_calls
    reaching_end =
        subst (λ (m : Network). Reaching to m []) (sym (walked_more n (raise_calls to n) (hear_calls raised_network)))
        (each_kept site_calls (Reaching to) (reaching_on to) raised_network (sites_in_order raised_network) reaching_start)

    pub round_late : (i : ℕ) → i < length (round_network n).sites → to ≤ (site_at (round_network n) i).stamp.epoch
    round_late i l = placed (reaching_end.covers i l)
      where
        placed : (is_placed reaching_end.going.placed i ≡ true) ⊎ (false ≡ true) → to ≤ (site_at (round_network n) i).stamp.epoch
        placed (inl e) = reaching_end.late i e
        placed (inr e) = absurd (false≢true e)

pub round_accepted : RoundAccepted
unfolding RoundAccepted
round_accepted = round_accepts
