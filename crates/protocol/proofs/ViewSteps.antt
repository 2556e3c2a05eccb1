-- A network with some commits taken out of its history is refused what the whole one is, save for want of room in the history, and takes the same steps.
use mathlib.Core.Path.{◌≡◌, refl, ap, ap₂, sym, ◌∙◌}
use mathlib.Core.Bool.{Bool, true, false, not, cond, ◌&&◌, ◌||◌}
use mathlib.Core.List.{List, [], ◌∷◌, ◌++◌, map, map-append}
use Prim.Native.Nat.{ℕ, zero, suc, ◌<◌}
use lib.ListN.{length, get_or, set, drop, get_or-map}
use lib.Dec.{eqb, leb}
use borrow.Author.Tests.{leb-false}
use Rattle.limits.specs.Limits.{sites_most, held_most}
use Rattle.lists.specs.Lists.{keep}
use Rattle.lists.specs.Numbers.{first_number, number_if}
use Rattle.lists.proofs.Lists.{map_set}
use Rattle.lists.proofs.Some.{some_below_same}
use Rattle.lists.proofs.Renumber.{keep_add}
use Rattle.timestamp_order.specs.Timestamp.{Stamp}
use Rattle.timestamp_order.specs.Order.{is_earlier}
use Rattle.site_operations.specs.Operations.{Op}
use Rattle.site.specs.Site.{Site, committed, dummied, received}
use Rattle.placement.specs.Placement.{is_line, has_parents}
use Rattle.lines.specs.Lines.{Line, no_line, sent, delivered, taken}
use Rattle.messages.specs.Messages.{Message, commit, dummy}
use Rattle.protocol.specs.Network.{Network, Base, site_at, line_at, line_number, message_stamp, message_ops}
use Rattle.protocol.specs.Steps.{no_such_site, count_at_most, some_line_full, sent_to, wanted_at, due, record_of, commit_network, dummy_number, dummy_network, epoch_number, epoch_network, deliver_number, deliver_network, lacks_arrived, schedule_number, head, head_stamp, head_earlier, earlier_of, earliest, chosen, writes_for, schedule_network}
use Rattle.protocol.specs.Collect.{staying, renamed, renamed_line}
use Rattle.protocol.specs.Allowed.{CommitAllowed}
use Rattle.protocol.proofs.Allowed.{CommitFits}
use Rattle.protocol.proofs.Chosen.{earliest_line}
use Rattle.protocol.proofs.Places.{order_at}
use Rattle.protocol.proofs.Stays.{Stays}
use Rattle.protocol.proofs.View.{view, history_view, line_view, held_view, arrived_view, head_view, stamp_view, ops_view}

module _ (goes : ℕ → Bool) (base : Base) (n : Network) where
  abbrev v : Network
  v = view goes base n

  -- ---- the numbers
  full_view : (i : ℕ) (gets : ℕ → Bool) → some_line_full v i gets ≡ some_line_full n i gets
  full_view i gets =
      some_below_same (λ c. gets c && leb held_most (length (line_at v i c).messages)) (λ c. gets c && leb held_most (length (line_at n i c).messages)) sites_most
      (λ c l. ap (λ (k : ℕ). gets c && leb held_most k) (held_view goes base n i c))

  -- of a commit room is asked in the view alone
  pub commit_fits_view : (i : ℕ) (os : List Op) → CommitAllowed v i os → CommitFits n i os
  commit_fits_view i os z = record { there = z.there; each_op = z.each_op; count_free = z.count_free }

  pub dummy_number_view : (i : ℕ) → dummy_number v i ≡ dummy_number n i
  unfolding dummy_number
  dummy_number_view i = ap (λ (b : Bool). first_number (number_if (no_such_site n i) 7 ∷ number_if b 13 ∷ number_if (count_at_most n i) 14 ∷ [])) (full_view i (is_line n.items i))

  pub epoch_number_view : (i e : ℕ) → epoch_number v i e ≡ epoch_number n i e
  unfolding epoch_number
  epoch_number_view i e = refl

  pub deliver_number_view : (p c : ℕ) → deliver_number v p c ≡ deliver_number n p c
  unfolding deliver_number
  deliver_number_view p c =
      ap₂ (λ (held arrived : ℕ). first_number (number_if (no_such_site n p || no_such_site n c) 7 ∷ number_if (not (is_line n.items p c)) 17 ∷ number_if (leb held arrived) 18 ∷ []))
      (held_view goes base n p c) (arrived_view goes base n p c)

  pub schedule_number_view : (j : ℕ) → schedule_number v j ≡ schedule_number n j
  unfolding schedule_number
  schedule_number_view j =
      ap (λ (b : Bool). first_number (number_if (no_such_site n j) 7 ∷ number_if (not (has_parents n.items j)) 19 ∷ number_if b 20 ∷ []))
      (some_below_same (lacks_arrived v j) (lacks_arrived n j) sites_most (λ p l. ap (λ (k : ℕ). is_line n.items p j && eqb k 0) (arrived_view goes base n p j)))

  -- ---- lines: one replaced, a message sent
  set_view : (ls : List Line) (k : ℕ) (l : Line) → set (map (renamed_line goes) ls) k (renamed_line goes l) ≡ map (renamed_line goes) (set ls k l)
  set_view ls k l = sym (map_set (renamed_line goes) ls k l)

  sent_line_view : (m : Message) (l : Line) → sent (renamed goes m) (renamed_line goes l) ≡ renamed_line goes (sent m l)
  sent_line_view m l = ap (λ (ms : List Message). record { messages = ms; arrived = l.arrived }) (sym (map-append (renamed goes) l.messages (m ∷ [])))

  taken_line_view : (l : Line) → taken (renamed_line goes l) ≡ renamed_line goes (taken l)
  taken_line_view l = ap (λ (ms : List Message). record { messages = ms; arrived = (taken l).arrived }) (go l.messages)
    where
      go : (ms : List Message) → drop 1 (map (renamed goes) ms) ≡ map (renamed goes) (drop 1 ms)
      go [] = refl
      go (m ∷ ms) = refl

  sent_view : (gets : ℕ → Bool) (i : ℕ) (m : Message) (c : ℕ) (ls : List Line) → sent_to gets i (renamed goes m) c (map (renamed_line goes) ls) ≡ map (renamed_line goes) (sent_to gets i m c ls)
  sent_view gets i m zero ls = refl
  sent_view gets i m (suc c) ls = go (gets c) (sent_to gets i (renamed goes m) c (map (renamed_line goes) ls)) (sent_to gets i m c ls) (sent_view gets i m c ls)
    where
      go : (b : Bool) (seen rest : List Line) → seen ≡ map (renamed_line goes) rest
          → cond b (set seen (line_number i c) (sent (renamed goes m) (get_or seen (line_number i c) no_line))) seen
          ≡ map (renamed_line goes) (cond b (set rest (line_number i c) (sent m (get_or rest (line_number i c) no_line))) rest)
      go true seen rest e =
          let q = line_number i c in
          let l = get_or rest q no_line in
          ap (λ (ls : List Line). set ls q (sent (renamed goes m) (get_or ls q no_line))) e
          ∙ ap (λ (x : Line). set (map (renamed_line goes) rest) q x) (ap (sent (renamed goes m)) (get_or-map (renamed_line goes) rest q no_line) ∙ sent_line_view m l)
          ∙ set_view rest q (sent m l)
      go false seen rest e = e

  -- ---- the steps
  abbrev with_view : List Site → List Line → Network
  with_view ss ls = record { sites = ss; items = n.items; lines = ls; history = v.history; base = base }

  pub epoch_view : (i e : ℕ) → epoch_network v i e ≡ view goes base (epoch_network n i e)
  unfolding epoch_network
  epoch_view i e = refl

  pub deliver_view : (p c : ℕ) → deliver_network v p c ≡ view goes base (deliver_network n p c)
  unfolding deliver_network
  deliver_view p c =
      let q = line_number p c in
      ap (with_view n.sites) (ap (λ (l : Line). set v.lines q (delivered l)) (line_view goes base n p c) ∙ set_view n.lines q (delivered (line_at n p c)))

  pub dummy_view : (i : ℕ) → dummy_network v i ≡ view goes base (dummy_network n i)
  unfolding dummy_network
  dummy_view i =
      let new = dummied (site_at n i) in
      ap (with_view (set n.sites i new)) (sent_view (is_line n.items i) i (dummy new.stamp) sites_most n.lines)

  -- the commit made next stays
  pub commit_view : (i : ℕ) (os : List Op) → goes (length n.history) ≡ false → commit_network v i os ≡ view goes base (commit_network n i os)
  unfolding commit_network
  commit_view i os e =
      let r = record_of n i os in
      let gets = due n.items os in
      let lines : sent_to gets i (commit (length v.history)) sites_most v.lines ≡ map (renamed_line goes) (sent_to gets i (commit (length n.history)) sites_most n.lines)
      = ap (λ (k : ℕ). sent_to gets i (commit k) sites_most v.lines) (history_view goes base n) ∙ sent_view gets i (commit (length n.history)) sites_most n.lines in
      let history : v.history ++ (r ∷ []) ≡ staying goes (n.history ++ (r ∷ []))
      = sym (keep_add (λ k. not (goes k)) n.history r ∙ ap (λ (b : Bool). v.history ++ cond (not b) (r ∷ []) []) e) in
      λ t. record { sites = set n.sites i (committed os (site_at n i)); items = n.items; lines = lines t; history = history t; base = base }

  -- ---- schedule, where each parent's oldest message stays
  module _ (j : ℕ) (stay : (p : ℕ) → is_line n.items p j ≡ true → Stays goes n.history (head n p j)) where
    head_stamp_view : (p : ℕ) → is_line n.items p j ≡ true → head_stamp v p j ≡ head_stamp n p j
    head_stamp_view p line = ap (message_stamp v.history) (head_view goes base n p j) ∙ stamp_view goes base n (head n p j) (stay p line)

    earliest_view : (k : ℕ) → earliest v j k ≡ earliest n j k
    unfolding earliest
    earliest_view zero = refl
    earliest_view (suc p) = go (is_line n.items p j) refl (earliest v j p) (earliest n j p) (earliest_view p) (earliest_line n j p)
      where
        either : (best : ℕ) → is_line n.items p j ≡ true → (best < sites_most → is_line n.items best j ≡ true) → (b : Bool) → leb sites_most best ≡ b
            → cond (b || head_earlier v j p best) p best ≡ cond (b || head_earlier n j p best) p best
        either best line site true e = refl
        either best line site false e =
            ap₂ (λ (s t : Stamp). cond (is_earlier (order_at n s t)) p best) (head_stamp_view p line) (head_stamp_view best (site (leb-false sites_most best e)))

        go : (b : Bool) → is_line n.items p j ≡ b → (a best : ℕ) → a ≡ best → (best < sites_most → is_line n.items best j ≡ true)
            → cond b (earlier_of v j p a) a ≡ cond b (earlier_of n j p best) best
        go true line a best same site = ap (earlier_of v j p) same ∙ either best line site (leb sites_most best) refl
        go false line a best same site = same

    pub chosen_view : chosen v j ≡ chosen n j
    chosen_view = earliest_view sites_most

    module _ (line : is_line n.items (chosen n j) j ≡ true) where
      abbrev p : ℕ
      p = chosen n j

      abbrev m : Message
      m = head n p j

      message_view : head v (chosen v j) j ≡ renamed goes m
      message_view = ap (λ (q : ℕ). head v q j) chosen_view ∙ head_view goes base n p j

      pub answer_view : head_stamp v (chosen v j) j ≡ head_stamp n p j
      answer_view = ap (message_stamp v.history) message_view ∙ stamp_view goes base n m (stay p line)

      pub schedule_view : schedule_network v j ≡ view goes base (schedule_network n j)
      unfolding schedule_network
      schedule_view =
          let q = line_number p j in
          let writes : writes_for v j (head v (chosen v j) j) ≡ writes_for n j m
          = ap (λ (os : List Op). keep (wanted_at n.items j) os) (ap (message_ops v.history) message_view ∙ ops_view goes base n m (stay p line)) in
          let lines : set v.lines (line_number (chosen v j) j) (taken (line_at v (chosen v j) j)) ≡ map (renamed_line goes) (set n.lines q (taken (line_at n p j)))
          = ap (λ (c : ℕ). set v.lines (line_number c j) (taken (line_at v c j))) chosen_view
          ∙ ap (λ (l : Line). set v.lines q l) (ap taken (line_view goes base n p j) ∙ taken_line_view (line_at n p j))
          ∙ set_view n.lines q (taken (line_at n p j)) in
          λ t. with_view (set n.sites j (received (writes t) (answer_view t) (site_at n j))) (lines t)
