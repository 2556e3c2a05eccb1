-- Steps in which no child hears anything: commit, dummy, epoch, deliver. What they keep of the invariant, together.
use mathlib.Core.Path.{◌≡◌, ap, sym, subst, ◌∙◌}
use mathlib.Core.Bool.{true}
use mathlib.Core.List.{List, [], ◌∷◌, ◌++◌}
use mathlib.Core.Logic.{◌⊎◌, inl, inr}
use Prim.Native.Nat.{ℕ, ◌<◌}
use native.Mathlib.Omega.{arith}
use lib.IntN.{ℤ, pos}
use lib.ListN.{length, get_or}
use Rattle.timestamp_order.specs.Timestamp.{Stamp}
use Rattle.timestamp_order.specs.Order.{not_later, IsEarlier}
use Rattle.timestamp_order.specs.Made.{made_by}
use Rattle.site.specs.Site.{Site}
use Rattle.placement.specs.Placement.{copies, is_line}
use Rattle.lines.specs.Lines.{Line}
use Rattle.messages.specs.Messages.{Message, commit}
use Rattle.records.specs.Records.{Record}
use Rattle.protocol.specs.Network.{Network, no_site, message_stamp, message_fits, well_shaped, nth_record}
use Rattle.protocol.specs.Steps.{due}
use Rattle.lists.specs.Lists.{keep}
use Rattle.site_operations.specs.Operations.{touches}
use Rattle.protocol.proofs.WellShaped.{shape_parts}
use Rattle.protocol.specs.Agreement.{holds}
use Rattle.protocol.proofs.Values.{last_value, agree}
use Rattle.protocol.proofs.Places.{place_at, order_at, Before, UpTo, times_at}
use Rattle.protocol.proofs.Added.{added_old, added_size, added_each, added_rise}
use Rattle.protocol.proofs.Invariant.{stamp_at, heard_at, table_at, messages_at, sent_at, Named, Sizes, Invariant, line_sites, stamp_made, record_below, record_site, message_fits_lem, reaches, due_child}

abbrev pub changed : Network → List Site → List Line → List Record → Network
changed n ss ls h = record { sites = ss; items = n.items; lines = ls; history = h; base = n.base }

-- after a step there are as many sites, and no site's timestamp falls
pub record Grown (n : Network) (ss : List Site) : Type 0 where
  pub many : length ss ≡ length n.sites
  pub grows : (j : ℕ) → j < length n.sites → UpTo n (stamp_at n j) (get_or ss j no_site).stamp

-- ---- the timestamps of a list of messages: each passes, and they rise
abbrev pub EachSent : List Record → List Message → (Stamp → Type 0) → Type 0
EachSent h ms passes = (a : ℕ) → a < length ms → passes (message_stamp h (get_or ms a (commit 0)))

abbrev pub RisesSent : (ℕ → ℕ) → List Record → List Message → Type 0
RisesSent place h ms = (a b : ℕ) → a < b → b < length ms → IsEarlier place (message_stamp h (get_or ms a (commit 0))) (message_stamp h (get_or ms b (commit 0)))

-- the line from p to j got a message with p's new timestamp
pub record Sent (n m : Network) (p j : ℕ) : Type 0 where
  pub message : Message
  pub extends : messages_at m p j ≡ messages_at n p j ++ (message ∷ [])
  pub stamp : message_stamp m.history message ≡ stamp_at m p
  pub higher : Before n (stamp_at n p) (stamp_at m p)

pub named_more : (ms : List Message) (m : Message) (k : ℕ) → Named ms k → Named (ms ++ (m ∷ [])) k
named_more ms m k (a, l, e) = (a, omega (arith, added_size ms m (commit 0)), added_old ms m (commit 0) a l ∙ e)

-- sites, lines and history after such a step
pub record Calm (n : Network) (ss : List Site) (ls : List Line) (h : List Record) : Type 0 where
  pub sizes : Sizes (changed n ss ls h)
  pub shape : well_shaped (changed n ss ls h) ≡ true
  pub grown : Grown n ss
  -- no child's timestamp changes but in its own tuple
  pub calm : (p j : ℕ) → is_line n.items p j ≡ true → heard_at (changed n ss ls h) j ≡ heard_at n j
  -- a line has its messages, or one more; those that it had mean what they did
  pub mail : (p j : ℕ) → is_line n.items p j ≡ true → (messages_at (changed n ss ls h) p j ≡ messages_at n p j) ⊎ Sent n (changed n ss ls h) p j
  pub stays : (p : ℕ) (m : Message) → message_fits (place_at n) n.history p m ≡ true → message_stamp h m ≡ message_stamp n.history m

module _ (n : Network) (inv : Invariant n) (ss : List Site) (ls : List Line) (h : List Record) (c : Calm n ss ls h) where
  open times_at n use {upto_self, upto_trans, upto_then, cut_upto}

  abbrev next : Network
  next = changed n ss ls h

  -- ---- the lines
  module _ (p j : ℕ) (line : is_line n.items p j ≡ true) where
    parent_grows : UpTo n (stamp_at n p) (stamp_at next p)
    parent_grows = c.grown.grows p (line_sites n inv p j line).0

    same_sent : (a : ℕ) → a < length (messages_at n p j) → message_stamp h (get_or (messages_at n p j) a (commit 0)) ≡ sent_at n p j a
    same_sent a l = c.stays p (get_or (messages_at n p j) a (commit 0)) (message_fits_lem n inv p j line a l)

    -- what holds of each old message, and of the parent's new timestamp
    each_sent : (passes : Stamp → Type 0) → EachSent n.history (messages_at n p j) passes → (Before n (stamp_at n p) (stamp_at next p) → passes (stamp_at next p)) → EachSent h (messages_at next p j) passes
    each_sent passes f g = go (c.mail p j line)
      where
        old : EachSent h (messages_at n p j) passes
        old a l = subst passes (sym (same_sent a l)) (f a l)

        go : (messages_at next p j ≡ messages_at n p j) ⊎ Sent n next p j → EachSent h (messages_at next p j) passes
        go (inl e) = subst (λ (ms : List Message). EachSent h ms passes) (sym e) old
        go (inr s) =
            subst (λ (ms : List Message). EachSent h ms passes) (sym s.extends)
            (added_each (messages_at n p j) s.message (commit 0) (λ a m. passes (message_stamp h m)) old (subst passes (sym s.stamp) (g s.higher)))

    pub calm_queue : RisesSent (place_at n) h (messages_at next p j)
    calm_queue = go (c.mail p j line)
      where
        old : RisesSent (place_at n) h (messages_at n p j)
        old a b l m =
            subst (λ (s : Stamp). Before n s (message_stamp h (get_or (messages_at n p j) b (commit 0)))) (sym (same_sent a (omega arith)))
            (subst (Before n (sent_at n p j a)) (sym (same_sent b m)) (inv.queue p j line a b l m))

        go : (messages_at next p j ≡ messages_at n p j) ⊎ Sent n next p j → RisesSent (place_at n) h (messages_at next p j)
        go (inl e) = subst (RisesSent (place_at n) h) (sym e) old
        go (inr s) =
            subst (RisesSent (place_at n) h) (sym s.extends)
            (added_rise (messages_at n p j) s.message (commit 0) (λ a b. Before n (message_stamp h a) (message_stamp h b)) old
            (λ a l. subst (λ (t : Stamp). Before n t (message_stamp h s.message)) (sym (same_sent a l))
            (subst (Before n (sent_at n p j a)) (sym s.stamp) (upto_then (sent_at n p j a) (stamp_at n p) (stamp_at next p) (inv.behind p j line a l) s.higher))))

    pub calm_ahead : EachSent h (messages_at next p j) (Before n (heard_at next j))
    calm_ahead =
        subst (λ (t : Stamp). EachSent h (messages_at next p j) (Before n t)) (sym (c.calm p j line))
        (each_sent (Before n (heard_at n j)) (inv.ahead p j line) (upto_then (heard_at n j) (stamp_at n p) (stamp_at next p) (inv.heard p j line)))

    pub calm_behind : EachSent h (messages_at next p j) (λ s. UpTo n s (stamp_at next p))
    calm_behind =
        each_sent (λ s. UpTo n s (stamp_at next p)) (λ a l. upto_trans (sent_at n p j a) (stamp_at n p) (stamp_at next p) (inv.behind p j line a l) parent_grows)
        (λ b. upto_self (stamp_at next p))

    pub calm_heard : UpTo n (heard_at next j) (stamp_at next p)
    calm_heard = subst (λ (t : Stamp). UpTo n t (stamp_at next p)) (sym (c.calm p j line)) (upto_trans (heard_at n j) (stamp_at n p) (stamp_at next p) (inv.heard p j line) parent_grows)

    pub calm_named : (k : ℕ) → Named (messages_at n p j) k → Named (messages_at next p j) k
    calm_named k f = go (c.mail p j line)
      where
        go : (messages_at next p j ≡ messages_at n p j) ⊎ Sent n next p j → Named (messages_at next p j) k
        go (inl e) = subst (λ (ms : List Message). Named ms k) (sym e) f
        go (inr s) = subst (λ (ms : List Message). Named ms k) (sym s.extends) (named_more (messages_at n p j) s.message k f)

  -- ---- the commits that were nth_record before
  module _ (k : ℕ) (old : k < length n.history) where
    pub calm_past : UpTo n (nth_record n k).stamp (stamp_at next (nth_record n k).site)
    calm_past = upto_trans (nth_record n k).stamp (stamp_at n (nth_record n k).site) (stamp_at next (nth_record n k).site) (inv.past k old) (c.grown.grows (nth_record n k).site (record_site n inv k old))

    pub calm_owed : (j : ℕ) → due n.items (nth_record n k).ops j ≡ true → Before n (heard_at next j) (nth_record n k).stamp → Named (messages_at next (nth_record n k).site j) k
    calm_owed j d b =
        let line = due_child n.items (nth_record n k).site (nth_record n k).ops (inv.allowed k old) j d in
        calm_named (nth_record n k).site j line k (inv.owed k j old d (subst (λ (t : Stamp). Before n t (nth_record n k).stamp) (c.calm (nth_record n k).site j line) b))

    -- a holder of what it writes has it as before
    pub settled : (j x : ℕ) → j < length n.sites → touches x (nth_record n k).ops ≡ true → holds n.items j x ≡ true
        → not_later (order_at n (nth_record n k).stamp (stamp_at next j)) ≡ not_later (order_at n (nth_record n k).stamp (stamp_at n j))
    settled j x site t e = go (reaches n inv k j x old t e)
      where
        go : (j ≡ (nth_record n k).site) ⊎ ((is_line n.items (nth_record n k).site j ≡ true) × (copies n.items j x ≡ true)) → not_later (order_at n (nth_record n k).stamp (stamp_at next j)) ≡ not_later (order_at n (nth_record n k).stamp (stamp_at n j))
        go (inl s) =
            ap (λ (i : ℕ). not_later (order_at n (nth_record n k).stamp (stamp_at next i))) s
            ∙ calm_past
            ∙ sym (inv.past k old)
            ∙ ap (λ (i : ℕ). not_later (order_at n (nth_record n k).stamp (stamp_at n i))) (sym s)
        go (inr (line, _)) =
            let below = record_below n inv k j old line in
            let new : made_by (place_at n) j (stamp_at next j) ≡ true = (shape_parts next c.shape).stamps j (omega (arith, c.grown.many)) in
            cut_upto j (stamp_at next j) (nth_record n k).stamp new below
            ∙ ap (λ (t : Stamp). not_later (order_at n (nth_record n k).stamp t)) (c.calm (nth_record n k).site j line)
            ∙ sym (cut_upto j (stamp_at n j) (nth_record n k).stamp (stamp_made n inv j site) below)

  -- what a holder has of the old commits is as before
  pub settled_value : (j x : ℕ) → j < length n.sites → holds n.items j x ≡ true
      → last_value x (keep (λ (r : Record). not_later (order_at n r.stamp (stamp_at next j))) n.history) ≡ last_value x (keep (λ (r : Record). not_later (order_at n r.stamp (stamp_at n j))) n.history)
  settled_value j x site e =
      agree x (λ (r : Record). not_later (order_at n r.stamp (stamp_at next j))) (λ (r : Record). not_later (order_at n r.stamp (stamp_at n j))) (pos 0) n.history
      (λ k l t. settled k l j x site t e)

-- ---- a step that makes no commit and leaves the tables
pub calm_keeps : (n : Network) → Invariant n → (ss : List Site) (ls : List Line) → Calm n ss ls n.history
    → ((j : ℕ) → j < length n.sites → table_at (changed n ss ls n.history) j ≡ table_at n j) → Invariant (changed n ss ls n.history)
calm_keeps n inv ss ls c same =
    let h = n.history in
    record {
      sizes = c.sizes;
      shape = c.shape;
      past = calm_past n inv ss ls h c;
      rise = inv.rise;
      queue = calm_queue n inv ss ls h c;
      ahead = calm_ahead n inv ss ls h c;
      behind = calm_behind n inv ss ls h c;
      owed = λ k j l. calm_owed n inv ss ls h c k l j;
      heard = calm_heard n inv ss ls h c;
      copy = λ j x l s e.
          let site : j < length n.sites = omega (arith, c.grown.many) in
          ap (λ (t : List ℤ). get_or t x (pos 0)) (same j site) ∙ inv.copy j x site s e ∙ sym (settled_value n inv ss ls h c j x site e);
      read = inv.read;
      allowed = inv.allowed;
    }
