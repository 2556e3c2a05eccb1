-- Commit keeps the invariant.
use mathlib.Core.Path.{◌≡◌, refl, ap, ap₂, sym, subst, ◌∙◌}
use mathlib.Core.Bool.{Bool, true, false, cond, ◌&&◌, ◌||◌}
use mathlib.Core.List.{List, [], ◌∷◌, ◌++◌, map}
use mathlib.Core.Logic.{◌⊎◌, inl, inr}
use Prim.Native.Nat.{ℕ, zero, suc, ◌<◌}
use native.Mathlib.Omega.{arith}
use lib.IntN.{ℤ, pos}
use lib.ListN.{length, get_or, take}
use lib.Dec.{eqb, ltb}
use borrow.Author.Tests.{ltb-true}
use Rattle.lists.proofs.Every.{and_true}
use Rattle.timestamp_order.specs.Timestamp.{Stamp}
use Rattle.timestamp_order.specs.Order.{not_later, is_earlier}
use Rattle.timestamp_order.specs.Made.{made_by}
use Rattle.site_operations.specs.Operations.{Op, no_op, touches}
use Rattle.site.specs.Site.{Site, committed}
use Rattle.placement.specs.Placement.{Item, owns, copies, is_line}
use Rattle.lists.specs.Numbers.{first_number}
use Rattle.messages.specs.Messages.{Message, commit, dummy}
use Rattle.records.specs.Records.{Record}
use Rattle.protocol.specs.Network.{Network, no_record, site_at, message_stamp, message_fits, well_shaped, nth_record}
use Rattle.protocol.specs.Steps.{count_at_most, op_number, due, commit_network, record_of}
use Rattle.lists.specs.Lists.{keep}
use Rattle.protocol.proofs.Keeps.{raised_made, keeps_fitting}
use Rattle.protocol.specs.Agreement.{holds}
use Rattle.lists.proofs.Chains.{keep_more}
use Rattle.site_operations.proofs.Works.{wrote, worked_length, get_d_worked, worked_size, worked_kinds, wrote_worked, ReadsFrom, worked_reads}
use Rattle.protocol.proofs.Values.{last_from, last_value, from_more, none_kept, agree}
use Rattle.protocol.proofs.Places.{place_at, order_at, Before, UpTo, times_at}
use Rattle.protocol.proofs.Added.{added_size, added_old, added_new, added_each, added_rise}
use Rattle.protocol.proofs.Invariant.{stamp_at, heard_at, table_at, messages_at, Named, Invariant, holder, touch_item, touch_owns, due_child, shaped, line_up, stamp_made, record_below, record_site, reaches}
use Rattle.protocol.proofs.Calm.{changed, Calm, calm_past, calm_queue, calm_ahead, calm_behind, calm_heard, calm_owed, settled_value}
use Rattle.protocol.proofs.Quiet.{moved, moved_each, moved_here, moved_many, mailed, mail_here, risen_before, risen_without, raise_calm}
use Rattle.protocol.proofs.Allowed.{CommitFits, OpAllowed, op_at_lem}

-- ---- operations of the same kinds on the same items
like_shape : (xs : List Item) (i : ℕ) (o u : Op) → o.kind ≡ u.kind → o.item ≡ u.item → OpAllowed xs i u → OpAllowed xs i o
like_shape xs i o u k x s =
    record {
      kind = omega (arith, s.kind);
      item = omega (arith, s.item);
      held = λ r. ap (λ (y : ℕ). owns xs i y || copies xs i y) x ∙ s.held (ap (λ (c : ℕ). eqb c 0) (sym k) ∙ r);
      owned = λ w. ap (owns xs i) x ∙ s.owned (ap (λ (c : ℕ). eqb c 1) (sym k) ∙ w);
    }

like_due : (xs : List Item) (j : ℕ) (os us : List Op) → length os ≡ length us → ((a : ℕ) → ((get_or os a no_op).kind ≡ (get_or us a no_op).kind) × ((get_or os a no_op).item ≡ (get_or us a no_op).item)) → due xs os j ≡ due xs us j
like_due xs j [] [] e f = refl
like_due xs j [] (u ∷ us) e f = absurd (omega arith)
like_due xs j (o ∷ os) [] e f = absurd (omega arith)
like_due xs j (o ∷ os) (u ∷ us) e f =
    ap₂ ◌||◌ (ap₂ (λ (k x : ℕ). eqb k 1 && copies xs j x) (f 0).0 (f 0).1) (like_due xs j os us (omega arith) (λ a. f (suc a)))

-- ---- a commit that nothing refuses
module _ (n : Network) (inv : Invariant n) (i : ℕ) (os : List Op) (site : i < length n.sites) (few : count_at_most n i ≡ false) (fit : first_number (map (op_number n.items i) os) ≡ 0) where
  open times_at n use {upto_self, upto_before, upto_then, before_test, later_fails, test_fails, made_under, cut_upto, cut_before, cut_test}

  abbrev new : Site
  new = committed os (site_at n i)

  -- the commit
  abbrev r : Record
  r = record_of n i os

  abbrev later : List Record
  later = n.history ++ (r ∷ [])

  abbrev m : Message
  m = commit (length n.history)

  abbrev gets : ℕ → Bool
  gets = due n.items os

  abbrev next : Network
  next = changed n (moved n inv i new) (mailed n inv gets i m) later

  rises : Before n (stamp_at n i) r.stamp
  rises = risen_before n inv i site few

  r_made : made_by (place_at n) i r.stamp ≡ true
  r_made = raised_made n (shaped n inv) i site few

  kinds : (a : ℕ) → ((get_or r.ops a no_op).kind ≡ (get_or os a no_op).kind) × ((get_or r.ops a no_op).item ≡ (get_or os a no_op).item)
  kinds a = worked_kinds (table_at n i) os a

  size : length r.ops ≡ length os
  size = worked_size (table_at n i) os

  r_allowed : (a : ℕ) → a < length r.ops → OpAllowed n.items i (get_or r.ops a no_op)
  r_allowed a l = like_shape n.items i (get_or r.ops a no_op) (get_or os a no_op) (kinds a).0 (kinds a).1 (op_at_lem n.items i os fit a (omega (arith, size)))

  -- ---- it is later than every site that holds what it writes
  above : (j x : ℕ) → j < length n.sites → touches x r.ops ≡ true → holds n.items j x ≡ true → Before n (stamp_at n j) r.stamp
  above j x near t e = go (holder n.items i j x (touch_item n.items i r.ops r_allowed x t) (touch_owns n.items i r.ops r_allowed x t) e)
    where
      go : (j ≡ i) ⊎ ((is_line n.items i j ≡ true) × (copies n.items j x ≡ true)) → Before n (stamp_at n j) r.stamp
      go (inl s) = subst (λ (k : ℕ). Before n (stamp_at n k) r.stamp) (sym s) rises
      go (inr (line, _)) =
          cut_before j (stamp_at n j) r.stamp (stamp_made n inv j near) (made_under i j r.stamp r_made (line_up n inv i j line))
          (upto_then (heard_at n j) (stamp_at n i) r.stamp (inv.heard i j line) rises)

  -- ---- the history with it, for a test of its commits
  with_it : (x : ℕ) (p : Record → Bool) → last_value x (keep p later) ≡ last_from x (last_value x (keep p n.history)) (keep p (r ∷ []))
  with_it x p = ap (last_value x) (keep_more p n.history (r ∷ [])) ∙ from_more x (pos 0) (keep p n.history) (keep p (r ∷ []))

  -- where it does not count
  without_it : (x : ℕ) (v : ℤ) (p : Record → Bool) → (touches x r.ops ≡ true → p r ≡ false) → last_from x v (keep p (r ∷ [])) ≡ v
  without_it x v p f = none_kept x p v (r ∷ []) (λ k l t. one k l t)
    where
      one : (k : ℕ) → k < 1 → touches x (get_or (r ∷ []) k no_record).ops ≡ true → p (get_or (r ∷ []) k no_record) ≡ false
      one zero l t = f t
      one (suc k) l t = absurd (omega arith)

  -- where it does
  counts : (x : ℕ) (v : ℤ) (p : Record → Bool) → p r ≡ true → last_from x v (keep p (r ∷ [])) ≡ wrote x v r.ops
  counts x v p e = ap (λ (b : Bool). last_from x v (cond b (r ∷ []) [])) e

  -- ---- its own reads: the table, and the operations before each
  new_value : ReadsFrom (λ x. get_or (table_at n i) x (pos 0)) r.ops
  new_value = worked_reads (table_at n i) os (λ a l. omega (arith, (op_at_lem n.items i os fit a l).item, inv.sizes.tables i site, inv.sizes.items))

  -- what is not later than its site is before it
  own_read : (x k : ℕ) → k < length n.history → touches x (nth_record n k).ops ≡ true → holds n.items i x ≡ true
      → is_earlier (order_at n (nth_record n k).stamp r.stamp) ≡ not_later (order_at n (nth_record n k).stamp (stamp_at n i))
  own_read x k l t e = go (reaches n inv k i x l t e)
    where
      go : (i ≡ (nth_record n k).site) ⊎ ((is_line n.items (nth_record n k).site i ≡ true) × (copies n.items i x ≡ true)) → is_earlier (order_at n (nth_record n k).stamp r.stamp) ≡ not_later (order_at n (nth_record n k).stamp (stamp_at n i))
      go (inl s) =
          let past : UpTo n (nth_record n k).stamp (stamp_at n i) = subst (λ (j : ℕ). UpTo n (nth_record n k).stamp (stamp_at n j)) (sym s) (inv.past k l) in
          before_test (nth_record n k).stamp r.stamp (upto_then (nth_record n k).stamp (stamp_at n i) r.stamp past rises) ∙ sym past
      go (inr (line, _)) =
          let below = record_below n inv k i l line in
          cut_test i r.stamp (nth_record n k).stamp r_made below
          ∙ ap (λ (t : Stamp). not_later (order_at n (nth_record n k).stamp t)) (risen_without n inv i site few)
          ∙ sym (cut_upto i (stamp_at n i) (nth_record n k).stamp (stamp_made n inv i site) below)

  abbrev ReadsWell : Record → Type 0
  ReadsWell c = ReadsFrom (λ x. last_value x (keep (λ (q : Record). is_earlier (order_at n q.stamp c.stamp)) later)) c.ops

  new_read : ReadsWell r
  new_read a l e =
      let s = r_allowed a l in
      let x = (get_or r.ops a no_op).item in
      let p : Record → Bool = λ q. is_earlier (order_at n q.stamp r.stamp) in
      let before : get_or (table_at n i) x (pos 0) ≡ last_value x (keep p later)
      = inv.copy i x site s.item (s.held e)
      ∙ sym (agree x p (λ q. not_later (order_at n q.stamp (stamp_at n i))) (pos 0) n.history (λ k b t. own_read x k b t (s.held e)))
      ∙ sym (without_it x (last_value x (keep p n.history)) p (λ t. test_fails r.stamp r.stamp (upto_self r.stamp)))
      ∙ sym (with_it x p) in
      new_value a l e ∙ ap (λ (v : ℤ). wrote x v (take a r.ops)) before

  old_read : (k : ℕ) → k < length n.history → ReadsWell (nth_record n k)
  old_read k l a b e =
      let c = nth_record n k in
      let s = inv.allowed k l a b in
      let x = (get_or c.ops a no_op).item in
      let p : Record → Bool = λ q. is_earlier (order_at n q.stamp c.stamp) in
      let same : last_value x (keep p n.history) ≡ last_value x (keep p later)
      = sym (without_it x (last_value x (keep p n.history)) p
      (λ t. test_fails r.stamp c.stamp
      (upto_before c.stamp r.stamp (upto_then c.stamp (stamp_at n c.site) r.stamp (inv.past k l) (above c.site x (record_site n inv k l) t (s.held e))))))
      ∙ sym (with_it x p) in
      inv.read k l a b e ∙ ap (λ (v : ℤ). wrote x v (take a c.ops)) same

  -- ---- the tables
  abbrev Holds : ℕ → Site → Type 0
  Holds j s = (x : ℕ) → x < length n.items → holds n.items j x ≡ true
      → get_or s.table x (pos 0) ≡ last_from x (get_or (table_at n j) x (pos 0)) (keep (λ (q : Record). not_later (order_at n q.stamp s.stamp)) (r ∷ []))

  old_table : (j : ℕ) → j < length n.sites → Holds j (site_at n j)
  old_table j l x b e =
      sym (without_it x (get_or (table_at n j) x (pos 0)) (λ (q : Record). not_later (order_at n q.stamp (stamp_at n j))) (λ t. later_fails r.stamp (stamp_at n j) (above j x l t e)))

  new_table : Holds i new
  new_table x b e =
      let v = get_or (table_at n i) x (pos 0) in
      get_d_worked (table_at n i) os x (omega (arith, inv.sizes.tables i site, inv.sizes.items))
      ∙ sym (wrote_worked (table_at n i) os x v)
      ∙ sym (counts x v (λ (q : Record). not_later (order_at n q.stamp new.stamp)) (upto_self r.stamp))

  module _ (c : Calm n (moved n inv i new) (mailed n inv gets i m) later) where
    commit_copy : (j x : ℕ) → j < length n.sites → x < length n.items → holds n.items j x ≡ true
        → get_or (table_at next j) x (pos 0) ≡ last_value x (keep (λ (q : Record). not_later (order_at n q.stamp (stamp_at next j))) later)
    commit_copy j x l b e =
        let p : Record → Bool = λ q. not_later (order_at n q.stamp (stamp_at next j)) in
        moved_each n inv i new Holds old_table new_table j l x b e
        ∙ ap (λ (v : ℤ). last_from x v (keep p (r ∷ []))) (inv.copy j x l b e ∙ sym (settled_value n inv (moved n inv i new) (mailed n inv gets i m) later c j x l e))
        ∙ sym (with_it x p)

    -- the message to each site that is due one
    new_owed : (j : ℕ) → due n.items r.ops j ≡ true → Named (messages_at next i j) (length n.history)
    new_owed j d =
        let hit : gets j ≡ true = sym (like_due n.items j r.ops os size kinds) ∙ d in
        let ms = messages_at n i j in
        subst (λ (l : List Message). Named l (length n.history)) (sym (mail_here n inv gets i m j (due_child n.items i r.ops r_allowed j d) hit))
        (length ms, omega (arith, added_size ms m (commit 0)), added_new ms m (commit 0))

    pub commit_invariant : Invariant next
    commit_invariant =
        let ss = moved n inv i new in
        let ls = mailed n inv gets i m in
        let h = n.history in
        record {
          sizes = c.sizes;
          shape = c.shape;
          past = added_each h r no_record (λ k x. UpTo n x.stamp (stamp_at next x.site)) (calm_past n inv ss ls later c)
              (subst (λ (s : Site). UpTo n r.stamp s.stamp) (sym (moved_here n inv i new site)) (upto_self r.stamp));
          rise = added_rise h r no_record (λ x y. x.site ≡ y.site → Before n x.stamp y.stamp) inv.rise
              (λ a l e. upto_then (nth_record n a).stamp (stamp_at n (nth_record n a).site) r.stamp (inv.past a l) (subst (λ (j : ℕ). Before n (stamp_at n j) r.stamp) (sym e) rises));
          queue = calm_queue n inv ss ls later c;
          ahead = calm_ahead n inv ss ls later c;
          behind = calm_behind n inv ss ls later c;
          owed = λ k j l. added_each h r no_record (λ a x. (q : ℕ) → due n.items x.ops q ≡ true → Before n (heard_at next q) x.stamp → Named (messages_at next x.site q) a)
              (calm_owed n inv ss ls later c) (λ q d b. new_owed q d) k l j;
          heard = calm_heard n inv ss ls later c;
          copy = λ j x l. commit_copy j x (omega (arith, moved_many n inv i new));
          read = added_each h r no_record (λ k x. ReadsWell x) old_read new_read;
          allowed = added_each h r no_record (λ k x. (a : ℕ) → a < length x.ops → OpAllowed n.items x.site (get_or x.ops a no_op)) inv.allowed r_allowed;
        }

  -- the stamp of its message; older messages mean what they did
  named : message_stamp later m ≡ new.stamp
  named = ap (λ (x : Record). x.stamp) (added_new n.history r no_record)

  older : (p : ℕ) (x : Message) → message_fits (place_at n) n.history p x ≡ true → message_stamp later x ≡ message_stamp n.history x
  older p (commit k) e =
      let q = and_true (ltb k (length n.history)) (eqb (get_or n.history k no_record).site p) e in
      ap (λ (x : Record). x.stamp) (added_old n.history r no_record k (ltb-true k (length n.history) q.0))
  older p (dummy t) e = refl

  pub commit_made : well_shaped next ≡ true → Invariant next
  commit_made w =
      commit_invariant
      (raise_calm n inv i site few new refl (worked_length (table_at n i) os ∙ inv.sizes.tables i site) gets m later named w older)

pub commit_keeps : (n : Network) → Invariant n → (i : ℕ) (os : List Op) → CommitFits n i os → Invariant (commit_network n i os)
unfolding commit_network
commit_keeps n inv i os z = commit_made n inv i os z.there z.count_free z.each_op (keeps_fitting n i os inv.shape z)
