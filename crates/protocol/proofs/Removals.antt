-- What is known of removed commits holds on through every step.
use mathlib.Core.Path.{◌≡◌, ap, sym, ◌∙◌}
use mathlib.Core.Bool.{Bool, true, false, cond, false≢true}
use mathlib.Core.List.{List, [], ◌∷◌, ◌++◌, append-nil}
use Prim.Native.Nat.{ℕ, ◌<◌}
use native.Mathlib.Omega.{arith}
use lib.ListN.{length, get_or}
use Rattle.lists.specs.Lists.{keep_from}
use Rattle.lists.proofs.Renumber.{keep_add}
use Rattle.site.specs.Site.{Site}
use Rattle.lines.specs.Lines.{Line}
use Rattle.records.specs.Records.{Record}
use Rattle.protocol.specs.Network.{Network, Base, no_site, no_record, record_at, nth_record}
use Rattle.protocol.proofs.Values.{last_value}
use Rattle.protocol.proofs.Places.{Before, UpTo, times_at}
use Rattle.protocol.proofs.Added.{added_size, added_each}
use Rattle.protocol.proofs.Invariant.{stamp_at}
use Rattle.protocol.proofs.Calm.{changed, Grown}
use Rattle.protocol.proofs.View.{Removed}

module _ (n : Network) (goes : ℕ → Bool) (base : Base) (r : Removed n goes base) (ss : List Site) (ls : List Line) (grown : Grown n ss) where
  open times_at n use {upto_trans, upto_then}

  still_bound : (m : ℕ) → m < length n.history → goes m ≡ true → (j : ℕ) → j < length ss → UpTo n (nth_record n m).stamp (get_or ss j no_site).stamp
  still_bound m l e j near =
      let old : j < length n.sites = omega (arith, grown.many) in
      upto_trans (nth_record n m).stamp (stamp_at n j) (get_or ss j no_site).stamp (r.bound m l e j old) (grown.grows j old)

  pub removed_still : Removed (changed n ss ls n.history) goes base
  removed_still = record { few = r.few; bound = still_bound; lead = r.lead; base_length = r.base_length; base_is = r.base_is }

  -- one commit more, which is later than some site and so than all that were removed
  module _ (c : Record) (i : ℕ) (site : i < length n.sites) (later : Before n (stamp_at n i) c.stamp) where
    abbrev more : List Record
    more = n.history ++ (c ∷ [])

    new_stays : goes (length n.history) ≡ false
    new_stays = r.few (length n.history) (omega arith)

    old_lead : (m : ℕ) → m < length n.history → goes m ≡ true → (k : ℕ) → k < length more → goes k ≡ false → Before n (nth_record n m).stamp (record_at more k).stamp
    old_lead m l e =
        added_each n.history c no_record (λ k x. goes k ≡ false → Before n (nth_record n m).stamp x.stamp) (λ k near f. r.lead m k l near e f)
        (λ f. upto_then (nth_record n m).stamp (stamp_at n i) c.stamp (r.bound m l e i site) later)

    same_removed : keep_from goes 0 more ≡ keep_from goes 0 n.history
    same_removed = keep_add goes n.history c ∙ ap (λ (b : Bool). keep_from goes 0 n.history ++ cond b (c ∷ []) []) new_stays ∙ append-nil (keep_from goes 0 n.history)

    pub removed_more : Removed (changed n ss ls more) goes base
    removed_more =
        record {
          few = λ m l. r.few m (omega (arith, added_size n.history c no_record));
          bound = added_each n.history c no_record (λ m x. goes m ≡ true → (j : ℕ) → j < length ss → UpTo n x.stamp (get_or ss j no_site).stamp) still_bound
              (λ e. absurd (false≢true (sym new_stays ∙ e)));
          lead = λ m k l near e.
              added_each n.history c no_record (λ a x. goes a ≡ true → (b : ℕ) → b < length more → goes b ≡ false → Before n x.stamp (record_at more b).stamp) old_lead
              (λ f. absurd (false≢true (sym new_stays ∙ f))) m l e k near;
          base_length = r.base_length;
          base_is = λ x l. r.base_is x l ∙ ap (last_value x) (sym same_removed);
        }
