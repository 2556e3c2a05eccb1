-- The epochs of a round: every site without parents gets the new one, and nothing else is changed.
use mathlib.Core.Path.{◌≡◌, refl, sym, ap, subst, ◌∙◌}
use mathlib.Core.Bool.{Bool, true, false, cond, ◌||◌, or-true, true≢false}
use mathlib.Core.List.{List, [], ◌∷◌}
use mathlib.Core.Logic.{◌⊎◌, inl, inr}
use Prim.Native.Nat.{ℕ, zero, suc, ◌-◌, ◌≤◌, ◌<◌}
use native.Mathlib.Omega.{arith}
use lib.ListN.{length, length-set}
use lib.Seq.{get_or-set_same, get_or-set_other}
use lib.Dec.{eqb}
use borrow.Author.Tests.{eqb-true, eqb-false, eq-eqb}
use Rattle.lists.specs.Lists.{up_to}
use Rattle.timestamp_order.specs.Timestamp.{own_count, raised}
use Rattle.placement.specs.Placement.{Item, has_parents}
use Rattle.placement.specs.Places.{is_placed}
use Rattle.placement.proofs.Places.{numbers_within}
use Rattle.site.specs.Site.{Site, at_epoch}
use Rattle.protocol.specs.Network.{Network, no_site, site_at, well_shaped}
use Rattle.protocol.specs.Steps.{epoch_network}
use Rattle.protocol.specs.Round.{walked, epoch_calls}
use Rattle.protocol.specs.Calls.{epoch, AllPass}
use Rattle.protocol.specs.Allowed.{EpochAllowed}
use Rattle.protocol.proofs.Allowed.{allowed_epoch}
use Rattle.protocol.proofs.Keeps.{keeps_epoch}
use Rattle.protocol.proofs.Walks.{epoch_passes}

-- ---- the epochs
-- no number stands twice
abbrev Apart : List ℕ → Type 0
Apart [] = Unit {0}
Apart (i ∷ is) = (is_placed is i ≡ false) × Apart is

pub numbers_apart : (a k : ℕ) → Apart (up_to a k)
numbers_apart a zero = tt
numbers_apart a (suc k) = (go (is_placed (up_to (suc a) k) a) refl, numbers_apart (suc a) k)
  where
    go : (b : Bool) → is_placed (up_to (suc a) k) a ≡ b → is_placed (up_to (suc a) k) a ≡ false
    go true e = absurd (omega (arith, (numbers_within a (suc a) k e).0))
    go false e = e

-- one epoch
module _ (n : Network) (i e : ℕ) where
  abbrev raised_to : Network
  raised_to = epoch_network n i e

  pub epoch_many : length raised_to.sites ≡ length n.sites
  unfolding epoch_network
  epoch_many = length-set n.sites i (at_epoch e (site_at n i))

  pub epoch_items : raised_to.items ≡ n.items
  unfolding epoch_network
  epoch_items = refl

  pub epoch_lines : raised_to.lines ≡ n.lines
  unfolding epoch_network
  epoch_lines = refl

  pub epoch_history : raised_to.history ≡ n.history
  unfolding epoch_network
  epoch_history = refl

  pub epoch_other : (q : ℕ) → (q ≡ i → ⊥) → site_at raised_to q ≡ site_at n q
  unfolding epoch_network
  epoch_other q other = get_or-set_other n.sites i q (at_epoch e (site_at n i)) no_site other

  pub epoch_here : i < length n.sites → site_at raised_to i ≡ at_epoch e (site_at n i)
  unfolding epoch_network
  epoch_here there = get_or-set_same n.sites i (at_epoch e (site_at n i)) no_site there

  pub epoch_count : i < length n.sites → (q : ℕ) → own_count (site_at raised_to q).stamp ≡ own_count (site_at n q).stamp
  epoch_count there q = go (eqb q i) refl
    where
      go : (b : Bool) → eqb q i ≡ b → own_count (site_at raised_to q).stamp ≡ own_count (site_at n q).stamp
      go true t = subst (λ (k : ℕ). own_count (site_at raised_to k).stamp ≡ own_count (site_at n k).stamp) (sym (eqb-true q i t)) (ap (λ (s : Site). own_count s.stamp) (epoch_here there))
      go false t = ap (λ (s : Site). own_count s.stamp) (epoch_other q (eqb-false q i t))

-- the sites without parents up to some have epoch e, and nothing else is changed
module _ (e : ℕ) (start : Network) (low : (i : ℕ) → (site_at start i).stamp.epoch < e) where
  pub record Raising (n : Network) (is : List ℕ) : Type 0 where
    pub shape : well_shaped n ≡ true
    pub many : length n.sites ≡ length start.sites
    pub items_same : n.items ≡ start.items
    pub lines_same : n.lines ≡ start.lines
    pub history_same : n.history ≡ start.history
    pub counts_same : (i : ℕ) → own_count (site_at n i).stamp ≡ own_count (site_at start i).stamp
    pub apart : Apart is
    pub there : (i : ℕ) → is_placed is i ≡ true → i < length start.sites
    pub to_come : (i : ℕ) → is_placed is i ≡ true → site_at n i ≡ site_at start i
    pub raised : (i : ℕ) → i < length start.sites → has_parents start.items i ≡ false → (is_placed is i ≡ true) ⊎ (e ≤ (site_at n i).stamp.epoch)

  pub raise_next : (n : Network) (i : ℕ) (is : List ℕ) → Raising n (i ∷ is) → AllPass n (epoch_calls e n i) × Raising (walked n (epoch_calls e n i)) is
  raise_next n i is r = go (has_parents n.items i) refl
    where
      here : is_placed (i ∷ is) i ≡ true
      here = ap (λ (b : Bool). b || is_placed is i) (eq-eqb i i refl)

      behind : (q : ℕ) → is_placed is q ≡ true → is_placed (i ∷ is) q ≡ true
      behind q f = ap (λ (b : Bool). eqb i q || b) f ∙ or-true (eqb i q)

      -- one that has no parents is i, to come, or done
      split : {A : Type 0} (q : ℕ) (b : Bool) → eqb i q ≡ b → ((b || is_placed is q) ≡ true) ⊎ A → (q ≡ i) ⊎ ((is_placed is q ≡ true) ⊎ A)
      split q true f h = inl (sym (eqb-true i q f))
      split q false f (inl h) = inr (inl h)
      split q false f (inr a) = inr (inr a)

      go : (b : Bool) → has_parents n.items i ≡ b → AllPass n (cond b [] (epoch i e ∷ [])) × Raising (walked n (cond b [] (epoch i e ∷ []))) is
      go true f = (
        tt,
        record {
          shape = r.shape;
          many = r.many;
          items_same = r.items_same;
          lines_same = r.lines_same;
          history_same = r.history_same;
          counts_same = r.counts_same;
          apart = r.apart.1;
          there = λ q h. r.there q (behind q h);
          to_come = λ q h. r.to_come q (behind q h);
          raised = λ q l h. own q h (split q (eqb i q) refl (r.raised q l h));
        },
      )
        where
          own : {A : Type 0} (q : ℕ) → has_parents start.items q ≡ false → (q ≡ i) ⊎ A → A
          own q h (inl same) = absurd (true≢false (sym f ∙ ap (λ (xs : List Item). has_parents xs i) r.items_same ∙ ap (has_parents start.items) (sym same) ∙ h))
          own q h (inr a) = a
      go false f = (
        (epoch_passes n i e (allowed_epoch n i e ok), tt),
        record {
          shape = keeps_epoch n i e r.shape ok;
          many = epoch_many n i e ∙ r.many;
          items_same = epoch_items n i e ∙ r.items_same;
          lines_same = epoch_lines n i e ∙ r.lines_same;
          history_same = epoch_history n i e ∙ r.history_same;
          counts_same = λ q. epoch_count n i e ok.there q ∙ r.counts_same q;
          apart = r.apart.1;
          there = λ q h. r.there q (behind q h);
          to_come = λ q h. epoch_other n i e q (λ same. true≢false (sym h ∙ ap (is_placed is) same ∙ r.apart.0)) ∙ r.to_come q (behind q h);
          raised = λ q l h. own q (split q (eqb i q) refl (r.raised q l h));
        },
      )
        where
          ok : EpochAllowed n i e
          ok =
              record {
                there = omega (arith, r.there i here, r.many);
                orphan = f;
                newer = subst (λ (s : Site). s.stamp.epoch < e) (sym (r.to_come i here)) (low i);
              }

          own : (q : ℕ) → (q ≡ i) ⊎ ((is_placed is q ≡ true) ⊎ (e ≤ (site_at n q).stamp.epoch)) → (is_placed is q ≡ true) ⊎ (e ≤ (site_at (epoch_network n i e) q).stamp.epoch)
          own q (inl same) = inr (subst (λ (k : ℕ). e ≤ (site_at (epoch_network n i e) k).stamp.epoch) (sym same) (omega (arith, ap (λ (s : Site). s.stamp.epoch) (epoch_here n i e ok.there))))
          own q (inr (inl h)) = inl h
          own q (inr (inr late)) = at (eqb q i) refl
            where
              at : (b : Bool) → eqb q i ≡ b → (is_placed is q ≡ true) ⊎ (e ≤ (site_at (epoch_network n i e) q).stamp.epoch)
              at true t = inr (subst (λ (k : ℕ). e ≤ (site_at (epoch_network n i e) k).stamp.epoch) (sym (eqb-true q i t)) (omega (arith, ap (λ (s : Site). s.stamp.epoch) (epoch_here n i e ok.there))))
              at false t = inr (subst (λ (s : Site). e ≤ s.stamp.epoch) (sym (epoch_other n i e q (eqb-false q i t))) late)
