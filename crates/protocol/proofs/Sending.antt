-- A dummy in a round: a site that is still to send has room for it, and what it leaves.
use mathlib.Core.Path.{◌≡◌, refl, sym, ap, subst, ◌∙◌}
use mathlib.Core.Bool.{Bool, true, false, cond, ◌&&◌}
use mathlib.Core.List.{[], ◌∷◌, ◌++◌}
use Prim.Native.Nat.{ℕ, ◌+◌, ◌-◌, ◌<◌}
use native.Mathlib.Omega.{arith}
use lib.ListN.{length, length-set}
use lib.Seq.{get_or-set_same, get_or-set_other}
use lib.Dec.{eqb, ltb, leb}
use borrow.Author.Tests.{eqb-true, eqb-false, lt-leb}
use Rattle.limits.specs.Limits.{sites_most, held_most}
use Rattle.lists.proofs.Some.{none_all}
use Rattle.timestamp_order.specs.Timestamp.{Stamp, own_count, raised, raised_or_same, greatest}
use Rattle.placement.specs.Placement.{is_line}
use Rattle.site.specs.Site.{Site, dummied}
use Rattle.lines.specs.Lines.{Line}
use Rattle.messages.specs.Messages.{dummy as dummyMessage}
use Rattle.protocol.specs.Network.{Network, no_site, site_at, line_at, line_number}
use Rattle.protocol.specs.Steps.{count_at_most, dummy_network}
use Rattle.protocol.specs.Calls.{epoch}
use Rattle.protocol.specs.Allowed.{DummyAllowed}
use Rattle.protocol.proofs.WellShaped.{sent_length, sent_other, sent_here}
use Rattle.protocol.proofs.Hearing.{Hears}

-- ---- a site that is still to send: its lines have room, and its count can rise
pub record Fresh (n : Network) (i : ℕ) : Type 0 where
  pub room : (c : ℕ) → c < sites_most → length (line_at n i c).messages < held_most
  pub count : count_at_most n i ≡ false

-- what a site hears leaves every site so
pub hears_fresh : (j : ℕ) (n m : Network) → Hears j n m → (i : ℕ) → Fresh n i → Fresh m i
hears_fresh j n m h i f = record { room = λ c l. wide c l (eqb c j) refl; count = own (eqb i j) refl }
  where
    wide : (c : ℕ) → c < sites_most → (b : Bool) → eqb c j ≡ b → length (line_at m i c).messages < held_most
    wide c l true e = let same : c ≡ j = eqb-true c j e in subst (λ (d : ℕ). length (line_at n i d).messages < held_most → length (line_at m i d).messages < held_most) (sym same) (λ less. omega (arith, h.no_longer i)) (f.room c l)
    wide c l false e = subst (λ (x : Line). length x.messages < held_most) (sym (h.lines_same i c l (eqb-false c j e))) (f.room c l)

    own : (b : Bool) → eqb i j ≡ b → count_at_most m i ≡ false
    own true e = subst (λ (d : ℕ). count_at_most n d ≡ false → count_at_most m d ≡ false) (sym (eqb-true i j e)) (λ z. ap (leb greatest) h.count_same ∙ z) f.count
    own false e = ap (λ (s : Site). leb greatest (own_count s.stamp)) (h.sites_same i (eqb-false i j e)) ∙ f.count

-- ---- a dummy at j
module _ (n : Network) (j : ℕ) where
  abbrev next : Network
  next = dummy_network n j

  abbrev new : Site
  new = dummied (site_at n j)

  pub dummy_many : length next.sites ≡ length n.sites
  unfolding dummy_network
  dummy_many = length-set n.sites j new

  pub dummy_items : next.items ≡ n.items
  unfolding dummy_network
  dummy_items = refl

  pub dummy_history : next.history ≡ n.history
  unfolding dummy_network
  dummy_history = refl

  pub dummy_lines : length next.lines ≡ length n.lines
  unfolding dummy_network
  dummy_lines = sent_length (is_line n.items j) j (dummyMessage new.stamp) n.lines sites_most

  pub dummy_other : (i : ℕ) → (i ≡ j → ⊥) → site_at next i ≡ site_at n i
  unfolding dummy_network
  dummy_other i e = get_or-set_other n.sites j i new no_site e

  pub dummy_here : j < length n.sites → site_at next j ≡ new
  unfolding dummy_network
  dummy_here there = get_or-set_same n.sites j new no_site there

  -- the epoch stays
  pub new_epoch : new.stamp.epoch ≡ (site_at n j).stamp.epoch
  unfolding raised_or_same
  new_epoch = go (ltb (own_count t) greatest)
    where
      t : Stamp
      t = (site_at n j).stamp

      go : (b : Bool) → (cond b (raised t) t).epoch ≡ t.epoch
      go true = refl
      go false = refl

  -- the lines from the other sites stay
  pub dummy_from : (p c : ℕ) → c < sites_most → (p ≡ j → ⊥) → line_at next p c ≡ line_at n p c
  unfolding dummy_network
  dummy_from p c l e = sent_other (is_line n.items j) j (dummyMessage new.stamp) n.lines sites_most (line_number p c) (λ d b t s. e (omega arith))

  pub dummy_sent : (c : ℕ) → c < sites_most → is_line n.items j c ≡ true → line_number j c < length n.lines → (line_at next j c).messages ≡ (line_at n j c).messages ++ (dummyMessage new.stamp ∷ [])
  unfolding dummy_network
  dummy_sent c l t b = ap (λ (x : Line). x.messages) (sent_here (is_line n.items j) j (dummyMessage new.stamp) n.lines sites_most c l t b)

  -- one that is fresh is not refused
  module _ (there : j < length n.sites) (fresh : Fresh n j) where
    pub fresh_allowed : DummyAllowed n j
    fresh_allowed =
        record {
          there = there;
          lines_free = none_all (λ c. is_line n.items j c && leb held_most (length (line_at n j c).messages)) sites_most (λ c l. go c l (is_line n.items j c));
          count_free = fresh.count;
        }
      where
        go : (c : ℕ) → c < sites_most → (b : Bool) → (b && leb held_most (length (line_at n j c).messages)) ≡ false
        go c l true = lt-leb held_most (length (line_at n j c).messages) (fresh.room c l)
        go c l false = refl
