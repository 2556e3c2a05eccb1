-- Deliver, epoch and dummy keep the invariant.
use mathlib.Core.Path.{◌≡◌, refl, ap, sym, subst, ◌∙◌}
use mathlib.Core.Bool.{Bool, true, false, true≢false}
use mathlib.Core.List.{List, [], ◌∷◌, ◌++◌}
use mathlib.Core.Logic.{◌⊎◌, inl, inr}
use Prim.Native.Nat.{ℕ, ◌<◌}
use native.Mathlib.Omega.{arith}
use lib.ListN.{length, get_or, set, length-set}
use lib.Seq.{get_or-set_same}
use lib.Dec.{eqb}
use borrow.Author.Tests.{eqb-true, eqb-false, leb-false}
use Rattle.timestamp_order.specs.Timestamp.{raised, raised_or_same, own_count, greatest}
use Rattle.timestamp_order.proofs.Made.{without}
use Rattle.timestamp_order.proofs.OrderLaws.{epoch_later}
use Rattle.timestamp_order.proofs.Timestamp.{raise_room}
use Rattle.site.specs.Site.{Site, dummied, at_epoch}
use Rattle.site.specs.InWords.{table_size}
use Rattle.placement.specs.Placement.{is_line, has_parents}
use Rattle.limits.specs.Limits.{sites_most}
use Rattle.lines.specs.Lines.{Line, no_line, delivered}
use Rattle.messages.specs.Messages.{Message, dummy}
use Rattle.records.specs.Records.{Record}
use Rattle.protocol.specs.Network.{Network, no_site, site_at, line_at, line_number, message_stamp, message_fits, well_shaped}
use Rattle.protocol.specs.Steps.{count_at_most, sent_to, dummy_network, epoch_network, deliver_network}
use Rattle.lists.proofs.Lists.{set_each}
use Rattle.protocol.proofs.WellShaped.{sent_length, sent_other, sent_here}
use Rattle.protocol.proofs.Keeps.{keeps_deliver, keeps_epoch, keeps_dummy}
use Rattle.protocol.proofs.Places.{place_at, Before, UpTo, times_at}
use Rattle.protocol.proofs.Invariant.{stamp_at, heard_at, table_at, messages_at, Sizes, Invariant, line_sites, line_number_lem, line_child, stamp_made}
use Rattle.protocol.proofs.Calm.{changed, Grown, Sent, Calm, calm_keeps}
use Rattle.protocol.specs.Allowed.{DummyAllowed, EpochAllowed, DeliverAllowed}

-- ---- one site replaced
module _ (n : Network) (inv : Invariant n) (i : ℕ) (new : Site) where
  open times_at n use {upto_self}

  abbrev pub moved : List Site
  moved = set n.sites i new

  pub moved_many : length moved ≡ length n.sites
  moved_many = length-set n.sites i new

  -- what holds of each site, and of the new one
  pub moved_each : (holds : ℕ → Site → Type 0) → ((j : ℕ) → j < length n.sites → holds j (site_at n j)) → holds i new
      → (j : ℕ) → j < length n.sites → holds j (get_or moved j no_site)
  moved_each holds f g j l = set_each holds n.sites i new no_site f (λ b. g) j (omega (arith, moved_many))

  pub moved_here : i < length n.sites → get_or moved i no_site ≡ new
  moved_here l = get_or-set_same n.sites i new no_site l

  pub moved_sizes : (ls : List Line) (h : List Record) → length ls ≡ length n.lines → length new.table ≡ table_size → Sizes (changed n moved ls h)
  moved_sizes ls h e t =
      record {
        lines = e ∙ inv.sizes.lines;
        sites = omega (arith, moved_many, inv.sizes.sites);
        items = inv.sizes.items;
        tables = λ j l. moved_each (λ k s. length s.table ≡ table_size) inv.sizes.tables t j (omega (arith, moved_many));
      }

  pub moved_grown : UpTo n (stamp_at n i) new.stamp → Grown n moved
  moved_grown u = record { many = moved_many; grows = moved_each (λ j s. UpTo n (stamp_at n j) s.stamp) (λ j l. upto_self (stamp_at n j)) u }

  pub moved_calm : (has_parents n.items i ≡ true → without new.stamp ≡ heard_at n i) → (p j : ℕ) → is_line n.items p j ≡ true → without (get_or moved j no_site).stamp ≡ heard_at n j
  moved_calm e p j line =
      moved_each (λ k s. has_parents n.items k ≡ true → without s.stamp ≡ heard_at n k) (λ k l h. refl) e j (line_sites n inv p j line).1 (line_child n.items p j line)

  pub moved_tables : new.table ≡ table_at n i → (j : ℕ) → j < length n.sites → (get_or moved j no_site).table ≡ table_at n j
  moved_tables e = moved_each (λ j s. s.table ≡ table_at n j) (λ j l. refl) e

-- ---- a message sent from i
module _ (n : Network) (inv : Invariant n) (gets : ℕ → Bool) (i : ℕ) (m : Message) where
  abbrev pub mailed : List Line
  mailed = sent_to gets i m sites_most n.lines

  child : (p j : ℕ) → is_line n.items p j ≡ true → j < sites_most
  child p j line = omega (arith, (line_sites n inv p j line).1, inv.sizes.sites)

  -- to a child that gets one
  pub mail_here : (j : ℕ) → is_line n.items i j ≡ true → gets j ≡ true → (get_or mailed (line_number i j) no_line).messages ≡ messages_at n i j ++ (m ∷ [])
  mail_here j line f = ap (λ (l : Line). l.messages) (sent_here gets i m n.lines sites_most j (child i j line) f (line_number_lem n inv i j line))

  module _ (p j : ℕ) (line : is_line n.items p j ≡ true) where
    abbrev Same : Type 0
    Same = (get_or mailed (line_number p j) no_line).messages ≡ messages_at n p j

    abbrev More : Type 0
    More = (p ≡ i) × (gets j ≡ true) × ((get_or mailed (line_number p j) no_line).messages ≡ messages_at n p j ++ (m ∷ []))

    other : ((c : ℕ) → c < sites_most → gets c ≡ true → line_number p j ≡ line_number i c → ⊥) → Same ⊎ More
    other f = inl (ap (λ (l : Line). l.messages) (sent_other gets i m n.lines sites_most (line_number p j) f))

    pub mail_sent : Same ⊎ More
    mail_sent = go (eqb p i) refl (gets j) refl
      where
        go : (b : Bool) → eqb p i ≡ b → (g : Bool) → gets j ≡ g → Same ⊎ More
        go false e g f = other (λ c l s q. eqb-false p i e (omega (arith, child p j line)))
        go true e false f =
            other (λ c l s q. let same : c ≡ j = omega (arith, child p j line, eqb-true p i e) in true≢false (sym s ∙ ap gets same ∙ f))
        go true e true f =
            let same : p ≡ i = eqb-true p i e in
            let from : is_line n.items i j ≡ true = ap (λ (q : ℕ). is_line n.items q j) (sym same) ∙ line in
            let more : (q : ℕ) → Type 0 = λ q. (get_or mailed (line_number q j) no_line).messages ≡ messages_at n q j ++ (m ∷ []) in
            inr (same, f, subst more (sym same) (mail_here j from f))

-- ---- deliver: what has arrived is no part of the invariant
pub same_grown : (n : Network) → Grown n n.sites
same_grown n = record { many = refl; grows = λ j l. (times_at n).upto_self (stamp_at n j) }

pub deliver_keeps : (n : Network) → Invariant n → (p c : ℕ) → DeliverAllowed n p c → Invariant (deliver_network n p c)
unfolding deliver_network
deliver_keeps n inv p c z =
    let k = line_number p c in
    let ls = set n.lines k (delivered (line_at n p c)) in
    let size : length ls ≡ length n.lines = length-set n.lines k (delivered (line_at n p c)) in
    calm_keeps n inv n.sites ls
    (record {
      sizes = record { lines = size ∙ inv.sizes.lines; sites = inv.sizes.sites; items = inv.sizes.items; tables = inv.sizes.tables };
      shape = keeps_deliver n p c inv.shape z;
      grown = same_grown n;
      calm = λ q j line. refl;
      mail = λ q j line. inl (set_each (λ a l. l.messages ≡ (get_or n.lines a no_line).messages) n.lines k (delivered (line_at n p c)) no_line (λ a l. refl) (λ b. refl)
          (line_number q j) (omega (arith, size, line_number_lem n inv q j line)));
      stays = λ q m f. refl;
    })
    (λ j l. refl)

-- ---- epoch: at a site without parents
pub epoch_grown : (n : Network) (inv : Invariant n) (i e : ℕ) → EpochAllowed n i e → Grown n (moved n inv i (at_epoch e (site_at n i)))
epoch_grown n inv i e z =
    let t = stamp_at n i in
    let new = at_epoch e (site_at n i) in
    moved_grown n inv i new ((times_at n).upto_before t new.stamp (epoch_later (place_at n) t new.stamp z.newer))

pub epoch_keeps : (n : Network) → Invariant n → (i e : ℕ) → EpochAllowed n i e → Invariant (epoch_network n i e)
unfolding epoch_network
epoch_keeps n inv i e z =
    let new = at_epoch e (site_at n i) in
    calm_keeps n inv (moved n inv i new) n.lines
    (record {
      sizes = moved_sizes n inv i new n.lines n.history refl (inv.sizes.tables i z.there);
      shape = keeps_epoch n i e inv.shape z;
      grown = epoch_grown n inv i e z;
      calm = moved_calm n inv i new (λ h. absurd (true≢false (sym h ∙ z.orphan)));
      mail = λ q j line. inl refl;
      stays = λ q m f. refl;
    })
    (moved_tables n inv i new refl)

-- ---- a site whose own count rises, and what it sends with the new timestamp
module _ (n : Network) (inv : Invariant n) (i : ℕ) (site : i < length n.sites) (few : count_at_most n i ≡ false) where
  open times_at n use {upto_before, without_raised, raised_before}

  pub risen : raised_or_same (stamp_at n i) ≡ raised (stamp_at n i)
  risen = raise_room (stamp_at n i) (leb-false greatest (own_count (stamp_at n i)) few)

  pub risen_before : Before n (stamp_at n i) (raised_or_same (stamp_at n i))
  risen_before = subst (Before n (stamp_at n i)) (sym risen) (raised_before i (stamp_at n i) (stamp_made n inv i site))

  pub risen_without : without (raised_or_same (stamp_at n i)) ≡ heard_at n i
  risen_without = ap without risen ∙ without_raised i (stamp_at n i) (stamp_made n inv i site)

  pub risen_grown : (new : Site) → new.stamp ≡ raised_or_same (stamp_at n i) → Grown n (moved n inv i new)
  risen_grown new same = moved_grown n inv i new (upto_before (stamp_at n i) new.stamp (subst (Before n (stamp_at n i)) (sym same) risen_before))

  module _ (new : Site) (same : new.stamp ≡ raised_or_same (stamp_at n i)) (size : length new.table ≡ table_size) (gets : ℕ → Bool) (m : Message) (h : List Record) (is : message_stamp h m ≡ new.stamp) where
    abbrev after : Network
    after = changed n (moved n inv i new) (mailed n inv gets i m) h

    higher : Before n (stamp_at n i) new.stamp
    higher = subst (Before n (stamp_at n i)) (sym same) risen_before

    here : site_at after i ≡ new
    here = moved_here n inv i new site

    was_sent : (p j : ℕ) → p ≡ i → messages_at after p j ≡ messages_at n p j ++ (m ∷ []) → Sent n after p j
    was_sent p j s e =
        record {
          message = m;
          extends = e;
          stamp = is ∙ ap (λ (x : Site). x.stamp) (sym here) ∙ ap (stamp_at after) (sym s);
          higher = subst (λ (k : ℕ). Before n (stamp_at n k) (stamp_at after k)) (sym s) (subst (λ (x : Site). Before n (stamp_at n i) x.stamp) (sym here) higher);
        }

    pub raise_calm : well_shaped after ≡ true → ((p : ℕ) (x : Message) → message_fits (place_at n) n.history p x ≡ true → message_stamp h x ≡ message_stamp n.history x)
        → Calm n (moved n inv i new) (mailed n inv gets i m) h
    raise_calm well stays =
        record {
          sizes = moved_sizes n inv i new (mailed n inv gets i m) h (sent_length gets i m n.lines sites_most) size;
          shape = well;
          grown = risen_grown new same;
          calm = moved_calm n inv i new (λ e. ap without same ∙ risen_without);
          mail = λ p j line. go p j (mail_sent n inv gets i m p j line);
          stays = stays;
        }
      where
        go : (p j : ℕ) → (messages_at after p j ≡ messages_at n p j) ⊎ ((p ≡ i) × (gets j ≡ true) × (messages_at after p j ≡ messages_at n p j ++ (m ∷ []))) → (messages_at after p j ≡ messages_at n p j) ⊎ Sent n after p j
        go p j (inl e) = inl e
        go p j (inr (s, _, e)) = inr (was_sent p j s e)

-- ---- dummy
pub dummy_keeps : (n : Network) → Invariant n → (i : ℕ) → DummyAllowed n i → Invariant (dummy_network n i)
unfolding dummy_network
dummy_keeps n inv i z =
    let gets = is_line n.items i in
    let new = dummied (site_at n i) in
    let m = dummy new.stamp in
    calm_keeps n inv (moved n inv i new) (mailed n inv gets i m)
    (raise_calm n inv i z.there z.count_free new refl (inv.sizes.tables i z.there) gets m n.history refl
    (keeps_dummy n i inv.shape z) (λ p x f. refl))
    (moved_tables n inv i new refl)
