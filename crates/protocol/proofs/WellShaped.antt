-- What a well-shaped network is like, part by part, and what replacing an element, adding one and sending messages leave of its parts.
use mathlib.Core.Path.{◌≡◌, refl, ap, ◌∙◌}
use mathlib.Core.Bool.{Bool, true, false, cond, ◌&&◌, ◌||◌}
use mathlib.Core.List.{List}
use Prim.Native.Nat.{ℕ, zero, suc, ◌+◌, ◌/◌, ◌%◌, ◌≤◌, ◌<◌}
use native.Mathlib.Omega.{arith}
use lib.ListN.{length, get_or, set, length-set}
use lib.Seq.{get_or-set_same, get_or-set_other}
use lib.Dec.{eqb, ltb, leb}
use borrow.Author.Tests.{le-leb, leb-true, lt-ltb, ltb-true, eq-eqb, eqb-true, ltb-false}
use Rattle.lists.proofs.Lists.{set_each}
use Rattle.lists.specs.Lists.{every, every_from, is_empty}
use Rattle.lists.proofs.Every.{and_true, every_at, every_all, from_all, from_at}
use Rattle.timestamp_order.specs.Made.{made_by}
use Rattle.site.specs.Site.{Site}
use Rattle.placement.specs.Placement.{Item, is_line}
use Rattle.placement.specs.Places.{placement_number}
use Rattle.limits.specs.Limits.{sites_most}
use Rattle.lines.specs.Lines.{Line, no_line, sent}
use Rattle.messages.specs.Messages.{Message}
use Rattle.records.specs.Records.{Record, op_fits, record_fits}
use Rattle.protocol.specs.Network.{Network, no_site, no_record, site_at, line_number, place_of, message_fits, line_fits, base_fits, well_shaped}
use Rattle.protocol.specs.Steps.{sent_to}
use Rattle.protocol.proofs.Places.{place_at}

-- ---- a message sent from i to some of the sites
-- one line, where it is addressed
abbrev addressed : Bool → ℕ → Message → List Line → List Line
addressed b k m ls = cond b (set ls k (sent m (get_or ls k no_line))) ls

addressed_length : (b : Bool) (k : ℕ) (m : Message) (ls : List Line) → length (addressed b k m ls) ≡ length ls
addressed_length true k m ls = length-set ls k (sent m (get_or ls k no_line))
addressed_length false k m ls = refl

addressed_other : (b : Bool) (k : ℕ) (m : Message) (ls : List Line) (j : ℕ) → (b ≡ true → j ≡ k → ⊥) → get_or (addressed b k m ls) j no_line ≡ get_or ls j no_line
addressed_other true k m ls j h = get_or-set_other ls k j (sent m (get_or ls k no_line)) no_line (h refl)
addressed_other false k m ls j h = refl

module _ (gets : ℕ → Bool) (i : ℕ) (m : Message) (ls : List Line) where
  pub sent_length : (n : ℕ) → length (sent_to gets i m n ls) ≡ length ls
  sent_length zero = refl
  sent_length (suc c) = addressed_length (gets c) (line_number i c) m (sent_to gets i m c ls) ∙ sent_length c

  -- a line that is not addressed
  pub sent_other : (n k : ℕ) → ((c : ℕ) → c < n → gets c ≡ true → k ≡ line_number i c → ⊥) → get_or (sent_to gets i m n ls) k no_line ≡ get_or ls k no_line
  sent_other zero k h = refl
  sent_other (suc c) k h =
      addressed_other (gets c) (line_number i c) m (sent_to gets i m c ls) k (h c (omega arith)) ∙ sent_other c k (λ b l. h b (omega arith))

  -- one that is
  pub sent_here : (n c : ℕ) → c < n → gets c ≡ true → line_number i c < length ls → get_or (sent_to gets i m n ls) (line_number i c) no_line ≡ sent m (get_or ls (line_number i c) no_line)
  sent_here zero c l t h = absurd (omega arith)
  sent_here (suc n) c l t h = go (ltb c n) refl (sent_here n c)
    where
      go : (b : Bool) → ltb c n ≡ b
          → (c < n → gets c ≡ true → line_number i c < length ls → get_or (sent_to gets i m n ls) (line_number i c) no_line ≡ sent m (get_or ls (line_number i c) no_line))
          → get_or (sent_to gets i m (suc n) ls) (line_number i c) no_line ≡ sent m (get_or ls (line_number i c) no_line)
      go true e rest =
          let below : c < n = ltb-true c n e in
          addressed_other (gets n) (line_number i n) m (sent_to gets i m n ls) (line_number i c) (λ t q. omega arith) ∙ rest below t h
      go false e rest =
          let same : n ≡ c = omega (arith, ltb-false c n e) in
          let before = sent_to gets i m c ls in
          ap (λ (k : ℕ). get_or (sent_to gets i m (suc k) ls) (line_number i c) no_line) same
          ∙ ap (λ (b : Bool). get_or (addressed b (line_number i c) m before) (line_number i c) no_line) t
          ∙ get_or-set_same before (line_number i c) (sent m (get_or before (line_number i c) no_line)) no_line (omega (arith, sent_length c))
          ∙ ap (sent m) (sent_other c (line_number i c) (λ b l s q. omega arith))

  -- what holds of each line still does, if it does of each line that gets the message
  pub sent_each : (holds : ℕ → Line → Type 0) → ((k : ℕ) → k < length ls → holds k (get_or ls k no_line)) → (n : ℕ)
      → ((c : ℕ) → c < n → gets c ≡ true → (l : Line) → holds (line_number i c) l → holds (line_number i c) (sent m l))
      → (k : ℕ) → k < length (sent_to gets i m n ls) → holds k (get_or (sent_to gets i m n ls) k no_line)
  sent_each holds f zero g = f
  sent_each holds f (suc c) g = go (gets c) refl (sent_each holds f c (λ b l. g b (omega arith)))
    where
      go : (b : Bool) → gets c ≡ b → ((k : ℕ) → k < length (sent_to gets i m c ls) → holds k (get_or (sent_to gets i m c ls) k no_line))
          → (k : ℕ) → k < length (addressed b (line_number i c) m (sent_to gets i m c ls)) → holds k (get_or (addressed b (line_number i c) m (sent_to gets i m c ls)) k no_line)
      go true e r =
          let before = sent_to gets i m c ls in
          let old = get_or before (line_number i c) no_line in
          set_each holds before (line_number i c) (sent m old) no_line r (λ b. g c (omega arith) e old (r (line_number i c) b))
      go false e r = r

-- ---- the parts of a line that fits
pub record LineShape (xs : List Item) (h : List Record) (k : ℕ) (l : Line) : Type 0 where
  pub held : l.arrived ≤ length l.messages
  pub placed : (is_empty l.messages || is_line xs (k / sites_most) (k % sites_most)) ≡ true
  pub fitting : every (message_fits (place_of xs) h (k / sites_most)) l.messages ≡ true

module _ (xs : List Item) (h : List Record) (k : ℕ) (l : Line) where
  pub line_parts : line_fits xs h k l ≡ true → LineShape xs h k l
  unfolding line_fits
  line_parts e =
      let near = is_empty l.messages || is_line xs (k / sites_most) (k % sites_most) in
      let each = every (message_fits (place_of xs) h (k / sites_most)) l.messages in
      let a = and_true (leb l.arrived (length l.messages)) (near && each) e in
      let b = and_true near each a.1 in
      record { held = leb-true l.arrived (length l.messages) a.0; placed = b.0; fitting = b.1 }

  pub line_whole : LineShape xs h k l → line_fits xs h k l ≡ true
  unfolding line_fits
  line_whole s = rw (le-leb l.arrived (length l.messages) s.held, s.placed) s.fitting

-- ---- the parts of a record that fits
pub record RecordShape (place : ℕ → ℕ) (sites items : ℕ) (r : Record) : Type 0 where
  pub at : r.site < sites
  pub made : made_by place r.site r.stamp ≡ true
  pub fitting : every (op_fits items) r.ops ≡ true

module _ (place : ℕ → ℕ) (sites items : ℕ) (r : Record) where
  pub record_parts : record_fits place sites items r ≡ true → RecordShape place sites items r
  unfolding record_fits
  record_parts e =
      let made = made_by place r.site r.stamp in
      let each = every (op_fits items) r.ops in
      let a = and_true (ltb r.site sites) (made && each) e in
      let b = and_true made each a.1 in
      record { at = ltb-true r.site sites a.0; made = b.0; fitting = b.1 }

  pub record_whole : RecordShape place sites items r → record_fits place sites items r ≡ true
  unfolding record_fits
  record_whole s = rw (lt-ltb r.site sites s.at, s.made) s.fitting

-- ---- the parts of a well-shaped network
pub record Shape (n : Network) : Type 0 where
  pub placed : placement_number (length n.sites) n.items ≡ 0
  pub stamps : (i : ℕ) → i < length n.sites → made_by (place_at n) i (site_at n i).stamp ≡ true
  pub records : (k : ℕ) → k < length n.history → RecordShape (place_at n) (length n.sites) (length n.items) (get_or n.history k no_record)
  pub lined : (k : ℕ) → k < length n.lines → LineShape n.items n.history k (get_or n.lines k no_line)
  pub based : base_fits n.base ≡ true

module _ (n : Network) where
  abbrev own_stamp : ℕ → Site → Bool
  own_stamp i s = made_by (place_at n) i s.stamp

  pub shape_parts : well_shaped n ≡ true → Shape n
  unfolding well_shaped
  shape_parts e =
      let placement = eqb (placement_number (length n.sites) n.items) 0 in
      let stamps = every_from own_stamp 0 n.sites in
      let records = every (record_fits (place_at n) (length n.sites) (length n.items)) n.history in
      let lines = every_from (line_fits n.items n.history) 0 n.lines in
      let base = base_fits n.base in
      let a = and_true placement (stamps && (records && (lines && base))) e in
      let b = and_true stamps (records && (lines && base)) a.1 in
      let c = and_true records (lines && base) b.1 in
      let d = and_true lines base c.1 in
      let number : (k : ℕ) → k ≡ 0 + k = λ k. omega arith in
      record {
        placed = eqb-true (placement_number (length n.sites) n.items) 0 a.0;
        stamps = λ i h. ap (λ (k : ℕ). own_stamp k (site_at n i)) (number i) ∙ from_at own_stamp 0 n.sites i no_site b.0 h;
        records = λ k h.
            record_parts (place_at n) (length n.sites) (length n.items) (get_or n.history k no_record)
            (every_at (record_fits (place_at n) (length n.sites) (length n.items)) n.history k no_record c.0 h);
        lined = λ k h.
            line_parts n.items n.history k (get_or n.lines k no_line)
            (ap (λ (j : ℕ). line_fits n.items n.history j (get_or n.lines k no_line)) (number k) ∙ from_at (line_fits n.items n.history) 0 n.lines k no_line d.0 h);
        based = d.1;
      }

  pub shape_whole : Shape n → well_shaped n ≡ true
  unfolding well_shaped
  shape_whole s =
      let number : (k : ℕ) → 0 + k ≡ k = λ k. omega arith in
      let fits = line_fits n.items n.history in
      rw (eq-eqb (placement_number (length n.sites) n.items) 0 s.placed)
      (rw (from_all own_stamp 0 n.sites no_site (λ i h. ap (λ (k : ℕ). own_stamp k (site_at n i)) (number i) ∙ s.stamps i h))
      (rw (every_all (record_fits (place_at n) (length n.sites) (length n.items)) n.history no_record (λ k h. record_whole (place_at n) (length n.sites) (length n.items) (get_or n.history k no_record) (s.records k h)))
      (rw (from_all fits 0 n.lines no_line (λ k h. ap (λ (j : ℕ). fits j (get_or n.lines k no_line)) (number k) ∙ line_whole n.items n.history k (get_or n.lines k no_line) (s.lined k h)))
      s.based)))
