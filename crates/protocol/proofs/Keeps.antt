-- Set-up gives a well-shaped network, and deliver, epoch, dummy and commit keep it so.
use mathlib.Core.Path.{◌≡◌, refl, sym, ap, ap₂, subst, ◌∙◌}
use mathlib.Core.Bool.{Bool, true, false, ◌&&◌, or-true}
use mathlib.Core.List.{List, [], ◌∷◌, ◌++◌, map}
use Prim.Native.Nat.{ℕ, zero, suc, ◌+◌, ◌/◌, ◌%◌, ◌<◌}
use native.Mathlib.Omega.{arith}
use lib.IntN.{ℤ}
use lib.ListN.{length, get_or, set, length-set, length-replicate, get_or-replicate, length-append, get_or-append}
use lib.Seq.{get_or-append_seam}
use lib.Dec.{eqb, ltb, leb}
use borrow.Author.Tests.{leb-false, ltb-false, ltb-true, lt-ltb, le-leb, eq-eqb}
use Rattle.lists.specs.Lists.{every, is_empty}
use Rattle.lists.proofs.Every.{and_true, every_snoc, every_all}
use Rattle.timestamp_order.specs.Timestamp.{Stamp, with_epoch, raised_or_same, own_count, greatest}
use Rattle.timestamp_order.specs.Made.{made_by}
use Rattle.timestamp_order.proofs.Made.{made_start, made_raised}
use Rattle.timestamp_order.proofs.Timestamp.{raise_room}
use Rattle.site_operations.specs.Operations.{Op, no_op, writes, written, worked}
use Rattle.site.specs.Site.{Site, committed, dummied, at_epoch}
use Rattle.limits.specs.Limits.{sites_most}
use Rattle.site_operations.proofs.Works.{recorded_like}
use Rattle.placement.specs.Masks.{bit}
use Rattle.placement.specs.Placement.{Item, no_item, copies, is_line}
use Rattle.placement.specs.Places.{placement_number}
use Rattle.lists.specs.Numbers.{first_number}
use Rattle.lists.proofs.Some.{some_at, some_index}
use Rattle.lines.specs.Lines.{Line, no_line, sent, delivered}
use Rattle.messages.specs.Messages.{Message, commit, dummy}
use Rattle.records.specs.Records.{Record, op_fits}
use Rattle.protocol.specs.Network.{lines_most, Network, no_site, no_record, site_at, line_at, line_number, place_of, message_fits, start_base, base_fits, well_shaped}
use Rattle.protocol.specs.Steps.{items_of, start_site, start_sites, set_up_network, count_at_most, op_number, due, record_of, commit_network, dummy_network, epoch_network, deliver_network}
use Rattle.lists.proofs.Lists.{set_each}
use Rattle.protocol.proofs.Places.{place_at}
use Rattle.protocol.proofs.WellShaped.{sent_each, LineShape, RecordShape, Shape, shape_parts, shape_whole}
use Rattle.protocol.specs.Allowed.{SetUpAllowed, CommitAllowed, DummyAllowed, EpochAllowed, DeliverAllowed}
use Rattle.protocol.proofs.Allowed.{CommitFits, commit_fits, op_at_lem}

-- ---- set-up
pub start_length : (i n : ℕ) → length (start_sites i n) ≡ n
start_length i zero = refl
start_length i (suc n) = ap suc (start_length (suc i) n)

pub start_at : (i n k : ℕ) → k < n → get_or (start_sites i n) k no_site ≡ start_site (i + k)
start_at i zero k h = absurd (omega arith)
start_at i (suc n) zero h = let first : i ≡ i + 0 = omega arith in ap start_site first
start_at i (suc n) (suc k) h = let next : suc i + k ≡ i + suc k = omega arith in start_at (suc i) n k (omega arith) ∙ ap start_site next

no_line_lem : (xs : List Item) (h : List Record) (k : ℕ) → LineShape xs h k no_line
no_line_lem xs h k = record { held = omega arith; placed = refl; fitting = refl }

zeros_fit : (k : ℕ) → base_fits (start_base k) ≡ true
zeros_fit zero = refl
zeros_fit (suc k) = zeros_fit k

pub keeps_set_up : (sites items : ℕ) (ps ms : List ℕ) → SetUpAllowed sites items ps ms → well_shaped (set_up_network sites ps ms) ≡ true
unfolding set_up_network
keeps_set_up sites items ps ms allowed =
    let xs = items_of ps ms in
    let number : (k : ℕ) → 0 + k ≡ k = λ k. omega arith in
    shape_whole (set_up_network sites ps ms)
    (record {
      placed = ap (λ (m : ℕ). placement_number m xs) (start_length 0 sites) ∙ allowed.placed;
      stamps = λ i h.
          ap (λ (x : Site). made_by (place_of xs) i x.stamp) (start_at 0 sites i (omega (arith, start_length 0 sites)) ∙ ap start_site (number i))
          ∙ made_start (place_of xs) i 0 0;
      records = λ k h. absurd (omega arith);
      lined = λ k h. subst (LineShape xs [] k) (sym (get_or-replicate lines_most k no_line no_line (omega (arith, length-replicate lines_most no_line)))) (no_line_lem xs [] k);
      based = zeros_fit (length xs);
    })

-- ---- deliver: of fewer arrived than held, one more arrives
delivered_shape : (xs : List Item) (h : List Record) (k : ℕ) (l : Line) → l.arrived < length l.messages → LineShape xs h k l → LineShape xs h k (delivered l)
delivered_shape xs h k l b s = record { held = omega arith; placed = s.placed; fitting = s.fitting }

pub keeps_deliver : (n : Network) (p c : ℕ) → well_shaped n ≡ true → DeliverAllowed n p c → well_shaped (deliver_network n p c) ≡ true
unfolding deliver_network
keeps_deliver n p c e allowed =
    let s = shape_parts n e in
    let l = line_at n p c in
    shape_whole (deliver_network n p c)
    (record {
      placed = s.placed;
      stamps = s.stamps;
      records = s.records;
      lined = set_each (LineShape n.items n.history) n.lines (line_number p c) (delivered l) no_line s.lined
          (λ b. delivered_shape n.items n.history (line_number p c) l allowed.on_way_lem (s.lined (line_number p c) b));
      based = s.based;
    })

-- ---- a site replaced by one whose timestamp it made too
module _ (n : Network) (s : Shape n) (i : ℕ) (new : Site) where
  pub stamps_set : made_by (place_at n) i new.stamp ≡ true → (k : ℕ) → k < length (set n.sites i new) → made_by (place_at n) k (get_or (set n.sites i new) k no_site).stamp ≡ true
  stamps_set e = set_each (λ k x. made_by (place_at n) k x.stamp ≡ true) n.sites i new no_site s.stamps (λ b. e)

  pub placed_set : placement_number (length (set n.sites i new)) n.items ≡ 0
  placed_set = ap (λ (m : ℕ). placement_number m n.items) (length-set n.sites i new) ∙ s.placed

  pub records_set : (k : ℕ) → k < length n.history → RecordShape (place_at n) (length (set n.sites i new)) (length n.items) (get_or n.history k no_record)
  records_set k h = subst (λ (m : ℕ). RecordShape (place_at n) m (length n.items) (get_or n.history k no_record)) (sym (length-set n.sites i new)) (s.records k h)

-- ---- epoch: another epoch, the tuples as they were
epoch_made : (place : ℕ → ℕ) (i e : ℕ) (t : Stamp) → made_by place i t ≡ true → made_by place i (with_epoch t e) ≡ true
unfolding made_by
epoch_made place i e t m = m

pub keeps_epoch : (n : Network) (i e : ℕ) → well_shaped n ≡ true → EpochAllowed n i e → well_shaped (epoch_network n i e) ≡ true
unfolding epoch_network
keeps_epoch n i e w allowed =
    let s = shape_parts n w in
    let new = at_epoch e (site_at n i) in
    shape_whole (epoch_network n i e)
    (record {
      placed = placed_set n s i new;
      stamps = stamps_set n s i new (epoch_made (place_at n) i e (site_at n i).stamp (s.stamps i allowed.there));
      records = records_set n s i new;
      lined = s.lined;
      based = s.based;
    })

-- ---- a message on a line that the placement gives
module _ (xs : List Item) (h : List Record) (i c : ℕ) (site : c < sites_most) where
  from_site : line_number i c / sites_most ≡ i
  from_site = omega arith

  to_site : line_number i c % sites_most ≡ c
  to_site = omega arith

  sent_shape : (m : Message) (l : Line) → is_line xs i c ≡ true → message_fits (place_of xs) h i m ≡ true → LineShape xs h (line_number i c) l → LineShape xs h (line_number i c) (sent m l)
  sent_shape m l line fits s =
      record {
        held = omega (arith, length-append l.messages (m ∷ []));
        placed = rw (from_site, to_site, line) (or-true (is_empty (l.messages ++ (m ∷ []))));
        fitting = every_snoc (message_fits (place_of xs) h (line_number i c / sites_most)) l.messages m s.fitting (rw from_site fits);
      }

-- a count one higher at site i
pub raised_made : (n : Network) (s : Shape n) (i : ℕ) → i < length n.sites → count_at_most n i ≡ false → made_by (place_at n) i (raised_or_same (site_at n i).stamp) ≡ true
raised_made n s i a b =
    let t = (site_at n i).stamp in
    rw (raise_room t (leb-false greatest (own_count t) b)) (made_raised (place_at n) i t (s.stamps i a))

-- ---- dummy
pub keeps_dummy : (n : Network) (i : ℕ) → well_shaped n ≡ true → DummyAllowed n i → well_shaped (dummy_network n i) ≡ true
unfolding dummy_network
keeps_dummy n i e allowed =
    let s = shape_parts n e in
    let gets = is_line n.items i in
    let new = dummied (site_at n i) in
    let made = raised_made n s i allowed.there allowed.count_free in
    shape_whole (dummy_network n i)
    (record {
      placed = placed_set n s i new;
      stamps = stamps_set n s i new made;
      records = records_set n s i new;
      lined = sent_each gets i (dummy new.stamp) n.lines (LineShape n.items n.history) s.lined sites_most
          (λ c site line l. sent_shape n.items n.history i c site (dummy new.stamp) l line made);
      based = s.based;
    })

-- ---- a history longer by one record
module _ (h : List Record) (r : Record) where
  abbrev pub longer : List Record
  longer = h ++ (r ∷ [])

  pub longer_length : length longer ≡ suc (length h)
  longer_length = omega (arith, length-append h (r ∷ []))

  -- an old name means the same record
  message_longer : (place : ℕ → ℕ) (p : ℕ) (m : Message) → message_fits place h p m ≡ true → message_fits place longer p m ≡ true
  message_longer place p (commit k) e =
      let q = and_true (ltb k (length h)) (eqb (get_or h k no_record).site p) e in
      let old : k < length h = ltb-true k (length h) q.0 in
      rw (lt-ltb k (length longer) (omega (arith, longer_length)), get_or-append h (r ∷ []) no_record k old) q.1
  message_longer place p (dummy t) e = e

  messages_longer : (place : ℕ → ℕ) (p : ℕ) (ms : List Message) → every (message_fits place h p) ms ≡ true → every (message_fits place longer p) ms ≡ true
  messages_longer place p [] e = refl
  messages_longer place p (m ∷ ms) e =
      let q = and_true (message_fits place h p m) (every (message_fits place h p) ms) e in
      rw (message_longer place p m q.0) (messages_longer place p ms q.1)

  line_longer : (xs : List Item) (k : ℕ) (l : Line) → LineShape xs h k l → LineShape xs longer k l
  line_longer xs k l s = record { held = s.held; placed = s.placed; fitting = messages_longer (place_of xs) (k / sites_most) l.messages s.fitting }

  -- the new name is of the new record
  message_new : (place : ℕ → ℕ) → message_fits place longer r.site (commit (length h)) ≡ true
  message_new place =
      rw (lt-ltb (length h) (length longer) (omega (arith, longer_length)), get_or-append_seam h r [] no_record) (eq-eqb r.site r.site refl)

  pub records_longer : (holds : Record → Type 0) → ((k : ℕ) → k < length h → holds (get_or h k no_record)) → holds r → (k : ℕ) → k < length longer → holds (get_or longer k no_record)
  records_longer holds f g k b = go (ltb k (length h)) refl
    where
      go : (t : Bool) → ltb k (length h) ≡ t → holds (get_or longer k no_record)
      go true e = let old : k < length h = ltb-true k (length h) e in rw (get_or-append h (r ∷ []) no_record k old) (f k old)
      go false e =
          let new : k ≡ length h = omega (arith, ltb-false k (length h) e, longer_length) in
          rw (new, get_or-append_seam h r [] no_record) g

-- ---- the operations of a commit that is not refused
module _ (xs : List Item) (i : ℕ) (os : List Op) (z : first_number (map (op_number xs i) os) ≡ 0) where
  pub ops_fit : every (op_fits (length xs)) os ≡ true
  ops_fit =
      every_all (op_fits (length xs)) os no_op
      (λ k h. let o = get_or os k no_op in let s = op_at_lem xs i os z k h in rw (le-leb o.kind 1 s.kind) (lt-ltb o.item (length xs) s.item))

  -- a site that has a copy of an item written is at the end of a line
  pub due_line : (c : ℕ) → due xs os c ≡ true → is_line xs i c ≡ true
  unfolding is_line
  due_line c e =
      let f = some_index (λ (o : Op). writes o && copies xs c o.item) os no_op e in
      let o = get_or os f.0 no_op in
      let s = op_at_lem xs i os z f.0 f.1 in
      let w = and_true (writes o) (copies xs c o.item) f.2 in
      some_at (λ (x : Item). eqb x.primary i && bit x.mask c) xs o.item no_item s.item (rw (s.owned w.0) w.1)

-- as the history keeps them operations fit as before: kinds and items are kept
pub worked_fits : (items : ℕ) (table : List ℤ) (os : List Op) → every (op_fits items) (worked table os).ops ≡ every (op_fits items) os
unfolding worked
worked_fits items table [] = refl
worked_fits items table (o ∷ os) =
    let like = recorded_like table o in
    ap₂ ◌&&◌ (ap₂ (λ (k x : ℕ). leb k 1 && ltb x items) like.0 like.1) (worked_fits items (written table o) os)

-- ---- commit
pub keeps_fitting : (n : Network) (i : ℕ) (os : List Op) → well_shaped n ≡ true → CommitFits n i os → well_shaped (commit_network n i os) ≡ true
unfolding commit_network
keeps_fitting n i os e allowed =
    let s = shape_parts n e in
    let xs = n.items in
    let gets = due xs os in
    let new = committed os (site_at n i) in
    let r = record_of n i os in
    let made = raised_made n s i allowed.there allowed.count_free in
    let fits : RecordShape (place_of xs) (length (set n.sites i new)) (length xs) r
    = record {
      at = omega (arith, allowed.there, length-set n.sites i new);
      made = made;
      fitting = worked_fits (length xs) (site_at n i).table os ∙ ops_fit xs i os allowed.each_op;
    } in
    shape_whole (commit_network n i os)
    (record {
      placed = placed_set n s i new;
      stamps = stamps_set n s i new made;
      records = records_longer n.history r (RecordShape (place_of xs) (length (set n.sites i new)) (length xs)) (records_set n s i new) fits;
      lined = sent_each gets i (commit (length n.history)) n.lines (LineShape xs (longer n.history r)) (λ k h. line_longer n.history r xs k (get_or n.lines k no_line) (s.lined k h)) sites_most
          (λ c' near hit l. sent_shape xs (longer n.history r) i c' near (commit (length n.history)) l (due_line xs i os allowed.each_op c' hit) (message_new n.history r (place_of xs)));
      based = s.based;
    })

pub keeps_commit : (n : Network) (i : ℕ) (os : List Op) → well_shaped n ≡ true → CommitAllowed n i os → well_shaped (commit_network n i os) ≡ true
keeps_commit n i os e allowed = keeps_fitting n i os e (commit_fits n i os allowed)
