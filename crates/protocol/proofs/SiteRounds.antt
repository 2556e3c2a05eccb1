-- The sites of a round in their order: each hears and sends, and the epoch goes down the order.
use mathlib.Core.Path.{◌≡◌, refl, sym, ap, subst, ◌∙◌}
use mathlib.Core.Bool.{Bool, true, false, ◌||◌, or-true, true≢false}
use mathlib.Core.List.{List, [], ◌∷◌, ◌++◌}
use mathlib.Core.Logic.{◌⊎◌, inl}
use Prim.Native.Nat.{ℕ, ◌+◌, ◌-◌, ◌≤◌, ◌<◌}
use native.Mathlib.Omega.{arith}
use lib.ListN.{length, get_or}
use lib.Dec.{eqb, leb}
use borrow.Author.Tests.{eqb-true, eqb-false, eq-eqb, ne_eqb}
use Rattle.limits.specs.Limits.{sites_most, held_most}
use Rattle.lists.proofs.Numbers.{or_false}
use Rattle.timestamp_order.specs.Timestamp.{Stamp, own_count, greatest}
use Rattle.placement.specs.Placement.{Item, is_line, has_parents}
use Rattle.placement.specs.Places.{is_placed}
use Rattle.placement.proofs.Places.{Steps, next_parts, parent_placed}
use Rattle.site.specs.Site.{Site, dummied}
use Rattle.lines.specs.Lines.{Line}
use Rattle.messages.specs.Messages.{Message, commit, dummy as dummyMessage}
use Rattle.records.specs.Records.{Record}
use Rattle.protocol.specs.Network.{lines_most, Network, site_at, line_at, line_number, message_stamp, well_shaped}
use Rattle.protocol.specs.Steps.{dummy_network, schedule_number}
use Rattle.protocol.specs.Waiting.{into}
use Rattle.protocol.specs.Round.{walked, deliver_calls, schedule_all, site_calls}
use Rattle.protocol.specs.Calls.{Call, dummy, epoch, AllPass}
use Rattle.protocol.proofs.Allowed.{schedule_allowed, allowed_dummy}
use Rattle.protocol.proofs.Places.{line_ends}
use Rattle.protocol.proofs.WellShaped.{shape_parts}
use Rattle.protocol.proofs.Added.{added_size, added_new}
use Rattle.protocol.proofs.Keeps.{keeps_dummy}
use Rattle.protocol.proofs.Walks.{walked_more, accepted_more, dummy_passes}
use Rattle.protocol.proofs.Hearing.{Hears, hears_more, Delivered, all_delivered}
use Rattle.protocol.proofs.Scheduling.{all_scheduled, refused_none, EndsIn, Ready, reaches_epoch}
use Rattle.protocol.proofs.Sending.{Fresh, hears_fresh, dummy_many, dummy_items, dummy_history, dummy_lines, dummy_other, dummy_here, new_epoch, dummy_from, dummy_sent, fresh_allowed}

-- ---- one site's calls
-- the network before its dummy
abbrev heard_by : Network → ℕ → Network
heard_by n j = let m = walked n (deliver_calls n j) in walked m (schedule_all m j)

record SiteHears (n : Network) (j : ℕ) : Type 0 where
  accepted : AllPass n (site_calls n j)
  hears : Hears j n (heard_by n j)
  leaves : walked n (site_calls n j) ≡ dummy_network (heard_by n j) j

site_hears : (n : Network) (j : ℕ) → well_shaped n ≡ true → length n.sites ≤ sites_most → j < length n.sites → Fresh n j → SiteHears n j
unfolding site_calls
site_hears n j w few there fresh =
    let d = all_delivered j n w few in
    let delivers = deliver_calls n j in
    let m = walked n delivers in
    let first = d.brings.hears in
    let schedules = schedule_all m j in
    let s = all_scheduled j (length (into m j)) m first.shape (omega (arith, first.many, few)) in
    let both = hears_more j n m (walked m schedules) first s.hears in
    let last = fresh_allowed (heard_by n j) j (omega (arith, both.many, there)) (hears_fresh j n (heard_by n j) both j fresh) in
    record {
      accepted =
          accepted_more n delivers (schedules ++ (dummy j ∷ [])) d.accepted
          (accepted_more m schedules (dummy j ∷ []) s.accepted (dummy_passes (heard_by n j) j (allowed_dummy (heard_by n j) j last), tt));
      hears = both;
      leaves = walked_more n delivers (schedules ++ (dummy j ∷ [])) ∙ walked_more m schedules (dummy j ∷ []);
    }

-- ---- the sites in their order
-- those to come are not among those placed
steps_apart : (k : ℕ) (line : ℕ → ℕ → Bool) (placed cs : List ℕ) → Steps k line placed cs → (i : ℕ) → is_placed placed i ≡ true → is_placed cs i ≡ false
steps_apart k line placed [] s i e = refl
steps_apart k line placed (d ∷ ds) s i e =
    let out = (next_parts k line placed d s.1).0 in
    rw (ne_eqb d i (λ same. true≢false (sym e ∙ ap (is_placed placed) (sym same) ∙ out))) (steps_apart k line (d ∷ placed) ds s.3 i (ap (λ (b : Bool). eqb d i || b) e ∙ or-true (eqb d i)))

-- those placed have sent, and those to come can
pub record Going (n : Network) (js : List ℕ) : Type 0 where
  pub shape : well_shaped n ≡ true
  pub few : length n.sites ≤ sites_most
  pub placed : List ℕ
  pub steps : Steps (length n.sites) (is_line n.items) placed js
  pub fresh : (i : ℕ) → is_placed js i ≡ true → Fresh n i

module _ (n : Network) (j : ℕ) (js : List ℕ) (g : Going n (j ∷ js)) where
  going_there : j < length n.sites
  going_there = g.steps.0

  going_fresh : Fresh n j
  going_fresh = g.fresh j (ap (λ (b : Bool). b || is_placed js j) (eq-eqb j j refl))

  going_hears : SiteHears n j
  going_hears = site_hears n j g.shape g.few going_there going_fresh

  abbrev heard : Network
  heard = heard_by n j

  abbrev sent : Network
  sent = dummy_network heard j

  abbrev hears : Hears j n heard
  hears = going_hears.hears

  heard_there : j < length heard.sites
  heard_there = omega (arith, hears.many, going_there)

  heard_fresh : Fresh heard j
  heard_fresh = hears_fresh j n heard hears j going_fresh

  sent_many : length sent.sites ≡ length n.sites
  sent_many = dummy_many heard j ∙ hears.many

  sent_items : sent.items ≡ n.items
  sent_items = dummy_items heard j ∙ hears.items_same

  sent_site : (i : ℕ) → (i ≡ j → ⊥) → site_at sent i ≡ site_at n i
  sent_site i e = dummy_other heard j i e ∙ hears.sites_same i e

  dummied_here : site_at sent j ≡ dummied (site_at heard j)
  dummied_here = dummy_here heard j heard_there

  dummied_epoch : (dummied (site_at heard j)).stamp.epoch ≡ (site_at heard j).stamp.epoch
  dummied_epoch = new_epoch heard j

  sent_history : sent.history ≡ n.history
  sent_history = dummy_history heard j ∙ hears.history_same

  sent_lines : length sent.lines ≡ length n.lines
  sent_lines = dummy_lines heard j ∙ hears.lines_many

  -- a line from another site to a third is as it was
  sent_line : (p c : ℕ) → c < sites_most → (p ≡ j → ⊥) → (c ≡ j → ⊥) → line_at sent p c ≡ line_at n p c
  sent_line p c l other third = dummy_from heard j p c l other ∙ hears.lines_same p c l third

  -- to a child of its own one has the dummy behind it
  sent_dummy : (c : ℕ) → c < sites_most → is_line n.items j c ≡ true → line_number j c < length n.lines
      → (line_at sent j c).messages ≡ (line_at heard j c).messages ++ (dummyMessage (dummied (site_at heard j)).stamp ∷ [])
  sent_dummy c l t b =
      dummy_sent heard j c l (ap (λ (xs : List Item). is_line xs j c) hears.items_same ∙ t) (omega (arith, b, hears.lines_many))

  -- a site to come is another
  to_come : (i : ℕ) → is_placed js i ≡ true → i ≡ j → ⊥
  to_come i e same =
      let out = steps_apart (length n.sites) (is_line n.items) (j ∷ g.placed) js g.steps.3 j (ap (λ (b : Bool). b || is_placed g.placed j) (eq-eqb j j refl)) in
      true≢false (sym e ∙ ap (is_placed js) same ∙ out)

  still_fresh : (i : ℕ) → is_placed js i ≡ true → Fresh sent i
  still_fresh i e =
      let other = to_come i e in
      let f = hears_fresh j n heard hears i (g.fresh i (ap (λ (b : Bool). eqb j i || b) e ∙ or-true (eqb j i))) in
      record {
        room = λ c l. subst (λ (x : Line). length x.messages < held_most) (sym (dummy_from heard j i c l other)) (f.room c l);
        count = ap (λ (s : Site). leb greatest (own_count s.stamp)) (dummy_other heard j i other) ∙ f.count;
      }

  going_sent : Going sent js
  going_sent =
      record {
        shape = keeps_dummy heard j hears.shape (fresh_allowed heard j heard_there heard_fresh);
        few = omega (arith, sent_many, g.few);
        placed = j ∷ g.placed;
        steps = subst (λ (k : ℕ). Steps k (is_line sent.items) (j ∷ g.placed) js) (sym sent_many) (subst (λ (xs : List Item). Steps (length n.sites) (is_line xs) (j ∷ g.placed) js) (sym sent_items) g.steps.3);
        fresh = still_fresh;
      }

  pub going_on : AllPass n (site_calls n j) × Going (walked n (site_calls n j)) js
  going_on = (going_hears.accepted, subst (λ (m : Network). Going m js) (sym going_hears.leaves) going_sent)

-- ---- the epoch goes down the order
-- a line that ends in a dummy of that epoch or a later one
ends_added : (e : ℕ) (h : List Record) (ms : List Message) (t : Stamp) → e ≤ t.epoch → EndsIn e h (ms ++ (dummyMessage t ∷ []))
ends_added e h ms t late =
    let last = dummyMessage t in
    let size = added_size ms last (commit 0) in
    let at : length ms ≡ length (ms ++ (last ∷ [])) - 1 = omega arith in
    (omega (arith, size), subst (λ (m : Message). e ≤ (message_stamp h m).epoch) (sym (added_new ms last (commit 0)) ∙ ap (λ (i : ℕ). get_or (ms ++ (last ∷ [])) i (commit 0)) at) late)

module _ (e : ℕ) where
  -- those placed are in that epoch or a later one, and so are those without parents; a line from one placed to one to come ends in it
  pub record Reaching (n : Network) (js : List ℕ) : Type 0 where
    pub going : Going n js
    pub lines : length n.lines ≡ lines_most
    pub late : (i : ℕ) → is_placed going.placed i ≡ true → e ≤ (site_at n i).stamp.epoch
    pub sources : (i : ℕ) → i < length n.sites → has_parents n.items i ≡ false → e ≤ (site_at n i).stamp.epoch
    pub covers : (i : ℕ) → i < length n.sites → (is_placed going.placed i ≡ true) ⊎ (is_placed js i ≡ true)
    pub ends : (p c : ℕ) → is_placed going.placed p ≡ true → is_placed going.placed c ≡ false → is_line n.items p c ≡ true → EndsIn e n.history (line_at n p c).messages

  module _ (n : Network) (j : ℕ) (js : List ℕ) (r : Reaching n (j ∷ js)) where
    abbrev g : Going n (j ∷ js)
    g = r.going

    -- all lines into j delivered
    abbrev brought : Network
    brought = walked n (deliver_calls n j)

    brings : Delivered j n
    brings = all_delivered j n g.shape g.few

    abbrev same : Hears j n brought
    same = brings.brings.hears

    -- each parent is placed, and its line ends in the epoch
    line_back : (q : ℕ) → is_line brought.items q j ≡ true → is_line n.items q j ≡ true
    line_back q f = ap (λ (xs : List Item). is_line xs q j) (sym same.items_same) ∙ f

    ready : Ready e brought j
    ready =
        record {
          ends = λ q f.
              let line = line_back q f in
              let from = (line_ends (length n.sites) n.items q j (shape_parts n g.shape).placed line).0 in
              let next = next_parts (length n.sites) (is_line n.items) g.placed j g.steps.1 in
              let before = parent_placed (length n.sites) (is_line n.items) q j from line g.placed next.1 in
              subst (λ (h : List Record). EndsIn e h (line_at brought q j).messages) (sym same.history_same)
              (subst (EndsIn e n.history) (sym (brings.brings.messages_same q)) (r.ends q j before next.0 line));
          arrived = λ q f.
              let from = (line_ends (length n.sites) n.items q j (shape_parts n g.shape).placed (line_back q f)).0 in
              brings.arrived q (omega (arith, from, g.few)) f;
        }

    heard_late : e ≤ (site_at (heard_by n j) j).stamp.epoch
    heard_late = go (has_parents n.items j) refl
      where
        go : (b : Bool) → has_parents n.items j ≡ b → e ≤ (site_at (heard_by n j) j).stamp.epoch
        go true f =
            reaches_epoch e (length (into brought j)) brought j same.shape (omega (arith, same.many, g.few)) (omega (arith, same.many, going_there n j js g))
            (ap (λ (xs : List Item). has_parents xs j) same.items_same ∙ f) ready (omega arith)
        go false f =
            let refused : schedule_number brought j ≡ 0 → ⊥ = λ z. true≢false (sym (schedule_allowed brought j z).parents ∙ ap (λ (xs : List Item). has_parents xs j) same.items_same ∙ f) in
            subst (λ (cs : List Call). e ≤ (site_at (walked brought cs) j).stamp.epoch) (sym (refused_none brought j refused (length (into brought j))))
            (subst (λ (s : Site). e ≤ s.stamp.epoch) (sym brings.brings.site_same) (r.sources j (going_there n j js g) f))

    -- so is its dummy
    sender_late : e ≤ (dummied (site_at (heard_by n j) j)).stamp.epoch
    sender_late = omega (arith, heard_late, dummied_epoch n j js g)

    sent_late : (i : ℕ) → ((i ≡ j → ⊥) → e ≤ (site_at n i).stamp.epoch) → e ≤ (site_at (sent n j js g) i).stamp.epoch
    sent_late i else = go (eqb i j) refl
      where
        go : (b : Bool) → eqb i j ≡ b → e ≤ (site_at (sent n j js g) i).stamp.epoch
        go true f = subst (λ (k : ℕ). e ≤ (site_at (sent n j js g) k).stamp.epoch) (sym (eqb-true i j f)) (subst (λ (s : Site). e ≤ s.stamp.epoch) (sym (dummied_here n j js g)) sender_late)
        go false f = let other = eqb-false i j f in subst (λ (s : Site). e ≤ s.stamp.epoch) (sym (sent_site n j js g i other)) (else other)

    ends_sent : (p c : ℕ) → is_placed (j ∷ g.placed) p ≡ true → is_placed (j ∷ g.placed) c ≡ false → is_line (sent n j js g).items p c ≡ true → EndsIn e (sent n j js g).history (line_at (sent n j js g) p c).messages
    ends_sent p c f out t = subst (λ (h : List Record). EndsIn e h (line_at (sent n j js g) p c).messages) (sym (sent_history n j js g)) (go (eqb j p) refl f)
      where
        line : is_line n.items p c ≡ true
        line = ap (λ (xs : List Item). is_line xs p c) (sym (sent_items n j js g)) ∙ t

        far : (p < length n.sites) × (c < length n.sites)
        far = line_ends (length n.sites) n.items p c (shape_parts n g.shape).placed line

        near : c < sites_most
        near = omega (arith, far.1, g.few)

        parts : (eqb j c ≡ false) × (is_placed g.placed c ≡ false)
        parts = or_false (eqb j c) (is_placed g.placed c) out

        go : (b : Bool) → eqb j p ≡ b → (b || is_placed g.placed p) ≡ true → EndsIn e n.history (line_at (sent n j js g) p c).messages
        go true h k =
            let own : j ≡ p = eqb-true j p h in
            let there : line_number j c < length n.lines = omega (arith, r.lines, going_there n j js g, g.few, near) in
            subst (λ (q : ℕ). EndsIn e n.history (line_at (sent n j js g) q c).messages) own
            (subst (EndsIn e n.history) (sym (sent_dummy n j js g c near (ap (λ (q : ℕ). is_line n.items q c) own ∙ line) there)) (ends_added e n.history (line_at (heard_by n j) j c).messages (dummied (site_at (heard_by n j) j)).stamp sender_late))
        go false h k =
            subst (λ (x : Line). EndsIn e n.history x.messages) (sym (sent_line n j js g p c near (λ same. eqb-false j p h (sym same)) (λ same. eqb-false j c parts.0 (sym same))))
            (r.ends p c k parts.1 line)

    reaching_sent : Reaching (sent n j js g) js
    unfolding going_sent
    reaching_sent =
        record {
          going = going_sent n j js g;
          lines = sent_lines n j js g ∙ r.lines;
          late = λ i f. sent_late i (λ other. r.late i (ap (λ (b : Bool). b || is_placed g.placed i) (sym (ne_eqb j i (λ same. other (sym same)))) ∙ f));
          sources = λ i l f. sent_late i (λ other. r.sources i (omega (arith, l, sent_many n j js g)) (ap (λ (xs : List Item). has_parents xs i) (sym (sent_items n j js g)) ∙ f));
          covers = λ i l. turned i (eqb j i) (r.covers i (omega (arith, l, sent_many n j js g)));
          ends = ends_sent;
        }
      where
        -- the one that was to come first is placed now
        turned : (i : ℕ) (b : Bool) → (is_placed g.placed i ≡ true) ⊎ ((b || is_placed js i) ≡ true) → ((b || is_placed g.placed i) ≡ true) ⊎ (is_placed js i ≡ true)
        turned i true h = inl refl
        turned i false h = h

    pub reaching_on : AllPass n (site_calls n j) × Reaching (walked n (site_calls n j)) js
    reaching_on = ((going_hears n j js g).accepted, subst (λ (m : Network). Reaching m js) (sym (going_hears n j js g).leaves) reaching_sent)
