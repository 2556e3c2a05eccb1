-- Deliveries to one site: what a site's hearing leaves as it was, and that all that is on the way arrives.
use mathlib.Core.Path.{◌≡◌, refl, sym, ap, subst, ◌∙◌}
use mathlib.Core.Bool.{Bool, true, false, cond, ◌||◌, true≢false, false≢true}
use mathlib.Core.List.{List, [], ◌∷◌}
use mathlib.Core.Logic.{◌⊎◌, inl, inr}
use Prim.Native.Nat.{ℕ, zero, suc, ◌+◌, ◌-◌, ◌≤◌, ◌<◌}
use native.Mathlib.Omega.{arith}
use lib.ListN.{length, get_or, set, replicate, length-set, get_or-eq_default}
use lib.Seq.{get_or-set_same, get_or-set_other}
use lib.Dec.{eqb, ltb}
use borrow.Author.Tests.{eqb-true, eqb-false, ltb-true, ltb-false}
use Rattle.limits.specs.Limits.{sites_most}
use Rattle.lists.specs.Lists.{up_to}
use Rattle.timestamp_order.specs.Timestamp.{own_count}
use Rattle.placement.specs.Placement.{Item, is_line}
use Rattle.placement.specs.Places.{is_placed}
use Rattle.placement.proofs.Places.{numbers_placed}
use Rattle.lines.specs.Lines.{Line, no_line, delivered}
use Rattle.protocol.specs.Network.{Network, site_at, line_at, line_number, well_shaped}
use Rattle.protocol.specs.Steps.{deliver_network}
use Rattle.protocol.specs.Round.{walked, line_calls, deliver_calls}
use Rattle.protocol.specs.Calls.{Call, deliver, AllPass}
use Rattle.protocol.specs.Allowed.{DeliverAllowed}
use Rattle.protocol.proofs.WellShaped.{Shape, shape_parts}
use Rattle.protocol.proofs.Keeps.{keeps_deliver}
use Rattle.protocol.proofs.Places.{line_ends}
use Rattle.protocol.proofs.Allowed.{allowed_deliver}
use Rattle.protocol.proofs.Walks.{deliver_passes, each_accepted, each_kept}

-- ---- what a site's hearing leaves: the other sites and the lines into them, no line longer, and the own count
pub record Hears (j : ℕ) (n m : Network) : Type 0 where
  pub shape : well_shaped m ≡ true
  pub many : length m.sites ≡ length n.sites
  pub items_same : m.items ≡ n.items
  pub history_same : m.history ≡ n.history
  pub lines_many : length m.lines ≡ length n.lines
  pub sites_same : (i : ℕ) → (i ≡ j → ⊥) → site_at m i ≡ site_at n i
  pub lines_same : (p c : ℕ) → c < sites_most → (c ≡ j → ⊥) → line_at m p c ≡ line_at n p c
  pub no_longer : (p : ℕ) → length (line_at m p j).messages ≤ length (line_at n p j).messages
  pub count_same : own_count (site_at m j).stamp ≡ own_count (site_at n j).stamp

pub hears_nothing : (j : ℕ) (n : Network) → well_shaped n ≡ true → Hears j n n
hears_nothing j n w =
    record {
      shape = w;
      many = refl;
      items_same = refl;
      history_same = refl;
      lines_many = refl;
      sites_same = λ i e. refl;
      lines_same = λ p c l e. refl;
      no_longer = λ p. omega arith;
      count_same = refl;
    }

pub hears_more : (j : ℕ) (a b c : Network) → Hears j a b → Hears j b c → Hears j a c
hears_more j a b c f g =
    record {
      shape = g.shape;
      many = g.many ∙ f.many;
      items_same = g.items_same ∙ f.items_same;
      history_same = g.history_same ∙ f.history_same;
      lines_many = g.lines_many ∙ f.lines_many;
      sites_same = λ i e. g.sites_same i e ∙ f.sites_same i e;
      lines_same = λ p d l e. g.lines_same p d l e ∙ f.lines_same p d l e;
      no_longer = λ p. omega (arith, f.no_longer p, g.no_longer p);
      count_same = g.count_same ∙ f.count_same;
    }

-- ---- one line into j replaced
module _ (n : Network) (p j : ℕ) (l : Line) (near : j < sites_most) where
  abbrev ls : List Line
  ls = set n.lines (line_number p j) l

  pub line_other : (q c : ℕ) → c < sites_most → (c ≡ j → ⊥) → get_or ls (line_number q c) no_line ≡ line_at n q c
  line_other q c b e = get_or-set_other n.lines (line_number p j) (line_number q c) l no_line (λ s. e (omega arith))

  pub line_beside : (q : ℕ) → (q ≡ p → ⊥) → get_or ls (line_number q j) no_line ≡ line_at n q j
  line_beside q e = get_or-set_other n.lines (line_number p j) (line_number q j) l no_line (λ s. e (omega arith))

  pub line_here : line_number p j < length n.lines → get_or ls (line_number p j) no_line ≡ l
  line_here there = get_or-set_same n.lines (line_number p j) l no_line there

  -- what holds of every line into j: of that one, and of each beside it
  pub line_each : (holds : ℕ → Line → Type 0) → line_number p j < length n.lines → holds p l → ((q : ℕ) → (q ≡ p → ⊥) → holds q (line_at n q j)) → (q : ℕ) → holds q (get_or ls (line_number q j) no_line)
  line_each holds there f g q = go (eqb q p) refl
    where
      go : (b : Bool) → eqb q p ≡ b → holds q (get_or ls (line_number q j) no_line)
      go true e = subst (λ (i : ℕ). holds i (get_or ls (line_number i j) no_line)) (sym (eqb-true q p e)) (subst (holds p) (sym (line_here there)) f)
      go false e = let other = eqb-false q p e in subst (holds q) (sym (line_beside q other)) (g q other)

-- a line that holds something is one of the lines
held_there : (ls : List Line) (k : ℕ) → 0 < length (get_or ls k no_line).messages → k < length ls
held_there [] k h = absurd (omega arith)
held_there (l ∷ ls) zero h = omega arith
held_there (l ∷ ls) (suc k) h = omega (arith, held_there ls k h)

-- ---- deliveries to j: all messages stay, and on each line no fewer have arrived
pub record Brings (j : ℕ) (n m : Network) : Type 0 where
  pub hears : Hears j n m
  pub site_same : site_at m j ≡ site_at n j
  pub messages_same : (q : ℕ) → (line_at m q j).messages ≡ (line_at n q j).messages
  pub no_fewer : (q : ℕ) → (line_at n q j).arrived ≤ (line_at m q j).arrived

pub brings_nothing : (j : ℕ) (n : Network) → well_shaped n ≡ true → Brings j n n
brings_nothing j n w = record { hears = hears_nothing j n w; site_same = refl; messages_same = λ q. refl; no_fewer = λ q. omega arith }

pub brings_more : (j : ℕ) (a b c : Network) → Brings j a b → Brings j b c → Brings j a c
brings_more j a b c f g =
    record {
      hears = hears_more j a b c f.hears g.hears;
      site_same = g.site_same ∙ f.site_same;
      messages_same = λ q. g.messages_same q ∙ f.messages_same q;
      no_fewer = λ q. omega (arith, f.no_fewer q, g.no_fewer q);
    }

module _ (n : Network) (p j : ℕ) (w : well_shaped n ≡ true) (few : length n.sites ≤ sites_most) (ok : DeliverAllowed n p j) where
  abbrev line : Line
  line = line_at n p j

  there : line_number p j < length n.lines
  there = held_there n.lines (line_number p j) (omega (arith, ok.on_way_lem))

  near : j < sites_most
  near = omega (arith, ok.child)

  pub deliver_brings : Brings j n (deliver_network n p j)
  unfolding deliver_network
  deliver_brings =
      let same : (q : ℕ) → (get_or (set n.lines (line_number p j) (delivered line)) (line_number q j) no_line).messages ≡ (line_at n q j).messages
      = line_each n p j (delivered line) near (λ q l. l.messages ≡ (line_at n q j).messages) there refl (λ q e. refl) in
      record {
        hears = record {
          shape = keeps_deliver n p j w ok;
          many = refl;
          items_same = refl;
          history_same = refl;
          lines_many = length-set n.lines (line_number p j) (delivered line);
          sites_same = λ i e. refl;
          lines_same = line_other n p j (delivered line) near;
          no_longer = λ q. omega (arith, ap length (same q));
          count_same = refl;
        };
        site_same = refl;
        messages_same = same;
        no_fewer = line_each n p j (delivered line) near (λ q l. (line_at n q j).arrived ≤ l.arrived) there (omega arith) (λ q e. omega arith);
      }

  pub deliver_one : (line_at (deliver_network n p j) p j).arrived ≡ line.arrived + 1
  unfolding deliver_network
  deliver_one = ap (λ (l : Line). l.arrived) (line_here n p j (delivered line) near there)

-- of no line more has arrived than it holds
line_held : (n : Network) → Shape n → (k : ℕ) → (get_or n.lines k no_line).arrived ≤ length (get_or n.lines k no_line).messages
line_held n s k = go (ltb k (length n.lines)) refl
  where
    go : (b : Bool) → ltb k (length n.lines) ≡ b → (get_or n.lines k no_line).arrived ≤ length (get_or n.lines k no_line).messages
    go true e = (s.lined k (ltb-true k (length n.lines) e)).held
    go false e =
        let none = get_or-eq_default n.lines no_line {n = k} (ltb-false k (length n.lines) e) in
        omega (arith, ap (λ (l : Line). l.arrived) none)

-- ---- all that is on the way from p to j
module _ (p j : ℕ) where
  -- a number of deliveries that is not above what is on the way
  pub record Delivers (m : ℕ) (n : Network) : Type 0 where
    pub accepted : AllPass n (replicate m (deliver p j))
    pub brings : Brings j n (walked n (replicate m (deliver p j)))
    pub arrived_is : (line_at (walked n (replicate m (deliver p j))) p j).arrived ≡ (line_at n p j).arrived + m

  delivers : (m : ℕ) (n : Network) → well_shaped n ≡ true → length n.sites ≤ sites_most → is_line n.items p j ≡ true → (line_at n p j).arrived + m ≤ length (line_at n p j).messages → Delivers m n
  delivers zero n w few from h = record { accepted = tt; brings = brings_nothing j n w; arrived_is = omega arith }
  delivers (suc m) n w few from h =
      let ends = line_ends (length n.sites) n.items p j (shape_parts n w).placed from in
      let ok : DeliverAllowed n p j = record { parent = ends.0; child = ends.1; line = from; on_way_lem = omega arith } in
      let one = deliver_brings n p j w few ok in
      let next = deliver_network n p j in
      let rest = delivers m next one.hears.shape (omega (arith, one.hears.many, few)) (ap (λ (xs : List Item). is_line xs p j) one.hears.items_same ∙ from)
      (omega (arith, deliver_one n p j w few ok, ap length (one.messages_same p))) in
      record {
        accepted = (deliver_passes n p j (allowed_deliver n p j ok), rest.accepted);
        brings = brings_more j n next _ one rest.brings;
        arrived_is = omega (arith, rest.arrived_is, deliver_one n p j w few ok);
      }

-- on a line into j nothing is on the way
abbrev pub AllArrived : Network → ℕ → ℕ → Type 0
AllArrived n j q = is_line n.items q j ≡ true → length (line_at n q j).messages ≤ (line_at n q j).arrived

module _ (j : ℕ) where
  pub record LineDelivered (n : Network) (p : ℕ) (cs : List Call) : Type 0 where
    pub accepted : AllPass n cs
    pub brings : Brings j n (walked n cs)
    pub arrived : AllArrived (walked n cs) j p

  line_delivered : (n : Network) (p : ℕ) → well_shaped n ≡ true → length n.sites ≤ sites_most → LineDelivered n p (line_calls j n p)
  line_delivered n p w few = go (is_line n.items p j) refl
    where
      l : Line
      l = line_at n p j

      left : ℕ
      left = length l.messages - l.arrived

      go : (b : Bool) → is_line n.items p j ≡ b → LineDelivered n p (cond b (replicate left (deliver p j)) [])
      go false e = record { accepted = tt; brings = brings_nothing j n w; arrived = λ f. absurd (true≢false (sym f ∙ e)) }
      go true e =
          let s = shape_parts n w in
          let ends = line_ends (length n.sites) n.items p j s.placed e in
          let all = delivers p j left n w few e (omega (arith, line_held n s (line_number p j))) in
          record { accepted = all.accepted; brings = all.brings; arrived = λ f. omega (arith, all.arrived_is, ap length (all.brings.messages_same p)) }

  -- all lines into j, one after another: those from the sites still to come, or all arrived
  pub record Delivering (start n : Network) (ps : List ℕ) : Type 0 where
    pub few : length n.sites ≤ sites_most
    pub brings : Brings j start n
    pub arrived : (q : ℕ) → q < sites_most → (is_placed ps q ≡ true) ⊎ AllArrived n j q

  deliver_next : (start n : Network) (p : ℕ) (ps : List ℕ) → Delivering start n (p ∷ ps) → AllPass n (line_calls j n p) × Delivering start (walked n (line_calls j n p)) ps
  deliver_next start n p ps d =
      (one.accepted, record { few = omega (arith, one.brings.hears.many, d.few); brings = brings_more j start n next d.brings one.brings; arrived = λ q l. go q (eqb p q) refl (d.arrived q l) })
    where
      next : Network
      next = walked n (line_calls j n p)

      one : LineDelivered n p (line_calls j n p)
      one = line_delivered n p d.brings.hears.shape d.few

      go : (q : ℕ) (b : Bool) → eqb p q ≡ b → ((b || is_placed ps q) ≡ true) ⊎ AllArrived n j q → (is_placed ps q ≡ true) ⊎ AllArrived next j q
      go q true e h = inr (subst (AllArrived next j) (eqb-true p q e) one.arrived)
      go q false e (inl h) = inl h
      go q false e (inr h) =
          inr (λ f. omega (arith, h (ap (λ (xs : List Item). is_line xs q j) (sym one.brings.hears.items_same) ∙ f), one.brings.no_fewer q, ap length (one.brings.messages_same q)))

  pub record Delivered (n : Network) : Type 0 where
    pub accepted : AllPass n (deliver_calls n j)
    pub brings : Brings j n (walked n (deliver_calls n j))
    pub arrived : (q : ℕ) → q < sites_most → AllArrived (walked n (deliver_calls n j)) j q

  pub all_delivered : (n : Network) → well_shaped n ≡ true → length n.sites ≤ sites_most → Delivered n
  unfolding deliver_calls
  all_delivered n w few =
      let start : Delivering n n (up_to 0 sites_most) = record { few = few; brings = brings_nothing j n w; arrived = λ q l. inl (numbers_placed q 0 sites_most (omega arith) (omega arith)) } in
      let end = each_kept (line_calls j) (Delivering n) (deliver_next n) n (up_to 0 sites_most) start in
      record { accepted = each_accepted (line_calls j) (Delivering n) (deliver_next n) n (up_to 0 sites_most) start; brings = end.brings; arrived = λ q l. go (end.arrived q l) }
    where
      go : {A : Type 0} → (false ≡ true) ⊎ A → A
      go (inl e) = absurd (false≢true e)
      go (inr a) = a
