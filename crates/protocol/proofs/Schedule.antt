-- Schedule keeps the invariant.
use mathlib.Core.Path.{◌≡◌, refl, ap, ap₂, sym, subst, ◌∙◌}
use mathlib.Core.Bool.{Bool, true, false, cond, ◌&&◌, ◌||◌, true≢false}
use mathlib.Core.List.{List, [], ◌∷◌}
use mathlib.Core.Logic.{◌⊎◌, inl, inr}
use Prim.Native.Nat.{ℕ, zero, suc, ◌<◌, ◌≤◌}
use native.Mathlib.Omega.{arith}
use lib.IntN.{ℤ, pos}
use lib.ListN.{length, get_or, set, drop, length-set, length-drop}
use lib.Seq.{get_or-set_same, get_or-set_other}
use lib.Dec.{eqb, ltb, leb}
use borrow.Author.Tests.{eqb-true, eqb-false, lt-leb, ltb-true}
use Rattle.lists.proofs.Every.{and_true}
use Rattle.timestamp_order.specs.Timestamp.{Stamp, appended, own_count}
use Rattle.timestamp_order.specs.Order.{not_later}
use Rattle.timestamp_order.specs.Made.{made_by}
use Rattle.timestamp_order.proofs.Made.{without}
use Rattle.timestamp_order.proofs.OrderLaws.{append_later}
use Rattle.site_operations.specs.Operations.{Op, writes, writes_item, touches}
use Rattle.site.specs.Site.{Site, received}
use Rattle.placement.specs.Placement.{Item, copies, is_line}
use Rattle.limits.specs.Limits.{sites_most}
use Rattle.lines.specs.Lines.{Line, no_line, taken}
use Rattle.messages.specs.Messages.{Message, commit, dummy}
use Rattle.records.specs.Records.{Record}
use Rattle.protocol.specs.Network.{Network, no_site, site_at, line_at, line_number, message_stamp, message_fits, well_shaped, nth_record}
use Rattle.protocol.specs.Steps.{due, head, head_stamp, head_earlier, earlier_of, earliest, chosen, writes_for, schedule_number, schedule_network}
use Rattle.lists.specs.Lists.{keep}
use Rattle.protocol.proofs.Chosen.{earliest_site, chosen_line, chosen_rises, head_made, parent_held, received_stamp, received_made, keeps_schedule}
use Rattle.protocol.specs.Agreement.{holds}
use Rattle.site_operations.proofs.Works.{wrote, worked_length, get_d_worked}
use Rattle.protocol.proofs.Values.{last_value, agree, joined_commit}
use Rattle.protocol.proofs.Times.{without_appended}
use Rattle.protocol.proofs.Places.{place_at, order_at, Before, UpTo, times_at}
use Rattle.protocol.proofs.Invariant.{stamp_at, heard_at, table_at, messages_at, message_at, sent_at, Named, Invariant, one_owner, touch_owns, touch_due, due_child, shaped, line_sites, line_number_lem, stamp_made, record_site, record_below, sent_made, sent_later, message_fits_lem, reaches}
use Rattle.protocol.proofs.Calm.{changed, Grown, EachSent, RisesSent}
use Rattle.protocol.proofs.Quiet.{moved, moved_many, moved_here, moved_sizes, moved_grown}

-- ---- of the parents' oldest messages none is earlier than the chosen one
module _ (n : Network) (j : ℕ) where
  open times_at n use {upto_self, upto_before, before_upto, test_before, test_upto}

  abbrev Least : ℕ → ℕ → Type 0
  Least best q = UpTo n (head_stamp n best j) (head_stamp n q j)

  least_step : (p best q : ℕ) (a b : Bool) → head_earlier n j p best ≡ b → (s : Bool) → eqb q p ≡ s → (eqb q p ≡ false → (a ≡ false) × Least best q) → Least (cond (a || b) p best) q
  least_step p best q true b e true s old = subst (Least p) (sym (eqb-true q p s)) (upto_self (head_stamp n p j))
  least_step p best q false true e true s old = subst (Least p) (sym (eqb-true q p s)) (upto_self (head_stamp n p j))
  least_step p best q false false e true s old = subst (Least best) (sym (eqb-true q p s)) (test_upto (head_stamp n p j) (head_stamp n best j) e)
  least_step p best q true b e false s old = absurd (true≢false (old s).0)
  least_step p best q false true e false s old =
      upto_before (head_stamp n p j) (head_stamp n q j) (before_upto (head_stamp n p j) (head_stamp n best j) (head_stamp n q j) (test_before (head_stamp n p j) (head_stamp n best j) e) (old s).1)
  least_step p best q false false e false s old = (old s).1

  earliest_least : (k q : ℕ) → q < k → k ≤ sites_most → is_line n.items q j ≡ true → Least (earliest n j k) q
  unfolding earliest
  earliest_least zero q l few e = absurd (omega arith)
  earliest_least (suc p) q l few e = go (is_line n.items p j) refl (earliest n j p) (earliest_least p q) (earliest_site n j p q)
    where
      lower : eqb q p ≡ false → q < p
      lower f = let other = eqb-false q p f in omega arith

      go : (b : Bool) → is_line n.items p j ≡ b → (best : ℕ) → (q < p → p ≤ sites_most → is_line n.items q j ≡ true → Least best q) → (q < p → p ≤ sites_most → is_line n.items q j ≡ true → best < sites_most)
          → Least (cond b (earlier_of n j p best) best) q
      go true f best rest site =
          least_step p best q (leb sites_most best) (head_earlier n j p best) refl (eqb q p) refl
          (λ s. (lt-leb sites_most best (site (lower s) (omega arith) e), rest (lower s) (omega arith) e))
      go false f best rest site =
          let other : q ≡ p → ⊥ = λ s. true≢false (sym e ∙ ap (λ (i : ℕ). is_line n.items i j) s ∙ f) in
          rest (omega arith) (omega arith) e

-- ---- the writes that a copy takes of operations: all that write an item copied there
module _ (xs : List Item) (j x : ℕ) where
  abbrev taking : Op → Bool
  taking o = writes o && copies xs j o.item

  pub wrote_taken : (v : ℤ) (os : List Op) → (touches x os ≡ true → copies xs j x ≡ true) → wrote x v (keep taking os) ≡ wrote x v os
  wrote_taken v [] f = refl
  wrote_taken v (o ∷ os) f = go (taking o) refl ∙ wrote_taken (cond (writes_item x o) o.value v) os (λ t. f (rest (writes_item x o) t))
    where
      rest : (b : Bool) → touches x os ≡ true → (b || touches x os) ≡ true
      rest true t = refl
      rest false t = t

      dropped : (b : Bool) → writes_item x o ≡ b → taking o ≡ false → wrote x v (keep taking os) ≡ wrote x (cond b o.value v) (keep taking os)
      dropped false w e = refl
      dropped true w e =
          let both = and_true (writes o) (eqb o.item x) w in
          let here : copies xs j o.item ≡ true = ap (copies xs j) (eqb-true o.item x both.1) ∙ f (ap (λ (b : Bool). b || touches x os) w) in
          absurd (true≢false (sym (ap₂ ◌&&◌ both.0 here) ∙ e))

      go : (b : Bool) → taking o ≡ b → wrote x v (cond b (o ∷ keep taking os) (keep taking os)) ≡ wrote x (cond (writes_item x o) o.value v) (keep taking os)
      go true e = refl
      go false e = dropped (writes_item x o) refl e

-- ---- the messages after the first
pub get_d_rest : (ms : List Message) (a : ℕ) → get_or (drop 1 ms) a (commit 0) ≡ get_or ms (suc a) (commit 0)
get_d_rest [] a = refl
get_d_rest (m ∷ ms) a = refl

-- ---- messages told apart
abbrev is_commit : Message → Bool
is_commit (commit k) = true
is_commit (dummy t) = false

abbrev name_of : Message → ℕ
name_of (commit k) = k
name_of (dummy t) = 0

-- ---- a schedule that nothing refuses
module _ (n : Network) (inv : Invariant n) (j : ℕ) (z : schedule_number n j ≡ 0) where
  open times_at n use {upto_before, upto_trans, before_trans, upto_then, upto_other, never_before, later_fails, fails_later, made_apart, cut_upto, cut_before}

  abbrev p : ℕ
  p = chosen n j

  -- the message, and its timestamp
  abbrev m : Message
  m = head n p j

  abbrev y : Stamp
  y = head_stamp n p j

  abbrev new : Site
  new = received (writes_for n j m) y (site_at n j)

  abbrev ls : List Line
  ls = set n.lines (line_number p j) (taken (line_at n p j))

  abbrev next : Network
  next = changed n (moved n inv j new) ls n.history

  line : is_line n.items p j ≡ true
  line = chosen_line n j inv.sizes.sites (shaped n inv) z

  site : j < length n.sites
  site = (line_sites n inv p j line).1

  rises : place_at n p < place_at n j
  rises = chosen_rises n j inv.sizes.sites (shaped n inv) z

  first : (q : ℕ) → is_line n.items q j ≡ true → 0 < length (messages_at n q j)
  first = parent_held n j inv.sizes.sites (shaped n inv) z

  -- ---- the site's new timestamp
  y_made : made_by (place_at n) p y ≡ true
  y_made = head_made n j inv.sizes.sites (shaped n inv) z

  stamp_is : new.stamp ≡ appended y j (own_count (stamp_at n j))
  stamp_is = received_stamp n j inv.sizes.sites (shaped n inv) z

  stamp_new : made_by (place_at n) j new.stamp ≡ true
  stamp_new = received_made n j inv.sizes.sites (shaped n inv) z

  hears : without new.stamp ≡ y
  hears = ap without stamp_is ∙ without_appended y j (own_count (stamp_at n j))

  fresh : Before n (heard_at n j) y
  fresh = inv.ahead p j line 0 (first p line)

  site_before : Before n (stamp_at n j) y
  site_before = sent_later n inv p j line 0 (first p line)

  y_before : Before n y new.stamp
  y_before = subst (Before n y) (sym stamp_is) (append_later (place_at n) y j (own_count (stamp_at n j)))

  pub schedule_grown : Grown n (moved n inv j new)
  schedule_grown = moved_grown n inv j new (upto_before (stamp_at n j) new.stamp (before_trans (stamp_at n j) y new.stamp site_before y_before))

  grows : (i : ℕ) → i < length n.sites → UpTo n (stamp_at n i) (stamp_at next i)
  grows = schedule_grown.grows

  -- ---- the sites
  here : site_at next j ≡ new
  here = moved_here n inv j new site

  there : (c : ℕ) → (c ≡ j → ⊥) → site_at next c ≡ site_at n c
  there c e = get_or-set_other n.sites j c new no_site e

  at_site : (holds : ℕ → Type 0) → holds j → ((c : ℕ) → (c ≡ j → ⊥) → holds c) → (c : ℕ) → holds c
  at_site holds f g c = go (eqb c j) refl
    where
      go : (b : Bool) → eqb c j ≡ b → holds c
      go true e = subst holds (sym (eqb-true c j e)) f
      go false e = g c (eqb-false c j e)

  heard_here : heard_at next j ≡ y
  heard_here = ap (λ (s : Site). without s.stamp) here ∙ hears

  heard_there : (c : ℕ) → (c ≡ j → ⊥) → heard_at next c ≡ heard_at n c
  heard_there c e = ap (λ (s : Site). without s.stamp) (there c e)

  -- ---- the lines
  abbrev messages_of : List Line → ℕ → List Message
  messages_of all k = (get_or all k no_line).messages

  took_here : messages_of ls (line_number p j) ≡ drop 1 (messages_of n.lines (line_number p j))
  took_here = ap (λ (l : Line). l.messages) (get_or-set_same n.lines (line_number p j) (taken (line_at n p j)) no_line (line_number_lem n inv p j line))

  took_other : (k : ℕ) → (k ≡ line_number p j → ⊥) → messages_of ls k ≡ messages_of n.lines k
  took_other k e = ap (λ (l : Line). l.messages) (get_or-set_other n.lines (line_number p j) k (taken (line_at n p j)) no_line e)

  at_line : (holds : ℕ → Type 0) → holds (line_number p j) → ((k : ℕ) → (k ≡ line_number p j → ⊥) → holds k) → (k : ℕ) → holds k
  at_line holds f g k = go (eqb k (line_number p j)) refl
    where
      go : (b : Bool) → eqb k (line_number p j) ≡ b → holds k
      go true e = subst holds (sym (eqb-true k (line_number p j) e)) f
      go false e = g k (eqb-false k (line_number p j) e)

  -- what holds of a line's messages holds of those left
  each_left : (passes : Stamp → Type 0) (k : ℕ) → EachSent n.history (messages_of n.lines k) passes → EachSent n.history (messages_of ls k) passes
  each_left passes = at_line (λ k. EachSent n.history (messages_of n.lines k) passes → EachSent n.history (messages_of ls k) passes)
      (λ f. subst (λ (l : List Message). EachSent n.history l passes) (sym took_here) (λ a b. subst (λ (x : Message). passes (message_stamp n.history x)) (sym (get_d_rest ms a)) (f (suc a) (omega (arith, length-drop 1 ms)))))
      (λ k e f. subst (λ (l : List Message). EachSent n.history l passes) (sym (took_other k e)) f)
    where
      ms : List Message
      ms = messages_at n p j

  rises_left : (k : ℕ) → RisesSent (place_at n) n.history (messages_of n.lines k) → RisesSent (place_at n) n.history (messages_of ls k)
  rises_left = at_line (λ k. RisesSent (place_at n) n.history (messages_of n.lines k) → RisesSent (place_at n) n.history (messages_of ls k))
      (λ f. subst (RisesSent (place_at n) n.history) (sym took_here)
      (λ a b l e. subst (λ (x : Message). Before n (message_stamp n.history x) (message_stamp n.history (get_or (drop 1 ms) b (commit 0)))) (sym (get_d_rest ms a))
      (subst (λ (x : Message). Before n (sent_at n p j (suc a)) (message_stamp n.history x)) (sym (get_d_rest ms b)) (f (suc a) (suc b) (omega arith) (omega (arith, length-drop 1 ms))))))
      (λ k e f. subst (RisesSent (place_at n) n.history) (sym (took_other k e)) f)
    where
      ms : List Message
      ms = messages_at n p j

  -- ---- no message into j is before the one taken
  module _ (q : ℕ) (from : is_line n.items q j ≡ true) where
    least : UpTo n y (sent_at n q j 0)
    least = earliest_least n j sites_most q (omega (arith, (line_sites n inv q j from).0, inv.sizes.sites)) (omega arith) from

    reached : (a : ℕ) → a < length (messages_at n q j) → UpTo n y (sent_at n q j a)
    reached zero l = least
    reached (suc a) l = upto_trans y (sent_at n q j 0) (sent_at n q j (suc a)) least (upto_before (sent_at n q j 0) (sent_at n q j (suc a)) (inv.queue q j from 0 (suc a) (omega arith) l))

    -- and of another parent none is equal
    other_later : (q ≡ p → ⊥) → (a : ℕ) → a < length (messages_at n q j) → Before n y (sent_at n q j a)
    other_later e a l = upto_other y (sent_at n q j a) (reached a l) (made_apart p q y (sent_at n q j a) y_made (sent_made n inv q j from a l) (λ f. e (sym f)))

  -- of its own line all but itself are later
  rest_later : (a : ℕ) → suc a < length (messages_at n p j) → Before n y (sent_at n p j (suc a))
  rest_later a l = inv.queue p j line 0 (suc a) (omega arith) l

  left_later : (q : ℕ) → is_line n.items q j ≡ true → EachSent n.history (messages_at next q j) (Before n y)
  left_later q from = go (eqb q p) refl
    where
      ms : List Message
      ms = messages_at n p j

      go : (b : Bool) → eqb q p ≡ b → EachSent n.history (messages_at next q j) (Before n y)
      go true e =
          subst (λ (i : ℕ). EachSent n.history (messages_at next i j) (Before n y)) (sym (eqb-true q p e))
          (subst (λ (l : List Message). EachSent n.history l (Before n y)) (sym took_here)
          (λ a l. subst (λ (x : Message). Before n y (message_stamp n.history x)) (sym (get_d_rest ms a)) (rest_later a (omega (arith, length-drop 1 ms)))))
      go false e =
          let other = eqb-false q p e in
          subst (λ (l : List Message). EachSent n.history l (Before n y)) (sym (took_other (line_number q j) (λ f. other (omega (arith, site, inv.sizes.sites))))) (other_later q from other)

  -- ---- the parts about lines
  next_ahead : (q c : ℕ) → is_line n.items q c ≡ true → EachSent n.history (messages_at next q c) (Before n (heard_at next c))
  next_ahead q = at_site (λ c. is_line n.items q c ≡ true → EachSent n.history (messages_at next q c) (Before n (heard_at next c)))
      (λ from. subst (λ (t : Stamp). EachSent n.history (messages_at next q j) (Before n t)) (sym heard_here) (left_later q from))
      (λ c e from. subst (λ (t : Stamp). EachSent n.history (messages_at next q c) (Before n t)) (sym (heard_there c e)) (each_left (Before n (heard_at n c)) (line_number q c) (inv.ahead q c from)))

  parent_grows : (q c : ℕ) → is_line n.items q c ≡ true → UpTo n (stamp_at n q) (stamp_at next q)
  parent_grows q c from = grows q (line_sites n inv q c from).0

  next_behind : (q c : ℕ) → is_line n.items q c ≡ true → EachSent n.history (messages_at next q c) (λ s. UpTo n s (stamp_at next q))
  next_behind q c from =
      each_left (λ s. UpTo n s (stamp_at next q)) (line_number q c) (λ a l. upto_trans (sent_at n q c a) (stamp_at n q) (stamp_at next q) (inv.behind q c from a l) (parent_grows q c from))

  next_heard : (q c : ℕ) → is_line n.items q c ≡ true → UpTo n (heard_at next c) (stamp_at next q)
  next_heard q = at_site (λ c. is_line n.items q c ≡ true → UpTo n (heard_at next c) (stamp_at next q))
      (λ from. subst (λ (t : Stamp). UpTo n t (stamp_at next q)) (sym heard_here)
      (upto_trans y (sent_at n q j 0) (stamp_at next q) (least q from) (upto_trans (sent_at n q j 0) (stamp_at n q) (stamp_at next q) (inv.behind q j from 0 (first q from)) (parent_grows q j from))))
      (λ c e from. subst (λ (t : Stamp). UpTo n t (stamp_at next q)) (sym (heard_there c e)) (upto_trans (heard_at n c) (stamp_at n q) (stamp_at next q) (inv.heard q c from) (parent_grows q c from)))

  -- ---- a commit that j has not heard of yet stays on its line
  module _ (k : ℕ) (old : k < length n.history) where
    abbrev r : Record
    r = nth_record n k

    -- not the message taken, which is not later than itself
    left_named : (q : ℕ) → r.site ≡ q → Before n y r.stamp → Named (messages_at n q j) k → Named (messages_at next q j) k
    left_named q s b (a, l, e) = go (eqb q p) refl a l e
      where
        go : (t : Bool) → eqb q p ≡ t → (c : ℕ) → c < length (messages_at n q j) → get_or (messages_at n q j) c (commit 0) ≡ commit k → Named (messages_at next q j) k
        go true t zero h f =
            let at : message_at n p j 0 ≡ commit k = ap (λ (i : ℕ). message_at n i j 0) (sym (eqb-true q p t)) ∙ f in
            absurd (never_before y (subst (Before n y) (sym (ap (message_stamp n.history) at)) b))
        go true t (suc c) h f =
            let same : q ≡ p = eqb-true q p t in
            let ms = messages_at n q j in
            subst (λ (l : List Message). Named l k) (sym (subst (λ (i : ℕ). messages_at next i j ≡ drop 1 (messages_at n i j)) (sym same) took_here))
            (c, omega (arith, length-drop 1 ms), get_d_rest ms c ∙ f)
        go false t c h f =
            let other = eqb-false q p t in
            subst (λ (l : List Message). Named l k) (sym (took_other (line_number q j) (λ g. other (omega (arith, site, inv.sizes.sites))))) (c, h, f)

    next_owed : (c : ℕ) → due n.items r.ops c ≡ true → Before n (heard_at next c) r.stamp → Named (messages_at next r.site c) k
    next_owed = at_site (λ c. due n.items r.ops c ≡ true → Before n (heard_at next c) r.stamp → Named (messages_at next r.site c) k)
        (λ d b. let after : Before n y r.stamp = subst (λ (t : Stamp). Before n t r.stamp) heard_here b in
        left_named r.site refl after (inv.owed k j old d (before_trans (heard_at n j) y r.stamp fresh after)))
        (λ c e d b. let other : line_number r.site c ≡ line_number p j → ⊥ = λ f. e (omega (arith, site, (line_sites n inv r.site c (due_child n.items r.site r.ops (inv.allowed k old) c d)).1, inv.sizes.sites)) in
        subst (λ (l : List Message). Named l k) (sym (took_other (line_number r.site c) other)) (inv.owed k c old d (subst (λ (t : Stamp). Before n t r.stamp) (heard_there c e) b)))

    -- ---- what j holds of the commits changes by the one that the message names, and no other
    abbrev Unheard : ℕ → Type 0
    Unheard x = not_later (order_at n r.stamp new.stamp) ≡ not_later (order_at n r.stamp (stamp_at n j))

    -- one that waits on a line is later, unless it is the one taken
    waits_later : (q : ℕ) → r.site ≡ q → is_line n.items q j ≡ true → (m ≡ commit k → ⊥) → Named (messages_at n q j) k → Before n y r.stamp
    waits_later q s from other (a, l, e) = subst (λ (x : Message). Before n y (message_stamp n.history x)) e (go (eqb q p) refl a l e)
      where
        go : (t : Bool) → eqb q p ≡ t → (c : ℕ) → c < length (messages_at n q j) → get_or (messages_at n q j) c (commit 0) ≡ commit k → Before n y (sent_at n q j c)
        go true t zero h f = absurd (other (ap (λ (i : ℕ). message_at n i j 0) (sym (eqb-true q p t)) ∙ f))
        go true t (suc c) h f =
            let same : p ≡ q = sym (eqb-true q p t) in
            subst (λ (i : ℕ). suc c < length (messages_at n i j) → Before n y (sent_at n i j (suc c))) same (rest_later c) h
        go false t c h f = other_later q from (eqb-false q p t) c h

    unheard : (x : ℕ) → touches x r.ops ≡ true → holds n.items j x ≡ true → (m ≡ commit k → ⊥) → Unheard x
    unheard x t e other = go (reaches n inv k j x old t e)
      where
        go : (j ≡ r.site) ⊎ ((is_line n.items r.site j ≡ true) × (copies n.items j x ≡ true)) → Unheard x
        go (inl s) =
            let past : UpTo n r.stamp (stamp_at n j) = subst (λ (i : ℕ). UpTo n r.stamp (stamp_at n i)) (sym s) (inv.past k old) in
            upto_trans r.stamp (stamp_at n j) new.stamp past (subst (λ (u : Site). UpTo n (stamp_at n j) u.stamp) here (grows j site)) ∙ sym past
        go (inr (from, c)) =
            let below = record_below n inv k j old from in
            cut_upto j new.stamp r.stamp stamp_new below
            ∙ ap (λ (u : Stamp). not_later (order_at n r.stamp u)) hears
            ∙ told (not_later (order_at n r.stamp (heard_at n j))) refl
            ∙ sym (cut_upto j (stamp_at n j) r.stamp (stamp_made n inv j site) below)
          where
            told : (b : Bool) → not_later (order_at n r.stamp (heard_at n j)) ≡ b → not_later (order_at n r.stamp y) ≡ not_later (order_at n r.stamp (heard_at n j))
            told true f = upto_before r.stamp y (upto_then r.stamp (heard_at n j) y f fresh) ∙ sym f
            told false f =
                let owed = inv.owed k j old (touch_due n.items r.ops j x t c) (fails_later r.stamp (heard_at n j) f) in
                later_fails r.stamp y (waits_later r.site refl from other owed) ∙ sym f

  -- ---- the table at j
  abbrev after : Record → Bool
  after q = not_later (order_at n q.stamp new.stamp)

  abbrev before : Record → Bool
  before q = not_later (order_at n q.stamp (stamp_at n j))

  -- the message names commit k
  module _ (x k : ℕ) (e : holds n.items j x ≡ true) (f : m ≡ commit k) where
    fits : (ltb k (length n.history) ≡ true) × (eqb (nth_record n k).site p ≡ true)
    fits =
        and_true (ltb k (length n.history)) (eqb (nth_record n k).site p)
        (ap (message_fits (place_at n) n.history p) (sym f) ∙ message_fits_lem n inv p j line 0 (first p line))

    old : k < length n.history
    old = ltb-true k (length n.history) fits.0

    from : (nth_record n k).site ≡ p
    from = eqb-true (nth_record n k).site p fits.1

    same : y ≡ (nth_record n k).stamp
    same = ap (message_stamp n.history) f

    -- a later commit that writes what it writes is of the same site, and later than the message
    after_it : touches x (nth_record n k).ops ≡ true → (i : ℕ) → k < i → i < length n.history → touches x (nth_record n i).ops ≡ true → after (nth_record n i) ≡ false
    after_it t i l b u =
        let owner : (nth_record n k).site ≡ (nth_record n i).site
        = one_owner n.items (nth_record n k).site (nth_record n i).site x (touch_owns n.items (nth_record n k).site (nth_record n k).ops (inv.allowed k old) x t)
        (touch_owns n.items (nth_record n i).site (nth_record n i).ops (inv.allowed i b) x u) in
        let way : is_line n.items (nth_record n i).site j ≡ true = ap (λ (q : ℕ). is_line n.items q j) (sym owner ∙ from) ∙ line in
        let later : Before n (without new.stamp) (nth_record n i).stamp = subst (λ (t : Stamp). Before n t (nth_record n i).stamp) (sym (hears ∙ same)) (inv.rise k i l b owner) in
        later_fails (nth_record n i).stamp new.stamp (cut_before j new.stamp (nth_record n i).stamp stamp_new (record_below n inv i j b way) later)

    copied : touches x (nth_record n k).ops ≡ true → copies n.items j x ≡ true
    copied t = go (reaches n inv k j x old t e)
      where
        go : (j ≡ (nth_record n k).site) ⊎ ((is_line n.items (nth_record n k).site j ≡ true) × (copies n.items j x ≡ true)) → copies n.items j x ≡ true
        go (inl s) = let same : place_at n j ≡ place_at n p = ap (place_at n) (s ∙ from) in absurd (omega (arith, rises))
        go (inr (_, c)) = c

    named_value : last_value x (keep after n.history) ≡ wrote x (last_value x (keep before n.history)) (writes_for n j m)
    named_value =
        joined_commit x after before (pos 0) n.history k old
        (λ i l other t. unheard i l x t e (λ g. other (ap name_of (sym g ∙ f))))
        (subst (λ (t : Stamp). UpTo n t new.stamp) same (upto_before y new.stamp y_before))
        (later_fails (nth_record n k).stamp (stamp_at n j) (subst (Before n (stamp_at n j)) same site_before))
        after_it
        ∙ sym (wrote_taken n.items j x (last_value x (keep before n.history)) (nth_record n k).ops copied)
        ∙ ap (λ (a : Message). wrote x (last_value x (keep before n.history)) (writes_for n j a)) (sym f)

  taken_value : (x : ℕ) → holds n.items j x ≡ true → last_value x (keep after n.history) ≡ wrote x (last_value x (keep before n.history)) (writes_for n j m)
  taken_value x e = go m refl
    where
      go : (a : Message) → m ≡ a → last_value x (keep after n.history) ≡ wrote x (last_value x (keep before n.history)) (writes_for n j m)
      go (commit k) f = named_value x k e f
      go (dummy t) f =
          agree x after before (pos 0) n.history (λ k l u. unheard k l x u e (λ g. true≢false (ap is_commit (sym g ∙ f))))
          ∙ ap (λ (a : Message). wrote x (last_value x (keep before n.history)) (writes_for n j a)) (sym f)

  next_copy : (c x : ℕ) → c < length n.sites → x < length n.items → holds n.items c x ≡ true
      → get_or (table_at next c) x (pos 0) ≡ last_value x (keep (λ (q : Record). not_later (order_at n q.stamp (stamp_at next c))) n.history)
  next_copy = at_site (λ c. (x : ℕ) → c < length n.sites → x < length n.items → holds n.items c x ≡ true
      → get_or (table_at next c) x (pos 0) ≡ last_value x (keep (λ (q : Record). not_later (order_at n q.stamp (stamp_at next c))) n.history))
      (λ x l b e.
      ap (λ (s : Site). get_or s.table x (pos 0)) here
      ∙ get_d_worked (table_at n j) (writes_for n j m) x (omega (arith, inv.sizes.tables j l, inv.sizes.items))
      ∙ ap (λ (v : ℤ). wrote x v (writes_for n j m)) (inv.copy j x l b e)
      ∙ sym (taken_value x e)
      ∙ ap (λ (s : Site). last_value x (keep (λ (q : Record). not_later (order_at n q.stamp s.stamp)) n.history)) (sym here))
      (λ c o x l b e.
      ap (λ (s : Site). get_or s.table x (pos 0)) (there c o)
      ∙ inv.copy c x l b e
      ∙ ap (λ (s : Site). last_value x (keep (λ (q : Record). not_later (order_at n q.stamp s.stamp)) n.history)) (sym (there c o)))

  pub schedule_invariant : well_shaped next ≡ true → Invariant next
  schedule_invariant w =
      record {
        sizes = moved_sizes n inv j new ls n.history (length-set n.lines (line_number p j) (taken (line_at n p j))) (worked_length (table_at n j) (writes_for n j m) ∙ inv.sizes.tables j site);
        shape = w;
        past = λ k l. upto_trans (nth_record n k).stamp (stamp_at n (nth_record n k).site) (stamp_at next (nth_record n k).site) (inv.past k l) (grows (nth_record n k).site (record_site n inv k l));
        rise = inv.rise;
        queue = λ q c from. rises_left (line_number q c) (inv.queue q c from);
        ahead = next_ahead;
        behind = next_behind;
        owed = λ k c l. next_owed k l c;
        heard = next_heard;
        copy = λ c x l. next_copy c x (omega (arith, moved_many n inv j new));
        read = inv.read;
        allowed = inv.allowed;
      }

pub schedule_keeps : (n : Network) → Invariant n → (j : ℕ) → schedule_number n j ≡ 0 → Invariant (schedule_network n j)
unfolding schedule_network
schedule_keeps n inv j z = schedule_invariant n inv j z (keeps_schedule n j inv.sizes.sites inv.shape z)
