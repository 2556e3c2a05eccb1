-- A step whose number is 0: no cause refuses it, and what that says, once for each step, both ways.
use mathlib.Core.Path.{◌≡◌}
use mathlib.Core.Bool.{Bool, true, false, not, ◌&&◌, ◌||◌, false≢true}
use mathlib.Core.List.{List, [], ◌∷◌, map}
use Prim.Native.Nat.{ℕ, zero, suc, ◌≤◌, ◌<◌}
use native.Mathlib.Omega.{arith}
use lib.IntN.{ℤ}
use lib.ListN.{length, get_or}
use lib.Dec.{eqb, ltb, leb}
use borrow.Author.Tests.{leb-false, lt-leb, ltb-false, eqb-true, not-false}
use Rattle.limits.specs.Limits.{sites_most, items_most, ops_most, records_most}
use Rattle.lists.specs.Lists.{some_below}
use Rattle.lists.specs.Numbers.{first_number, number_if, outside}
use Rattle.lists.proofs.Numbers.{none_holds, none_first, or_false}
use Rattle.site_operations.specs.Operations.{Op, no_op, reads, writes}
use Rattle.placement.specs.Placement.{Item, owns, copies, is_line, has_parents}
use Rattle.placement.specs.Places.{placement_number}
use Rattle.protocol.specs.Network.{Network, site_at, line_at}
use Rattle.protocol.specs.Steps.{wrong_items, items_of, set_up_number, no_such_site, count_at_most, some_line_full, ops_of, op_number, due, commit_causes, wrong_lists, commit_number, dummy_number, epoch_number, deliver_number, lacks_arrived, schedule_number}
use Rattle.protocol.specs.Allowed.{SetUpAllowed, ListsAllowed, CommitAllowed, DummyAllowed, EpochAllowed, DeliverAllowed, ScheduleAllowed}

-- low to high
pub within : (low high k : ℕ) → outside low high k ≡ false → (low ≤ k) × (k ≤ high)
within low high k e = let x = or_false (ltb k low) (ltb high k) e in (ltb-false k low x.0, ltb-false high k x.1)

same : (k m : ℕ) → not (eqb k m) ≡ false → k ≡ m
same k m e = eqb-true k m (not-false (eqb k m) e)

-- ---- set-up
pub set_up_allowed : (sites items : ℕ) (ps ms : List ℕ) → set_up_number sites items ps ms ≡ 0 → SetUpAllowed sites items ps ms
unfolding set_up_number
set_up_allowed sites items ps ms z =
    let wrong = wrong_items items (length ps) (length ms) in
    let faulty : List ℕ = placement_number sites (items_of ps ms) ∷ [] in
    let a = none_holds (outside 1 sites_most sites) 0 (number_if wrong 2 ∷ faulty) z in
    let b = none_holds wrong 1 faulty a.1 in
    let lists = or_false (outside 1 items_most items) (not (eqb (length ps) items) || not (eqb (length ms) items)) b.0 in
    let each = or_false (not (eqb (length ps) items)) (not (eqb (length ms) items)) lists.1 in
    let s = within 1 sites_most sites a.0 in
    let x = within 1 items_most items lists.0 in
    record {
      some_sites = s.0;
      few_sites = s.1;
      some_items = x.0;
      few_items = x.1;
      each_primary = same (length ps) items each.0;
      each_mask = same (length ms) items each.1;
      placed = (none_first (placement_number sites (items_of ps ms)) [] b.1).0;
    }

-- ---- commit
pub lists_allowed : (kinds items values : ℕ) → wrong_lists kinds items values ≡ false → ListsAllowed kinds items values
lists_allowed kinds items values e =
    let x = or_false (outside 1 ops_most kinds) (not (eqb items kinds) || not (eqb values kinds)) e in
    let y = within 1 ops_most kinds x.0 in
    let z = or_false (not (eqb items kinds)) (not (eqb values kinds)) x.1 in
    record { some = y.0; few = y.1; each_item = same items kinds z.0; each_value = same values kinds z.1 }

module _ (n : Network) (i : ℕ) where
  -- the causes that come after the lists' lengths
  pub causes_allowed : (os : List Op) → no_such_site n i ≡ false → first_number (commit_causes n i os) ≡ 0 → CommitAllowed n i os
  causes_allowed os there z =
      let refusal = first_number (map (op_number n.items i) os) in
      let booked = leb records_most (length n.history) in
      let full = some_line_full n i (due n.items os) in
      let last : List ℕ = number_if (count_at_most n i) 14 ∷ [] in
      let a = none_first refusal (number_if booked 12 ∷ (number_if full 13 ∷ last)) z in
      let b = none_holds booked 11 (number_if full 13 ∷ last) a.1 in
      let c = none_holds full 12 last b.1 in
      record {
        there = leb-false (length n.sites) i there;
        each_op = a.0;
        room = leb-false records_most (length n.history) b.0;
        lines_free = c.0;
        count_free = (none_holds (count_at_most n i) 13 [] c.1).0;
      }

  pub commit_allowed : (ks is : List ℕ) (vs : List ℤ) → commit_number n i ks is vs ≡ 0 → ListsAllowed (length ks) (length is) (length vs) × CommitAllowed n i (ops_of ks is vs)
  unfolding commit_number
  commit_allowed ks is vs z =
      let later = commit_causes n i (ops_of ks is vs) in
      let wrong = wrong_lists (length ks) (length is) (length vs) in
      let a = none_holds (no_such_site n i) 6 (number_if wrong 8 ∷ later) z in
      let b = none_holds wrong 7 later a.1 in
      (lists_allowed (length ks) (length is) (length vs) b.0, causes_allowed (ops_of ks is vs) a.0 b.1)

-- what a commit wants of its site and its operations, whatever room the history and the lines have
pub record CommitFits (n : Network) (i : ℕ) (os : List Op) : Type 0 where
  pub there : i < length n.sites
  pub each_op : first_number (map (op_number n.items i) os) ≡ 0
  pub count_free : count_at_most n i ≡ false

pub commit_fits : (n : Network) (i : ℕ) (os : List Op) → CommitAllowed n i os → CommitFits n i os
commit_fits n i os z = record { there = z.there; each_op = z.each_op; count_free = z.count_free }

-- an operation that is not refused at site i
pub record OpAllowed (xs : List Item) (i : ℕ) (o : Op) : Type 0 where
  pub kind : o.kind ≤ 1
  pub item : o.item < length xs
  pub held : reads o ≡ true → (owns xs i o.item || copies xs i o.item) ≡ true
  pub owned : writes o ≡ true → owns xs i o.item ≡ true

and_not : (a b : Bool) → (a && not b) ≡ false → a ≡ true → b ≡ true
and_not true b e f = not-false b e
and_not false b e f = absurd (false≢true f)

op_allowed : (xs : List Item) (i : ℕ) (o : Op) → op_number xs i o ≡ 0 → OpAllowed xs i o
op_allowed xs i o z =
    let odd = ltb 1 o.kind || leb (length xs) o.item in
    let unread = reads o && not (owns xs i o.item || copies xs i o.item) in
    let unowned = writes o && not (owns xs i o.item) in
    let a = none_holds odd 8 (number_if unread 10 ∷ (number_if unowned 11 ∷ [])) z in
    let b = none_holds unread 9 (number_if unowned 11 ∷ []) a.1 in
    let c = none_holds unowned 10 [] b.1 in
    let d = or_false (ltb 1 o.kind) (leb (length xs) o.item) a.0 in
    record {
      kind = ltb-false 1 o.kind d.0;
      item = leb-false (length xs) o.item d.1;
      held = and_not (reads o) (owns xs i o.item || copies xs i o.item) b.0;
      owned = and_not (writes o) (owns xs i o.item) c.0;
    }

none_at : {A : Type 0} (f : A → ℕ) (xs : List A) (k : ℕ) (d : A) → first_number (map f xs) ≡ 0 → k < length xs → f (get_or xs k d) ≡ 0
none_at f [] k d e h = absurd (omega arith)
none_at f (x ∷ xs) zero d e h = (none_first (f x) (map f xs) e).0
none_at f (x ∷ xs) (suc k) d e h = none_at f xs k d (none_first (f x) (map f xs) e).1 (omega arith)

-- of a list of which none is refused, operation k
pub op_at_lem : (xs : List Item) (i : ℕ) (os : List Op) → first_number (map (op_number xs i) os) ≡ 0 → (k : ℕ) → k < length os → OpAllowed xs i (get_or os k no_op)
op_at_lem xs i os z k h = op_allowed xs i (get_or os k no_op) (none_at (op_number xs i) os k no_op z h)

-- ---- dummy, epoch, deliver, schedule
module _ (n : Network) where
  pub dummy_allowed : (i : ℕ) → dummy_number n i ≡ 0 → DummyAllowed n i
  unfolding dummy_number
  dummy_allowed i z =
      let full = some_line_full n i (is_line n.items i) in
      let last : List ℕ = number_if (count_at_most n i) 14 ∷ [] in
      let a = none_holds (no_such_site n i) 6 (number_if full 13 ∷ last) z in
      let b = none_holds full 12 last a.1 in
      record { there = leb-false (length n.sites) i a.0; lines_free = b.0; count_free = (none_holds (count_at_most n i) 13 [] b.1).0 }

  pub epoch_allowed : (i e : ℕ) → epoch_number n i e ≡ 0 → EpochAllowed n i e
  unfolding epoch_number
  epoch_allowed i e z =
      let old = leb e (site_at n i).stamp.epoch in
      let a = none_holds (no_such_site n i) 6 (number_if (has_parents n.items i) 15 ∷ (number_if old 16 ∷ [])) z in
      let b = none_holds (has_parents n.items i) 14 (number_if old 16 ∷ []) a.1 in
      record {
        there = leb-false (length n.sites) i a.0;
        orphan = b.0;
        newer = leb-false e (site_at n i).stamp.epoch (none_holds old 15 [] b.1).0;
      }

  pub deliver_allowed : (p c : ℕ) → deliver_number n p c ≡ 0 → DeliverAllowed n p c
  unfolding deliver_number
  deliver_allowed p c z =
      let l = line_at n p c in
      let none = not (is_line n.items p c) in
      let all = leb (length l.messages) l.arrived in
      let x = none_holds (no_such_site n p || no_such_site n c) 6 (number_if none 17 ∷ (number_if all 18 ∷ [])) z in
      let y = none_holds none 16 (number_if all 18 ∷ []) x.1 in
      let o = or_false (no_such_site n p) (no_such_site n c) x.0 in
      record {
        parent = leb-false (length n.sites) p o.0;
        child = leb-false (length n.sites) c o.1;
        line = not-false (is_line n.items p c) y.0;
        on_way_lem = leb-false (length l.messages) l.arrived (none_holds all 17 [] y.1).0;
      }

  pub schedule_allowed : (j : ℕ) → schedule_number n j ≡ 0 → ScheduleAllowed n j
  unfolding schedule_number
  schedule_allowed j z =
      let orphan = not (has_parents n.items j) in
      let waits = some_below (lacks_arrived n j) sites_most in
      let a = none_holds (no_such_site n j) 6 (number_if orphan 19 ∷ (number_if waits 20 ∷ [])) z in
      let b = none_holds orphan 18 (number_if waits 20 ∷ []) a.1 in
      record {
        there = leb-false (length n.sites) j a.0;
        parents = not-false (has_parents n.items j) b.0;
        all_arrived_lem = (none_holds waits 19 [] b.1).0;
      }

  -- ---- and the other way: what is allowed has number 0
  pub allowed_dummy : (i : ℕ) → DummyAllowed n i → dummy_number n i ≡ 0
  unfolding dummy_number
  allowed_dummy i ok = rw (lt-leb (length n.sites) i ok.there, ok.lines_free, ok.count_free)

  pub allowed_epoch : (i e : ℕ) → EpochAllowed n i e → epoch_number n i e ≡ 0
  unfolding epoch_number
  allowed_epoch i e ok = rw (lt-leb (length n.sites) i ok.there, ok.orphan, lt-leb e (site_at n i).stamp.epoch ok.newer)

  pub allowed_deliver : (p c : ℕ) → DeliverAllowed n p c → deliver_number n p c ≡ 0
  unfolding deliver_number
  allowed_deliver p c ok =
      let l = line_at n p c in
      rw (lt-leb (length n.sites) p ok.parent, lt-leb (length n.sites) c ok.child, ok.line, lt-leb (length l.messages) l.arrived ok.on_way_lem)

  pub allowed_schedule : (j : ℕ) → ScheduleAllowed n j → schedule_number n j ≡ 0
  unfolding schedule_number
  allowed_schedule j ok = rw (lt-leb (length n.sites) j ok.there, ok.parents, ok.all_arrived_lem)
