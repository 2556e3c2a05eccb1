-- The invariant of every network that a set-up leads to, and what follows from it at once.
use mathlib.Core.Path.{◌≡◌, refl, ap, sym, subst, ◌∙◌}
use mathlib.Core.Bool.{Bool, true, false, ◌&&◌, ◌||◌}
use mathlib.Core.List.{List}
use mathlib.Core.Logic.{◌⊎◌, inl, inr}
use Prim.Native.Nat.{ℕ, ◌/◌, ◌<◌, ◌≤◌}
use native.Mathlib.Omega.{arith}
use lib.IntN.{ℤ, pos}
use lib.ListN.{length, get_or}
use lib.Dec.{eqb}
use borrow.Author.Tests.{eqb-true, eqb-false}
use Rattle.lists.proofs.Every.{and_true, every_at}
use Rattle.timestamp_order.specs.Timestamp.{Stamp}
use Rattle.timestamp_order.specs.Order.{not_later, is_earlier, Below}
use Rattle.timestamp_order.specs.Made.{made_by}
use Rattle.timestamp_order.proofs.Made.{without}
use Rattle.site_operations.specs.Operations.{Op, writes, no_op, writes_item, touches}
use Rattle.site_operations.proofs.Works.{ReadsFrom}
use Rattle.site.specs.InWords.{table_size}
use Rattle.placement.specs.Masks.{bit}
use Rattle.placement.specs.Placement.{Item, no_item, owns, copies, is_line, has_parents}
use Rattle.limits.specs.Limits.{sites_most}
use Rattle.lists.proofs.Some.{some_at, some_index}
use Rattle.messages.specs.Messages.{Message, commit}
use Rattle.records.specs.Records.{Record}
use Rattle.protocol.specs.Network.{lines_most, Network, site_at, line_at, line_number, message_stamp, message_fits, well_shaped, nth_record}
use Rattle.protocol.specs.Steps.{due}
use Rattle.lists.specs.Lists.{keep}
use Rattle.protocol.proofs.WellShaped.{Shape, shape_parts}
use Rattle.protocol.proofs.Allowed.{OpAllowed}
use Rattle.protocol.proofs.Chosen.{message_made}
use Rattle.protocol.specs.Agreement.{holds}
use Rattle.protocol.proofs.Values.{last_value}
use Rattle.protocol.proofs.Places.{line_rises, line_ends, place_at, order_at, Before, UpTo, times_at}

-- ---- a network's timestamps, tables and messages
abbrev pub stamp_at : Network → ℕ → Stamp
stamp_at n j = (site_at n j).stamp

-- the last message scheduled at j; before any, the epoch with no tuples
abbrev pub heard_at : Network → ℕ → Stamp
heard_at n j = without (stamp_at n j)

abbrev pub table_at : Network → ℕ → List ℤ
table_at n j = (site_at n j).table

abbrev pub messages_at : Network → ℕ → ℕ → List Message
messages_at n p j = (line_at n p j).messages

abbrev pub message_at : Network → ℕ → ℕ → ℕ → Message
message_at n p j a = get_or (messages_at n p j) a (commit 0)

abbrev pub sent_at : Network → ℕ → ℕ → ℕ → Stamp
sent_at n p j a = message_stamp n.history (message_at n p j a)

-- a message of the list names commit k
abbrev pub Named : List Message → ℕ → Type 0
Named ms k = (a : ℕ) × (a < length ms) × (get_or ms a (commit 0) ≡ commit k)

-- ---- the numbers of things that a set-up leaves
pub record Sizes (n : Network) : Type 0 where
  pub lines : length n.lines ≡ lines_most
  pub sites : length n.sites ≤ sites_most
  pub items : length n.items ≤ table_size
  pub tables : (j : ℕ) → j < length n.sites → length (table_at n j) ≡ table_size

pub record Invariant (n : Network) : Type 0 where
  pub sizes : Sizes n
  pub shape : well_shaped n ≡ true
  -- a commit is not later than its site; the commits of one site rise
  pub past : (k : ℕ) → k < length n.history → UpTo n (nth_record n k).stamp (stamp_at n (nth_record n k).site)
  pub rise : (k m : ℕ) → k < m → m < length n.history → (nth_record n k).site ≡ (nth_record n m).site → Before n (nth_record n k).stamp (nth_record n m).stamp
  -- the messages of a line rise; each is later than what the child has heard, and not later than the parent
  pub queue : (p j : ℕ) → is_line n.items p j ≡ true → (a b : ℕ) → a < b → b < length (messages_at n p j) → Before n (sent_at n p j a) (sent_at n p j b)
  pub ahead : (p j : ℕ) → is_line n.items p j ≡ true → (a : ℕ) → a < length (messages_at n p j) → Before n (heard_at n j) (sent_at n p j a)
  pub behind : (p j : ℕ) → is_line n.items p j ≡ true → (a : ℕ) → a < length (messages_at n p j) → UpTo n (sent_at n p j a) (stamp_at n p)
  -- a commit that a child has a copy of and has not heard of is on the line
  pub owed : (k j : ℕ) → k < length n.history → due n.items (nth_record n k).ops j ≡ true → Before n (heard_at n j) (nth_record n k).stamp → Named (messages_at n (nth_record n k).site j) k
  -- what a child has heard is not later than any parent
  pub heard : (p j : ℕ) → is_line n.items p j ≡ true → UpTo n (heard_at n j) (stamp_at n p)
  -- a table holds the last values of the commits not later than its site
  pub copy : (j x : ℕ) → j < length n.sites → x < length n.items → holds n.items j x ≡ true
      → get_or (table_at n j) x (pos 0) ≡ last_value x (keep (λ (r : Record). not_later (order_at n r.stamp (stamp_at n j))) n.history)
  -- a read has what the operations before it leave of the last value of the commits before its own
  pub read : (k : ℕ) → k < length n.history
      → ReadsFrom (λ x. last_value x (keep (λ (r : Record). is_earlier (order_at n r.stamp (nth_record n k).stamp)) n.history)) (nth_record n k).ops
  -- a commit writes what its site owns, and reads what it owns or copies
  pub allowed : (k : ℕ) → k < length n.history → (a : ℕ) → a < length (nth_record n k).ops → OpAllowed n.items (nth_record n k).site (get_or (nth_record n k).ops a no_op)

-- ---- the placement
owner_is : (xs : List Item) (i x : ℕ) → owns xs i x ≡ true → (get_or xs x no_item).primary ≡ i
owner_is xs i x e = eqb-true (get_or xs x no_item).primary i e

pub one_owner : (xs : List Item) (i j x : ℕ) → owns xs i x ≡ true → owns xs j x ≡ true → i ≡ j
one_owner xs i j x e f = sym (owner_is xs i x e) ∙ owner_is xs j x f

-- an item that i owns and j copies gives a line from i to j
pub copy_line : (xs : List Item) (i j x : ℕ) → x < length xs → owns xs i x ≡ true → copies xs j x ≡ true → is_line xs i j ≡ true
unfolding is_line
copy_line xs i j x l e f = some_at (λ (y : Item). eqb y.primary i && bit y.mask j) xs x no_item l (rw (e, f))

-- a line gives its child a parent
pub line_child : (xs : List Item) (i j : ℕ) → is_line xs i j ≡ true → has_parents xs j ≡ true
unfolding is_line has_parents
line_child xs i j e =
    let f = some_index (λ (y : Item). eqb y.primary i && bit y.mask j) xs no_item e in
    let y = get_or xs f.0 no_item in
    some_at (λ (z : Item). bit z.mask j) xs f.0 no_item f.1 (and_true (eqb y.primary i) (bit y.mask j) f.2).1

-- who holds an item that i owns is i itself or copies it at the end of a line from i
pub holder : (xs : List Item) (i j x : ℕ) → x < length xs → owns xs i x ≡ true → holds xs j x ≡ true → (j ≡ i) ⊎ ((is_line xs i j ≡ true) × (copies xs j x ≡ true))
holder xs i j x l o h = go (owns xs j x) refl h
  where
    go : (b : Bool) → owns xs j x ≡ b → (b || copies xs j x) ≡ true → (j ≡ i) ⊎ ((is_line xs i j ≡ true) × (copies xs j x ≡ true))
    go true e f = inl (one_owner xs j i x e o)
    go false e f = inr (copy_line xs i j x l o f, f)

-- ---- operations
-- the operation that writes the item
pub writing : (x : ℕ) (os : List Op) → touches x os ≡ true → (a : ℕ) × (a < length os) × (writes (get_or os a no_op) ≡ true) × ((get_or os a no_op).item ≡ x)
writing x os e =
    let f = some_index (writes_item x) os no_op e in
    let o = get_or os f.0 no_op in
    let w = and_true (writes o) (eqb o.item x) f.2 in
    (f.0, f.1, w.0, eqb-true o.item x w.1)

-- a site that copies an item that is written is due a message
pub touch_due : (xs : List Item) (os : List Op) (j x : ℕ) → touches x os ≡ true → copies xs j x ≡ true → due xs os j ≡ true
touch_due xs os j x e c =
    let w = writing x os e in
    some_at (λ (o : Op). writes o && copies xs j o.item) os w.0 no_op w.1 (rw (w.2, ap (copies xs j) w.3 ∙ c))

-- operations that a site was allowed write what it owns
module _ (xs : List Item) (i : ℕ) (os : List Op) (fits : (a : ℕ) → a < length os → OpAllowed xs i (get_or os a no_op)) where
  pub touch_item : (x : ℕ) → touches x os ≡ true → x < length xs
  touch_item x e = let w = writing x os e in subst (λ (y : ℕ). y < length xs) w.3 (fits w.0 w.1).item

  pub touch_owns : (x : ℕ) → touches x os ≡ true → owns xs i x ≡ true
  touch_owns x e = let w = writing x os e in ap (owns xs i) (sym w.3) ∙ (fits w.0 w.1).owned w.2

  pub due_child : (j : ℕ) → due xs os j ≡ true → is_line xs i j ≡ true
  due_child j e =
      let f = some_index (λ (o : Op). writes o && copies xs j o.item) os no_op e in
      let o = get_or os f.0 no_op in
      let w = and_true (writes o) (copies xs j o.item) f.2 in
      let s = fits f.0 f.1 in
      copy_line xs i j o.item s.item (s.owned w.0) w.1

-- ---- what holds in a network with the invariant
module _ (n : Network) (inv : Invariant n) where
  open times_at n use {made_under, never_before, made_apart, cut_before}

  pub shaped : Shape n
  shaped = shape_parts n inv.shape

  -- a line's ends are sites, and the child comes after its parent
  pub line_sites : (p j : ℕ) → is_line n.items p j ≡ true → (p < length n.sites) × (j < length n.sites)
  line_sites p j e = line_ends (length n.sites) n.items p j shaped.placed e

  pub line_up : (p j : ℕ) → is_line n.items p j ≡ true → place_at n p < place_at n j
  line_up p j e = line_rises (length n.sites) n.items p j shaped.placed e inv.sizes.sites

  pub stamp_made : (j : ℕ) → j < length n.sites → made_by (place_at n) j (stamp_at n j) ≡ true
  stamp_made = shaped.stamps

  pub record_made : (k : ℕ) → k < length n.history → made_by (place_at n) (nth_record n k).site (nth_record n k).stamp ≡ true
  record_made k l = (shaped.records k l).made

  pub record_site : (k : ℕ) → k < length n.history → (nth_record n k).site < length n.sites
  record_site k l = (shaped.records k l).at

  pub line_number_lem : (p j : ℕ) → is_line n.items p j ≡ true → line_number p j < length n.lines
  line_number_lem p j e = let ends = line_sites p j e in omega (arith, ends.0, ends.1, inv.sizes.lines, inv.sizes.sites)

  pub message_fits_lem : (p j : ℕ) → is_line n.items p j ≡ true → (a : ℕ) → a < length (messages_at n p j) → message_fits (place_at n) n.history p (message_at n p j a) ≡ true
  message_fits_lem p j e a l =
      let ends = line_sites p j e in
      let from : line_number p j / sites_most ≡ p = omega (arith, ends.1, inv.sizes.sites) in
      ap (λ (q : ℕ). message_fits (place_at n) n.history q (message_at n p j a)) (sym from)
      ∙ every_at (message_fits (place_at n) n.history (line_number p j / sites_most)) (messages_at n p j) a (commit 0) (shaped.lined (line_number p j) (line_number_lem p j e)).fitting l

  pub sent_made : (p j : ℕ) → is_line n.items p j ≡ true → (a : ℕ) → a < length (messages_at n p j) → made_by (place_at n) p (sent_at n p j a) ≡ true
  sent_made p j e a l = message_made n shaped p (message_at n p j a) (message_fits_lem p j e a l)

  -- a commit of a parent stands below its child
  pub record_below : (k j : ℕ) → k < length n.history → is_line n.items (nth_record n k).site j ≡ true → Below (place_at n) j (nth_record n k).stamp.tuples
  record_below k j l e = made_under (nth_record n k).site j (nth_record n k).stamp (record_made k l) (line_up (nth_record n k).site j e)

  pub sent_below : (p j : ℕ) → is_line n.items p j ≡ true → (a : ℕ) → a < length (messages_at n p j) → Below (place_at n) j (sent_at n p j a).tuples
  sent_below p j e a l = made_under p j (sent_at n p j a) (sent_made p j e a l) (line_up p j e)

  -- a message on a line into j is later than j itself
  pub sent_later : (p j : ℕ) → is_line n.items p j ≡ true → (a : ℕ) → a < length (messages_at n p j) → Before n (stamp_at n j) (sent_at n p j a)
  sent_later p j e a l = cut_before j (stamp_at n j) (sent_at n p j a) (stamp_made j (line_sites p j e).1) (sent_below p j e a l) (inv.ahead p j e a l)

  -- who holds an item that commit k writes is the commit's site or its child
  pub reaches : (k j x : ℕ) → k < length n.history → touches x (nth_record n k).ops ≡ true → holds n.items j x ≡ true → (j ≡ (nth_record n k).site) ⊎ ((is_line n.items (nth_record n k).site j ≡ true) × (copies n.items j x ≡ true))
  reaches k j x l t h =
      let fits = inv.allowed k l in
      holder n.items (nth_record n k).site j x (touch_item n.items (nth_record n k).site (nth_record n k).ops fits x t) (touch_owns n.items (nth_record n k).site (nth_record n k).ops fits x t) h

  -- no two have one timestamp: those of one site rise, those of two end differently
  pub stamps_apart : (k m : ℕ) → k < m → m < length n.history → (nth_record n k).stamp ≡ (nth_record n m).stamp → ⊥
  stamps_apart k m l h e = go (eqb (nth_record n k).site (nth_record n m).site) refl
    where
      go : (b : Bool) → eqb (nth_record n k).site (nth_record n m).site ≡ b → ⊥
      go true s =
          never_before (nth_record n m).stamp (subst (λ (t : Stamp). Before n t (nth_record n m).stamp) e (inv.rise k m l h (eqb-true (nth_record n k).site (nth_record n m).site s)))
      go false s =
          made_apart (nth_record n k).site (nth_record n m).site (nth_record n k).stamp (nth_record n m).stamp (record_made k (omega arith)) (record_made m h)
          (eqb-false (nth_record n k).site (nth_record n m).site s) e

  -- those that write an item are its owner's, and rise
  pub writers_rise : (x k m : ℕ) → k < m → m < length n.history → touches x (nth_record n k).ops ≡ true → touches x (nth_record n m).ops ≡ true → Before n (nth_record n k).stamp (nth_record n m).stamp
  writers_rise x k m l h t u =
      let owner : (a : ℕ) → a < length n.history → touches x (nth_record n a).ops ≡ true → owns n.items (nth_record n a).site x ≡ true
      = λ a b. touch_owns n.items (nth_record n a).site (nth_record n a).ops (inv.allowed a b) x in
      inv.rise k m l h (one_owner n.items (nth_record n k).site (nth_record n m).site x (owner k (omega arith) t) (owner m h u))
