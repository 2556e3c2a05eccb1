-- What the operations of one commit do: to the value of an item, and to themselves as the history keeps them.
use mathlib.Core.Path.{◌≡◌, refl, ap, ap₂, sym, ◌∙◌}
use mathlib.Core.Bool.{Bool, true, false, cond, ◌&&◌}
use mathlib.Core.List.{List, [], ◌∷◌}
use mathlib.Core.Option
use mathlib.Core.Option.{Option, none, some, map}
use Prim.Native.Nat.{ℕ, zero, suc, ◌<◌}
use native.Mathlib.Omega.{arith}
use lib.IntN.{ℤ, pos}
use lib.ListN.{length, get_or, set, take, length-set}
use lib.Seq.{get_or-set_same, get_or-set_other}
use lib.Dec.{eqb}
use borrow.Author.Tests.{eqb-true, eqb-false, ne_eqb}
use Rattle.lists.specs.Lists.{or_else, last_of}
use Rattle.lists.proofs.Numbers.{or_false}
use Rattle.lists.proofs.Last.{some_last}
use Rattle.site_operations.specs.Operations.{Op, no_op, reads, writes, writes_item, touches, last_written, recorded, written, worked}
use Rattle.site_operations.specs.ReadRule.{ReadRule}

-- ---- the value of one item
-- after operations, from the value before
abbrev pub wrote : ℕ → ℤ → List Op → ℤ
wrote x v [] = v
wrote x v (o ∷ os) = wrote x (cond (writes_item x o) o.value v) os

-- operations that do not write the item leave its value
pub untouched : (x : ℕ) (v : ℤ) (os : List Op) → touches x os ≡ false → wrote x v os ≡ v
untouched x v [] e = refl
untouched x v (o ∷ os) e =
    let p = or_false (writes_item x o) (touches x os) e in
    ap (λ (b : Bool). wrote x (cond b o.value v) os) p.0 ∙ untouched x v os p.1

-- those that write it leave the value of the last write
abbrev value_of : Option Op → Option ℤ
value_of = map (λ (o : Op). o.value)

wrote_is : (x : ℕ) (v : ℤ) (os : List Op) → wrote x v os ≡ Option.get_or (last_written x os) v
wrote_is x v [] = refl
wrote_is x v (o ∷ os) = wrote_is x (cond (writes_item x o) o.value v) os ∙ go (last_of (writes_item x) os) (writes_item x o)
  where
    go : (l : Option Op) (b : Bool) → Option.get_or (value_of l) (cond b o.value v) ≡ Option.get_or (value_of (or_else l (cond b (some o) none))) v
    go (some p) b = refl
    go none true = refl
    go none false = refl

pub wrote_last : (x : ℕ) (v : ℤ) (os : List Op) → touches x os ≡ true → last_written x os ≡ some (wrote x v os)
wrote_last x v os e = go (last_of (writes_item x) os) refl
  where
    go : (l : Option Op) → last_of (writes_item x) os ≡ l → last_written x os ≡ some (wrote x v os)
    go none f = absurd (some_last (writes_item x) os e f)
    go (some p) f =
        let is : last_written x os ≡ some p.value = ap value_of f in
        is ∙ ap {B = Option ℤ} some (sym (wrote_is x v os ∙ ap (λ (m : Option ℤ). Option.get_or m v) is))

-- ---- the table: one operation, then all of them
written_length : (table : List ℤ) (o : Op) → length (written table o) ≡ length table
written_length table o = go (writes o)
  where
    go : (b : Bool) → length (cond b (set table o.item o.value) table) ≡ length table
    go true = length-set table o.item o.value
    go false = refl

get_d_written : (table : List ℤ) (o : Op) (x : ℕ) → x < length table → get_or (written table o) x (pos 0) ≡ cond (writes_item x o) o.value (get_or table x (pos 0))
get_d_written table o x h = go (writes o) (eqb o.item x) refl
  where
    go : (b c : Bool) → eqb o.item x ≡ c
        → get_or (cond b (set table o.item o.value) table) x (pos 0) ≡ cond (b && c) o.value (get_or table x (pos 0))
    go true true e =
        let here : o.item ≡ x = eqb-true o.item x e in
        ap (λ (i : ℕ). get_or (set table i o.value) x (pos 0)) here ∙ get_or-set_same table x o.value (pos 0) h
    go true false e = get_or-set_other table o.item x o.value (pos 0) (λ f. eqb-false o.item x e (sym f))
    go false c e = refl

pub worked_length : (table : List ℤ) (os : List Op) → length (worked table os).table ≡ length table
unfolding worked
worked_length table [] = refl
worked_length table (o ∷ os) = worked_length (written table o) os ∙ written_length table o

pub get_d_worked : (table : List ℤ) (os : List Op) (x : ℕ) → x < length table → get_or (worked table os).table x (pos 0) ≡ wrote x (get_or table x (pos 0)) os
unfolding worked
get_d_worked table [] x h = refl
get_d_worked table (o ∷ os) x h =
    get_d_worked (written table o) os x (omega (arith, written_length table o)) ∙ ap (λ (v : ℤ). wrote x v os) (get_d_written table o x h)

-- ---- one operation as the history keeps it
pub read_no_write : (o : Op) → reads o ≡ true → writes o ≡ false
read_no_write o e = ne_eqb o.kind 1 (λ f. omega (arith, eqb-true o.kind 0 e))

module _ (table : List ℤ) (o : Op) where
  abbrev valued : Op
  valued = record { kind = o.kind; item = o.item; value = get_or table o.item (pos 0) }

  -- its kind and item are kept
  pub recorded_like : ((recorded table o).kind ≡ o.kind) × ((recorded table o).item ≡ o.item)
  recorded_like = go (reads o)
    where
      go : (b : Bool) → ((cond b valued o).kind ≡ o.kind) × ((cond b valued o).item ≡ o.item)
      go true = (refl, refl)
      go false = (refl, refl)

  -- a read has the value of the table
  recorded_read : reads o ≡ true → (recorded table o).value ≡ get_or table o.item (pos 0)
  recorded_read e = rw e

  -- so one that has it is kept as it is, and so is any other operation
  recorded_same : (reads o ≡ true → o.value ≡ get_or table o.item (pos 0)) → o ≡ recorded table o
  recorded_same f = go (reads o) refl
    where
      go : (b : Bool) → reads o ≡ b → o ≡ recorded table o
      go true e = (λ i. record { kind = o.kind; item = o.item; value = f e i }) ∙ sym (rw e)
      go false e = sym (rw e)

  -- a read writes nothing, whatever its value; so a write is kept whole
  recorded_write : (x : ℕ) (v : ℤ) → cond (writes_item x (recorded table o)) (recorded table o).value v ≡ cond (writes_item x o) o.value v
  recorded_write x v = go (reads o) refl
    where
      go : (b : Bool) → reads o ≡ b → cond (writes_item x (recorded table o)) (recorded table o).value v ≡ cond (writes_item x o) o.value v
      go true e = rw (e, read_no_write o e)
      go false e = rw e

-- ---- all of them
pub worked_size : (table : List ℤ) (os : List Op) → length (worked table os).ops ≡ length os
unfolding worked
worked_size table [] = refl
worked_size table (o ∷ os) = ap suc (worked_size (written table o) os)

pub worked_kinds : (table : List ℤ) (os : List Op) (a : ℕ)
    → ((get_or (worked table os).ops a no_op).kind ≡ (get_or os a no_op).kind) × ((get_or (worked table os).ops a no_op).item ≡ (get_or os a no_op).item)
unfolding worked
worked_kinds table [] a = (refl, refl)
worked_kinds table (o ∷ os) zero = recorded_like table o
worked_kinds table (o ∷ os) (suc a) = worked_kinds (written table o) os a

-- the first a of them are kept as they are where no more are worked
worked_take : (table : List ℤ) (a : ℕ) (os : List Op) → take a (worked table os).ops ≡ (worked table (take a os)).ops
unfolding worked
worked_take table zero os = refl
worked_take table (suc a) [] = refl
worked_take table (suc a) (o ∷ os) = ap {B = List Op} (λ l. recorded table o ∷ l) (worked_take (written table o) a os)

pub wrote_worked : (table : List ℤ) (os : List Op) (x : ℕ) (v : ℤ) → wrote x v (worked table os).ops ≡ wrote x v os
unfolding worked
wrote_worked table [] x v = refl
wrote_worked table (o ∷ os) x v =
    wrote_worked (written table o) os x (cond (writes_item x (recorded table o)) (recorded table o).value v)
    ∙ ap (λ (u : ℤ). wrote x u os) (recorded_write table o x v)

-- ---- the reads
-- a read has what the operations before it leave of its item
worked_read : (table : List ℤ) (os : List Op) (a : ℕ) → a < length os → reads (get_or os a no_op) ≡ true → (get_or os a no_op).item < length table
    → (get_or (worked table os).ops a no_op).value ≡ wrote (get_or os a no_op).item (get_or table (get_or os a no_op).item (pos 0)) (take a os)
unfolding worked
worked_read table [] a h r l = absurd (omega arith)
worked_read table (o ∷ os) zero h r l = recorded_read table o r
worked_read table (o ∷ os) (suc a) h r l =
    worked_read (written table o) os a (omega arith) r (omega (arith, written_length table o))
    ∙ ap (λ (v : ℤ). wrote (get_or os a no_op).item v (take a os)) (get_d_written table o (get_or os a no_op).item l)

-- by the two clauses
pub read_rule : ReadRule
unfolding ReadRule
read_rule table os a is =
    let x = (get_or os a no_op).item in
    let v = get_or table x (pos 0) in
    let reached = worked_read table os a is.there is.reading is.item_there in
    record {
      own = λ t. wrote_last x v (take a os) t ∙ ap {B = Option ℤ} some (sym reached);
      other = λ t. reached ∙ untouched x v (take a os) t;
    }

-- each read of operations has what those before it leave of its item, from the values before them
abbrev pub ReadsFrom : (ℕ → ℤ) → List Op → Type 0
ReadsFrom value os =
    (a : ℕ) → a < length os → reads (get_or os a no_op) ≡ true
    → (get_or os a no_op).value ≡ wrote (get_or os a no_op).item (value (get_or os a no_op).item) (take a os)

-- so have those that were worked on a table with their items
pub worked_reads : (table : List ℤ) (os : List Op) → ((a : ℕ) → a < length os → (get_or os a no_op).item < length table)
    → ReadsFrom (λ x. get_or table x (pos 0)) (worked table os).ops
worked_reads table os low a l r =
    let kept = worked_kinds table os a in
    let b : a < length os = omega (arith, worked_size table os) in
    worked_read table os a b (ap (λ (k : ℕ). eqb k 0) (sym kept.0) ∙ r) (low a b)
    ∙ ap (λ (x : ℕ). wrote x (get_or table x (pos 0)) (take a os)) (sym kept.1)
    ∙ sym (wrote_worked table (take a os) _ _)
    ∙ ap (wrote _ _) (sym (worked_take table a os))

-- operations whose reads have that from the table are kept as they are
pub worked_same : (table : List ℤ) (os : List Op) → ((a : ℕ) → a < length os → reads (get_or os a no_op) ≡ true → (get_or os a no_op).item < length table)
    → ReadsFrom (λ x. get_or table x (pos 0)) os → os ≡ (worked table os).ops
unfolding worked
worked_same table [] low f = refl
worked_same table (o ∷ os) low f =
    ap₂ {C = List Op} (λ p ps. p ∷ ps) (recorded_same table o (f 0 (omega arith)))
    (worked_same (written table o) os (λ a l r. omega (arith, written_length table o, low (suc a) (omega arith) r))
    (λ a l r. let x = (get_or os a no_op).item in f (suc a) (omega arith) r ∙ ap (λ (v : ℤ). wrote x v (take a os)) (sym (get_d_written table o x (low (suc a) (omega arith) r)))))
