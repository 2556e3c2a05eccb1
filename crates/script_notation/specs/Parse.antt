-- The call that a line stands for, if it does.
use Rattle.std.specs.Prelude.{cond, List, [], ◌∷◌, map, ℕ, suc, ℤ, pos, length, take, drop, eqb, leb}
use Rattle.std.proofs.Math.Option.{Option, none, some}
use Rattle.decimal.specs.Decimal.{natural, signed}
use Rattle.site_operations.specs.Operations.{Op}
use Rattle.placement.specs.Placement.{Item}
use Rattle.protocol.specs.Calls.{Call, set_up, commit, dummy, epoch, deliver, schedule}
use Rattle.protocol.specs.Steps.{ops_of, items_of}
use Rattle.script_notation.specs.Fields.{position, fields}

-- what a function makes of a thing, if there is one
abbrev pub on : {A B : Type 0} → Option A → (A → Option B) → Option B
on none f = none
on (some x) f = f x

abbrev pub cons_both : {A : Type 0} → Option A → Option (List A) → Option (List A)
cons_both none ys = none
cons_both (some y) none = none
cons_both (some y) (some ys) = some (y ∷ ys)

-- what each element stands for; nothing where one stands for nothing
unfoldable pub all : {A B : Type 0} → (A → Option B) → List A → Option (List B)
all f [] = some []
all f (x ∷ xs) = cons_both (f x) (all f xs)

-- ---- operations: r and an item, or w, an item, = and a value
abbrev pub reading : Option ℕ → Option Op
reading none = none
reading (some i) = some (record { kind = 0; item = i; value = pos 0 })

abbrev pub writing : Option ℕ → Option ℤ → Option Op
writing none v = none
writing (some i) none = none
writing (some i) (some v) = some (record { kind = 1; item = i; value = v })

-- a write is cut at its first =
abbrev pub assigned : List ℕ → Option Op
assigned l = writing (natural (take (position 61 l) l)) (signed (drop (suc (position 61 l)) l))

unfoldable pub operation : List ℕ → Option Op
operation [] = none
operation (x ∷ xs) = cond (eqb x 114) (reading (natural xs)) (cond (eqb x 119) (assigned xs) none)

-- ---- items: a primary and a mask of 8 bits for each
abbrev pub item_of : ℕ → ℕ → Option Item
item_of p m = cond (leb m 255) (some (record { primary = p; mask = m })) none

unfoldable pub placed : List ℕ → Option (List Item)
placed [] = some []
placed (p ∷ []) = none
placed (p ∷ (m ∷ xs)) = cons_both (item_of p m) (placed xs)

-- ---- calls
abbrev pub one : (ℕ → Call) → List ℕ → Option Call
one f [] = none
one f (a ∷ []) = some (f a)
one f (a ∷ (b ∷ xs)) = none

abbrev pub two : (ℕ → ℕ → Call) → List ℕ → Option Call
two f [] = none
two f (a ∷ []) = none
two f (a ∷ (b ∷ [])) = some (f a b)
two f (a ∷ (b ∷ (c ∷ xs))) = none

abbrev pub set_up_with : ℕ → ℕ → List Item → Call
set_up_with sites items is = set_up sites items (map (λ (i : Item). i.primary) is) (map (λ (i : Item). i.mask) is)

abbrev pub set_up_of : List ℕ → Option Call
set_up_of [] = none
set_up_of (sites ∷ []) = none
set_up_of (sites ∷ (items ∷ xs)) = on (placed xs) (λ is. some (set_up_with sites items is))

abbrev pub commit_with : ℕ → List Op → Call
commit_with site os = commit site (map (λ (o : Op). o.kind) os) (map (λ (o : Op). o.item) os) (map (λ (o : Op). o.value) os)

abbrev pub commit_of : List (List ℕ) → Option Call
commit_of [] = none
commit_of (f ∷ fs) = on (natural f) (λ site. on (all operation fs) (λ os. some (commit_with site os)))

-- by its letter: p, c, d, e, l, s
unfoldable pub called : ℕ → List (List ℕ) → Option Call
called b fs =
    cond (eqb b 112) (on (all natural fs) set_up_of)
    (cond (eqb b 99) (commit_of fs)
    (cond (eqb b 100) (on (all natural fs) (one dummy))
    (cond (eqb b 101) (on (all natural fs) (two epoch))
    (cond (eqb b 108) (on (all natural fs) (two deliver))
    (cond (eqb b 115) (on (all natural fs) (one schedule))
    none)))))

-- the letter is a field of its own
abbrev pub by_letter : List (List ℕ) → Option Call
by_letter [] = none
by_letter ([] ∷ fs) = none
by_letter ((b ∷ []) ∷ fs) = called b fs
by_letter ((b ∷ (x ∷ xs)) ∷ fs) = none

abbrev pub longest : ℕ
longest = 512

unfoldable pub parse : List ℕ → Option Call
parse text = cond (leb (length text) longest) (by_letter (fields text)) none

-- ---- what lists of which the first n are used mean
abbrev pub first_operations : ℕ → List ℕ → List ℕ → List ℤ → List Op
first_operations n ks is vs = ops_of (take n ks) (take n is) (take n vs)

abbrev pub first_items : ℕ → List ℕ → List ℕ → List Item
first_items n ps ms = items_of (take n ps) (take n ms)
