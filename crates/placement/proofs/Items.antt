-- Items in words: the tests of an item, the first n items, and loops over them.
use mathlib.Core.Path.{◌≡◌, sym, ap, ◌∙◌}
use mathlib.Core.Bool.{Bool, true, false, cond, ◌&&◌, ◌||◌}
use mathlib.Core.List.{List, []}
use Prim.Native.Nat.{ℕ, ◌+◌, ◌*◌, ◌/◌, ◌^◌, ◌≤◌, ◌<◌}
use native.Mathlib.Omega.{arith}
use lib.ListN.{length, get_or, drop, length-map, get_or-map, get_or-eq_default}
use borrow.Author.Tests.{le-leb, lt-leb, lt-ltb, le-ltb, eq-eqb, ne_eqb}
use Rattle.words.specs.Words.{chunks}
use Rattle.words.proofs.Parts.{part_get_d}
use Rattle.words.proofs.Chunks.{chunks_length, chunks_at}
use Rattle.placement.specs.Masks.{bit}
use Rattle.placement.specs.Placement.{Item, names_missing, item_number, items_number, no_item, gives_line}
use Rattle.lists.specs.Lists.{any}
use Rattle.placement.specs.InWords.{item_size, item_in, item_words, item_at, items_in}
use Rattle.lists.proofs.Some.{some_true, some_next, some_done}
use Rattle.lists.proofs.Numbers.{first_here, first_next, first_done}

-- ---- the tests of an item: it has a copy at c, and its primary at p
abbrev pub copied : ℕ → Item → Bool
copied c x = bit x.mask c

module _ (x : Item) (p c : ℕ) where
  pub not_joined : (x.primary ≡ p → ⊥) → false ≡ gives_line p c x
  not_joined h = sym (ap (λ (b : Bool). b && copied c x) (ne_eqb x.primary p h))

  pub joined_by : x.primary ≡ p → copied c x ≡ gives_line p c x
  joined_by h = sym (ap (λ (b : Bool). b && copied c x) (eq-eqb x.primary p h))

-- ---- the first n items
module _ (n : ℕ) (w : List ℕ) where
  pub items_length : length (items_in n w) ≡ n
  items_length = length-map (chunks item_size n w) item_in ∙ chunks_length item_size n w

  pub items_at_lem : (k : ℕ) → k < n → get_or (items_in n w) k no_item ≡ item_at w k
  items_at_lem k h = get_or-map item_in (chunks item_size n w) k [] ∙ ap item_in (chunks_at item_size n w k h)

-- a walk that leaves at the first item that passes a test
module _ (test : Item → Bool) (n : ℕ) (w : List ℕ) (k : ℕ) (e : any test (items_in n w) ≡ any test (drop k (items_in n w))) where
  pub found : k < n → test (item_at w k) ≡ true → any test (items_in n w) ≡ true
  found h q = some_true test (items_in n w) k no_item e (omega (arith, items_length n w)) (ap test (items_at_lem n w k h) ∙ q)

  pub not_yet : k < n → test (item_at w k) ≡ false → any test (items_in n w) ≡ any test (drop (k + 1) (items_in n w))
  not_yet h q = some_next test (items_in n w) k no_item e (omega (arith, items_length n w)) (ap test (items_at_lem n w k h) ∙ q)

  pub not_found : n ≤ k → any test (items_in n w) ≡ false
  not_found h = some_done test (items_in n w) k no_item e (omega (arith, items_length n w))

-- a walk that leaves at the first faulty item
module _ (sites n : ℕ) (w : List ℕ) (k : ℕ) (e : items_number sites (items_in n w) ≡ items_number sites (drop k (items_in n w))) where
  pub faulty : k < n → (item_number sites (item_at w k) ≡ 0 → ⊥) → items_number sites (items_in n w) ≡ item_number sites (item_at w k)
  faulty h q =
      let a = ap (item_number sites) (items_at_lem n w k h) in
      first_here (item_number sites) (items_in n w) k no_item e (omega (arith, items_length n w)) (λ z. q (sym a ∙ z)) ∙ a

  pub not_yet_faulty : k < n → item_number sites (item_at w k) ≡ 0 → items_number sites (items_in n w) ≡ items_number sites (drop (k + 1) (items_in n w))
  not_yet_faulty h q = first_next (item_number sites) (items_in n w) k no_item e (omega (arith, items_length n w)) (ap (item_number sites) (items_at_lem n w k h) ∙ q)

  pub not_faulty : n ≤ k → items_number sites (items_in n w) ≡ 0
  not_faulty h = first_done (item_number sites) (items_in n w) k no_item e (omega (arith, items_length n w))
