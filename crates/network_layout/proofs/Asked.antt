-- What a commit's operations ask of the placement: the number of one operation, cause by cause.
use mathlib.Core.Path.{◌≡◌, refl}
use mathlib.Core.Bool.{Bool, true, false, not, ◌&&◌, ◌||◌}
use mathlib.Core.List.{List, [], ◌∷◌}
use Prim.Native.Nat.{ℕ, ◌≤◌, ◌<◌}
use native.Mathlib.Omega.{arith}
use lib.ListN.{length}
use borrow.Author.Tests.{lt-ltb, le-ltb, le-leb, lt-leb, eq-eqb, ne_eqb}
use Rattle.site_operations.specs.Operations.{Op, reads, writes}
use Rattle.placement.specs.Placement.{Item, owns, copies}
use Rattle.lists.specs.Numbers.{first_number, number_if}
use Rattle.protocol.specs.Steps.{op_number}

-- ---- the number of an operation, by the outcomes of its tests
abbrev by_tests : Bool → Bool → Bool → Bool → Bool → Bool → ℕ
by_tests kind item read own copy write = first_number (number_if (kind || item) 9 ∷ number_if (read && not (own || copy)) 10 ∷ number_if (write && not own) 11 ∷ [])

owned : (read copy write : Bool) → by_tests false false read true copy write ≡ 0
owned true copy true = refl
owned true copy false = refl
owned false copy true = refl
owned false copy false = refl

copied : (read : Bool) → by_tests false false read false true false ≡ 0
copied true = refl
copied false = refl

module _ (xs : List Item) (i : ℕ) (o : Op) where
  pub op_kind_unknown : 1 < o.kind → op_number xs i o ≡ 9
  op_kind_unknown h = rw (lt-ltb 1 o.kind h)

  module _ (a : o.kind ≤ 1) where
    pub op_item_unknown : length xs ≤ o.item → op_number xs i o ≡ 9
    op_item_unknown h = rw (le-ltb 1 o.kind a, le-leb (length xs) o.item h)

    module _ (b : o.item < length xs) where
      pub op_owned : owns xs i o.item ≡ true → op_number xs i o ≡ 0
      op_owned e = rw (le-ltb 1 o.kind a, lt-leb (length xs) o.item b, e) (owned (reads o) (copies xs i o.item) (writes o))

      module _ (e : owns xs i o.item ≡ false) where
        pub op_not_owned : o.kind ≡ 1 → op_number xs i o ≡ 11
        op_not_owned w =
            let r : reads o ≡ false = ne_eqb o.kind 0 (λ z. omega arith) in
            let t : writes o ≡ true = eq-eqb o.kind 1 w in
            rw (le-ltb 1 o.kind a, lt-leb (length xs) o.item b, e, r, t)

        module _ (w : o.kind ≡ 1 → ⊥) where
          pub op_copied : copies xs i o.item ≡ true → op_number xs i o ≡ 0
          op_copied c =
              let t : writes o ≡ false = ne_eqb o.kind 1 w in
              rw (le-ltb 1 o.kind a, lt-leb (length xs) o.item b, e, c, t) (copied (reads o))

          pub op_not_copied : copies xs i o.item ≡ false → op_number xs i o ≡ 10
          op_not_copied c =
              let r : reads o ≡ true = eq-eqb o.kind 0 (omega (arith, w)) in
              rw (le-ltb 1 o.kind a, lt-leb (length xs) o.item b, e, c, r)
