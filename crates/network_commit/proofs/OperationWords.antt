-- Laws of operations that are given by the lists of their fields, and of the values that reads gave, one operation at a time.
use mathlib.Core.Path.{◌≡◌, refl, sym, ap, ◌∙◌}
use mathlib.Core.Bool.{Bool, true, false, cond}
use mathlib.Core.List.{List, [], ◌∷◌, ◌++◌, append-nil}
use Prim.Native.Nat.{ℕ, zero, suc, ◌+◌, ◌≤◌, ◌<◌}
use native.Mathlib.Omega.{arith}
use native.Mathlib.Numerals.{add-one}
use native.Mathlib.Nat.{not-suc-le-zero}
use lib.IntN.{ℤ, pos}
use lib.ListN.{length, get_or, set, take}
use lib.Seq.{take_all, take-suc-set}
use borrow.Author.Tests.{eq-eqb, ne_eqb}
use mir.Val.{to_z, of_z, SFits}
use mir.ValLaws.{to_z-of_z}
use mir.Syntax.{w32}
use Rattle.signed_words.proofs.Signed.{again}
use Rattle.site_operations.specs.Operations.{Op, reads, values_read}
use Rattle.site_operations.specs.InWords.{op_at, ops_in, op_of}
use Rattle.site_operations.proofs.Laws.{ops_last}
use Rattle.protocol.specs.Steps.{ops_of}

-- ---- operations from the lists of their fields
-- operation i of the lists
abbrev pub one_of : List ℕ → List ℕ → List ℤ → ℕ → List Op
one_of ks is vs i = ops_of (get_or ks i 0 ∷ []) (get_or is i 0 ∷ []) (get_or vs i (pos 0) ∷ [])

ops_taken : (ks is : List ℕ) (vs : List ℤ) (i : ℕ) → length is ≡ length ks → length vs ≡ length ks → i < length ks
    → take (suc i) (ops_of ks is vs) ≡ take i (ops_of ks is vs) ++ one_of ks is vs i
ops_taken [] is vs i h g b = absurd (not-suc-le-zero b)
ops_taken (k ∷ ks) [] vs i h g b = absurd (omega arith)
ops_taken (k ∷ ks) (j ∷ is) [] i h g b = absurd (omega arith)
ops_taken (k ∷ ks) (j ∷ is) (v ∷ vs) zero h g b = refl
ops_taken (k ∷ ks) (j ∷ is) (v ∷ vs) (suc i) h g b =
    ap {B = List Op} (λ l. record { kind = k; item = j; value = v } ∷ l) (ops_taken ks is vs i (omega arith) (omega arith) (omega arith))

ops_count : (ks is : List ℕ) (vs : List ℤ) → length (ops_of ks is vs) ≤ length ks
ops_count [] is vs = omega arith
ops_count (k ∷ ks) [] vs = omega arith
ops_count (k ∷ ks) (j ∷ is) [] = omega arith
ops_count (k ∷ ks) (j ∷ is) (v ∷ vs) = omega (arith, ops_count ks is vs)

module _ (ks is : List ℕ) (vs : List ℤ) (out : List ℕ) (i : ℕ) (e : ops_in i out ≡ take i (ops_of ks is vs)) where
  -- one operation more
  pub ops_next : (out' : List ℕ) → length is ≡ length ks → length vs ≡ length ks → i < length ks → ops_in (i + 1) out' ≡ ops_in i out ++ one_of ks is vs i
      → ops_in (i + 1) out' ≡ take (i + 1) (ops_of ks is vs)
  ops_next out' h g b f =
      f ∙ ap (λ (l : List Op). l ++ one_of ks is vs i) e ∙ sym (ap (λ (n : ℕ). take n (ops_of ks is vs)) (add-one i) ∙ ops_taken ks is vs i h g b)

  -- all of them
  pub ops_all : i ≡ length ks → ops_in (length ks) out ≡ ops_of ks is vs
  ops_all f = ap (λ (n : ℕ). ops_in n out) (sym f) ∙ e ∙ take_all i (ops_of ks is vs) (omega (arith, ops_count ks is vs))

-- an operation whose value is given as a signed number
pub op_given : (k item : ℕ) (v : ℤ) (kind w : ℕ) → kind ≡ k → w ≡ of_z w32 (again v) → SFits w32 v → op_of kind item w ≡ record { kind = k; item = item; value = v }
op_given k item v kind w f g s =
    let value : to_z w32 w ≡ v = ap (to_z w32) g ∙ ap again (to_z-of_z w32 v s) ∙ to_z-of_z w32 v s in
    λ t. record { kind = f t; item = item; value = value t }

-- ---- the values that reads gave
more : (b : Bool) (v : ℤ) (xs ys zs : List ℤ) → xs ≡ ys ++ zs → cond b (v ∷ xs) xs ≡ cond b (v ∷ ys) ys ++ zs
more true v xs ys zs e = ap {B = List ℤ} (λ l. v ∷ l) e
more false v xs ys zs e = e

reads_last : (os : List Op) (o : Op) → values_read (os ++ (o ∷ [])) ≡ values_read os ++ values_read (o ∷ [])
reads_last [] o = refl
reads_last (x ∷ os) o = more (reads x) x.value (values_read (os ++ (o ∷ []))) (values_read os) (values_read (o ∷ [])) (reads_last os o)

-- one operation more
pub read_next : (ops : List ℕ) (i count : ℕ) (vs : List ℤ) → take count vs ≡ values_read (ops_in i ops)
    → (count' : ℕ) (vs' : List ℤ) → take count' vs' ≡ take count vs ++ values_read (op_at ops i ∷ []) → take count' vs' ≡ values_read (ops_in (i + 1) ops)
read_next ops i count vs e count' vs' f =
    f ∙ ap (λ (l : List ℤ). l ++ values_read (op_at ops i ∷ [])) e ∙ sym (ap values_read (ops_last i ops) ∙ reads_last (ops_in i ops) (op_at ops i))

module _ (o : Op) (kind : ℕ) (k : kind ≡ o.kind) (count : ℕ) (vs : List ℤ) where
  -- what is not a read gives no value
  pub read_none : (kind ≡ 0 → ⊥) → take count vs ≡ take count vs ++ values_read (o ∷ [])
  read_none z = sym (rw (ne_eqb o.kind 0 (λ f. z (k ∙ f))) (append-nil (take count vs)))

  -- a read gives its own
  pub read_one : (w : ℕ) (z : ℤ) → kind ≡ 0 → count < length vs → to_z w32 w ≡ o.value → z ≡ to_z w32 w → SFits w32 z
      → take (count + 1) (set vs count (again z)) ≡ take count vs ++ values_read (o ∷ [])
  read_one w z n h e f s =
      let value : again z ≡ o.value = to_z-of_z w32 z s ∙ f ∙ e in
      ap (λ (m : ℕ). take m (set vs count (again z))) (add-one count)
      ∙ take-suc-set vs count (again z) h
      ∙ ap (λ (x : ℤ). take count vs ++ (x ∷ [])) value
      ∙ sym (rw (eq-eqb o.kind 0 (sym k ∙ n)))
