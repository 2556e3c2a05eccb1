-- Laws of codes and values: the operations read from them, and the words that packing leaves.
use mathlib.Core.Path.{◌≡◌, refl, sym, ap, ap₂, ◌∙◌}
use mathlib.Core.Bool.{Bool, true, false}
use mathlib.Core.List.{List, [], ◌∷◌}
use Prim.Native.Nat.{ℕ, zero, suc, ◌+◌, ◌*◌, ◌<◌}
use native.Mathlib.Omega.{arith}
use lib.ListN.{length, get_or, set, drop, length-set}
use lib.Seq.{get_or-set_same, get_or-set_other, get_or-drop}
use lib.Dec.{eqb}
use mir.Val.{to_z}
use mir.Syntax.{w32}
use borrow.Author.Tests.{eqb-true, eqb-false}
use Rattle.lanes.specs.Lanes.{bytes}
use Rattle.lanes.proofs.Laws.{bytes_length, bytes_of_two}
use Rattle.words.specs.Words.{part}
use Rattle.words.proofs.Parts.{part_get_d}
use Rattle.site_operations.specs.Operations.{no_op}
use Rattle.site_operations.specs.InWords.{op_at}
use Rattle.limits.specs.Limits.{ops_most}
use Rattle.record_codes.specs.Codes.{values_at, packed_size, op_of_code, ops_of, joined, code_number, codes_in, places_in, code_of, Packed}

-- ---- read
-- the operations of codes and values, one by one
pub ops_of_length : (cs vs : List ℕ) → length (ops_of cs vs) ≡ length cs
ops_of_length [] vs = refl
ops_of_length (c ∷ cs) vs = ap suc (ops_of_length cs (drop 1 vs))

ops_of_at : (cs vs : List ℕ) (i : ℕ) → i < length cs → get_or (ops_of cs vs) i no_op ≡ op_of_code (get_or cs i 0) (get_or vs i 0)
ops_of_at [] vs i h = absurd (omega arith)
ops_of_at (c ∷ cs) vs zero h = refl
ops_of_at (c ∷ cs) vs (suc i) h =
    let next : 1 + i ≡ suc i = omega arith in
    ops_of_at cs (drop 1 vs) i (omega arith) ∙ ap (op_of_code (get_or cs i 0)) (get_or-drop 1 vs i 0 ∙ ap (λ (k : ℕ). get_or vs k 0) next)

module _ (w : List ℕ) where
  pub places_length : length (places_in w) ≡ ops_most
  places_length = ops_of_length (codes_in w) (part w values_at ops_most) ∙ bytes_length ops_most (code_number w)

  pub place_at_lem : (i : ℕ) → i < ops_most → get_or (places_in w) i no_op ≡ op_of_code (get_or (codes_in w) i 0) (get_or w (values_at + i) 0)
  place_at_lem i h =
      ops_of_at (codes_in w) (part w values_at ops_most) i (omega (arith, bytes_length ops_most (code_number w)))
      ∙ ap (op_of_code (get_or (codes_in w) i 0)) (part_get_d w values_at ops_most i h)

-- ---- packed
-- the values of the first i operations
abbrev pub Valued : List ℕ → List ℕ → ℕ → Type 0
Valued ops w i = (j : ℕ) → j < i → to_z w32 (get_or w (2 + j) 0) ≡ (op_at ops j).value

pub valued_next : (ops w : List ℕ) (size : length w ≡ packed_size) (i v p : ℕ) → p ≡ 2 + i → i < ops_most → Valued ops w i → to_z w32 v ≡ (op_at ops i).value → Valued ops (set w p v) (i + 1)
valued_next ops w size i v p at few before is j h = go (eqb j i) refl
  where
    go : (t : Bool) → eqb j i ≡ t → to_z w32 (get_or (set w p v) (2 + j) 0) ≡ (op_at ops j).value
    go true e =
        let same : j ≡ i = eqb-true j i e in
        let here : 2 + j ≡ p = omega arith in
        ap (to_z w32) (ap (λ (k : ℕ). get_or (set w p v) k 0) here ∙ get_or-set_same w p v 0 (omega arith)) ∙ is ∙ ap (λ (k : ℕ). (op_at ops k).value) (sym same)
    go false e =
        let apart : j ≡ i → ⊥ = eqb-false j i e in
        ap (to_z w32) (get_or-set_other w p (2 + j) v 0 (λ z. apart (omega arith))) ∙ before j (omega (arith, apart))

pub packed : (ops w : List ℕ) (size : length w ≡ packed_size) → Valued ops w ops_most → (low high : ℕ)
    → low ≡ code_of (op_at ops 0) + 256 * (code_of (op_at ops 1) + 256 * (code_of (op_at ops 2) + 256 * code_of (op_at ops 3)))
    → high ≡ code_of (op_at ops 4) + 256 * (code_of (op_at ops 5) + 256 * (code_of (op_at ops 6) + 256 * code_of (op_at ops 7)))
    → Packed ops (set (set w 0 low) 1 high)
packed ops w size valued low high l g =
    let u = set w 0 low in
    let first : get_or (set u 1 high) 0 0 ≡ low = get_or-set_other u 1 0 high 0 (λ z. omega arith) ∙ get_or-set_same w 0 low 0 (omega arith) in
    let second : get_or (set u 1 high) 1 0 ≡ high = get_or-set_same u 1 high 0 (omega (arith, length-set w 0 low)) in
    record {
      codes_are = λ i h.
          ap₂ (λ (a b : ℕ). get_or (bytes ops_most (joined a b)) i 0) first second
          ∙ bytes_of_two (λ j. code_of (op_at ops j)) (λ j. omega arith) low high l g i h;
      values_are = λ i h.
          ap (to_z w32) (get_or-set_other u 1 (2 + i) high 0 (λ z. omega arith) ∙ get_or-set_other w 0 (2 + i) low 0 (λ z. omega arith))
          ∙ valued i h;
    }
