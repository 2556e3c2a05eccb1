-- The words of the items, two each, one item after another.
use mathlib.Core.Path.{◌≡◌, refl, sym, ap, ap₂, ◌∙◌}
use mathlib.Core.List.{List, [], ◌∷◌, ◌++◌, map, map-append}
use Prim.Native.Nat.{ℕ, zero, suc, ◌+◌, ◌*◌, ◌<◌}
use native.Mathlib.Omega.{arith}
use native.Mathlib.Numerals.{add-one}
use lib.ListN.{length, get_or, take}
use lib.Seq.{take_all}
use Rattle.words.specs.Words.{part, put, chunks, laid}
use Rattle.words.proofs.Parts.{put_here}
use Rattle.words.proofs.Chunks.{chunks_last, chunks_below}
use Rattle.words.proofs.Walks.{laid_in}
use Rattle.limits.specs.Limits.{items_most}
use Rattle.placement.specs.Placement.{Item}
use Rattle.placement.specs.InWords.{item_in, items_in, item_size}
use Rattle.network_layout.specs.Layout.{items_size}
use Rattle.protocol.specs.Steps.{items_of}

-- ---- one more
pub item_next : (w v : List ℕ) (k p m : ℕ) → length w ≡ items_size → k < items_most → v ≡ laid w (2 * k) (p ∷ (m ∷ []))
    → items_in (k + 1) v ≡ items_in k w ++ (record { primary = p; mask = m } ∷ [])
item_next w v k p m size h e =
    let ys : List ℕ = p ∷ (m ∷ []) in
    let at : 2 * k ≡ k * 2 = omega arith in
    let new : List ℕ = put w (k * item_size) item_size ys in
    ap₂ items_in (add-one k) (e ∙ laid_in w (2 * k) ys (omega arith) ∙ ap (λ (j : ℕ). put w j item_size ys) at)
    ∙ ap (map item_in) (chunks_last item_size k new)
    ∙ map-append item_in (chunks item_size k new) (part new (k * item_size) item_size ∷ [])
    ∙ ap₂ {C = List Item} (λ (x : List (List ℕ)) (y : List ℕ). map item_in x ++ (item_in y ∷ []))
    (chunks_below item_size k w (k * item_size) item_size ys (omega arith) (omega arith) refl)
    (put_here w (k * item_size) item_size ys (omega arith) refl)

-- ---- all of them
items_snoc : (ps ms : List ℕ) (i : ℕ) → i < length ps → i < length ms
    → items_of (take (suc i) ps) (take (suc i) ms) ≡ items_of (take i ps) (take i ms) ++ (record { primary = get_or ps i 0; mask = get_or ms i 0 } ∷ [])
items_snoc [] ms i h g = absurd (omega arith)
items_snoc (p ∷ ps) [] i h g = absurd (omega arith)
items_snoc (p ∷ ps) (m ∷ ms) zero h g = refl
items_snoc (p ∷ ps) (m ∷ ms) (suc i) h g = ap {B = List Item} (λ xs. record { primary = p; mask = m } ∷ xs) (items_snoc ps ms i (omega arith) (omega arith))

module _ (ps ms w : List ℕ) (i : ℕ) (same : length ps ≡ length ms) (e : items_in i w ≡ items_of (take i ps) (take i ms)) where
  pub items_next : i < length ps → (v : List ℕ) (m : ℕ) → m ≡ get_or ms i 0 → items_in (i + 1) v ≡ items_in i w ++ (record { primary = get_or ps i 0; mask = m } ∷ [])
      → items_in (i + 1) v ≡ items_of (take (i + 1) ps) (take (i + 1) ms)
  items_next h v m f g =
      g
      ∙ ap₂ {C = List Item} (λ (xs : List Item) (n : ℕ). xs ++ (record { primary = get_or ps i 0; mask = n } ∷ [])) e f
      ∙ sym (items_snoc ps ms i h (omega arith))
      ∙ ap (λ (k : ℕ). items_of (take k ps) (take k ms)) (sym (add-one i))

  pub items_all : i ≡ length ps → items_in (length ps) w ≡ items_of ps ms
  items_all f =
      ap (λ (k : ℕ). items_in k w) (sym f) ∙ e ∙ ap₂ items_of (take_all i ps (omega arith)) (take_all i ms (omega arith))
