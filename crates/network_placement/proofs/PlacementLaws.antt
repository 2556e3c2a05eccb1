-- The placement's words as its functions are asked, and whether an operation is wanted.
use mathlib.Core.Path.{◌≡◌, sym, ap, ◌∙◌}
use mathlib.Core.Bool.{Bool, false, ◌&&◌}
use mathlib.Core.List.{List}
use Prim.Native.Nat.{ℕ, ◌<◌, min}
use lib.ListN.{get_or}
use borrow.Author.Tests.{eq-eqb, ne_eqb}
use Rattle.words.specs.Words.{part}
use Rattle.limits.specs.Limits.{items_most}
use Rattle.site_operations.specs.Operations.{Op}
use Rattle.placement.specs.Placement.{Item, no_item, copies}
use Rattle.placement.specs.InWords.{item_at, items_in}
use Rattle.protocol.specs.Steps.{wanted_at}
use Rattle.network_layout.specs.Layout.{item_count, items_at, items_size}
use Rattle.network_layout.specs.InWords.{network_in}
use Rattle.network_layout.specs.At.{AtState}
use Rattle.network_layout.proofs.Performs.{items_asked, item_read}

-- ---- the placement's words and the number of items, as its functions are asked
pub items_lent : (w : List ℕ) → AtState w → (xs : List ℕ) → xs ≡ part w items_at items_size → (n : ℕ) → n ≡ item_count w → items_in (min n items_most) xs ≡ (network_in w).items
items_lent w at xs e n is = ap (items_in (min n items_most)) e ∙ items_asked w at.ranged n is

pub item_lent : (w xs : List ℕ) → xs ≡ part w items_at items_size → (k : ℕ) → k < item_count w → item_at xs k ≡ get_or (network_in w).items k no_item
item_lent w xs e k h = ap (λ (ys : List ℕ). item_at ys k) e ∙ item_read w k h

-- ---- whether an operation is wanted: its kind, and then the copy
module _ (xs : List Item) (j : ℕ) (o : Op) (kind : ℕ) (ke : kind ≡ o.kind) where
  pub other_kind : (kind ≡ 1 → ⊥) → false ≡ wanted_at xs j o
  other_kind h = sym (ap (λ (b : Bool). b && copies xs j o.item) (ne_eqb o.kind 1 (λ e. h (ke ∙ e))))

  pub write_kind : kind ≡ 1 → (item : ℕ) → item ≡ o.item → copies xs j item ≡ wanted_at xs j o
  write_kind h item ie = ap (copies xs j) ie ∙ sym (ap (λ (b : Bool). b && copies xs j o.item) (eq-eqb o.kind 1 (sym ke ∙ h)))
