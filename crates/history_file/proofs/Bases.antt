-- The base values of a state: as many as it has items, each from its word, and 0 where no record was removed.
use mathlib.Core.Path.{◌≡◌, refl, sym, ap, ap₂, ◌∙◌}
use mathlib.Core.Bool.{true, false}
use mathlib.Core.List.{List, [], ◌∷◌}
use Prim.Native.Nat.{ℕ, ◌+◌, ◌≤◌, ◌<◌}
use native.Mathlib.Omega.{arith}
use lib.IntN.{ℤ, pos, negsuc}
use lib.ListN.{length, get_or, replicate, length-map, get_or-map}
use borrow.Author.Tests.{eqb-true}
use mir.Val.{to_z}
use mir.Syntax.{w32}
use Rattle.words.specs.Words.{part}
use Rattle.words.proofs.Parts.{part_length, part_get_d, part_part}
use Rattle.limits.specs.Limits.{items_most}
use Rattle.lists.specs.Lists.{every}
use Rattle.lists.proofs.Every.{and_true}
use Rattle.site_operations.specs.InWords.{table_in}
use Rattle.protocol.specs.Network.{Network, is_zero}
use Rattle.protocol.proofs.WellShaped.{shape_parts}
use Rattle.network_layout.specs.Layout.{item_count, base_at, base_size, state_size}
use Rattle.network_layout.specs.InWords.{network_in, shaped}
use Rattle.network_layout.proofs.Assembled.{parts_of, range_parts}
use Rattle.network_layout.proofs.Performs.{items_count, shaped_range, shaped_well}

-- ---- values that are all 0
zero_is : (v : ℤ) → is_zero v ≡ true → v ≡ pos 0
zero_is (pos k) e = ap pos (eqb-true k 0 e)
zero_is (negsuc k) e = absurd (let z : ◌≡◌ {A = ℕ} 0 1 = cc in omega arith)

zeros_are : (vs : List ℤ) → every is_zero vs ≡ true → vs ≡ replicate (length vs) (pos 0)
zeros_are [] e = refl
zeros_are (v ∷ vs) e =
    let q = and_true (is_zero v) (every is_zero vs) e in
    ap₂ {C = List ℤ} (λ x l. x ∷ l) (zero_is v q.0) (zeros_are vs q.1)

-- ---- the base of a well-shaped state
module _ (w : List ℕ) (sized : length w ≡ state_size) (e : shaped w ≡ true) where
  abbrev group : Network
  group = network_in w

  few_items : item_count w ≤ items_most
  unfolding parts_of
  few_items = (range_parts w (shaped_range w e)).few_items

  values_are : group.base.values ≡ table_in (part w (base_at + 1) (item_count w))
  unfolding network_in
  values_are = ap table_in (part_part w base_at base_size 1 (item_count w) (omega (arith, few_items)))

  pub values_count : length group.base.values ≡ length group.items
  values_count =
      ap length values_are
      ∙ length-map (part w (base_at + 1) (item_count w)) (to_z w32)
      ∙ part_length w (base_at + 1) (item_count w) (omega (arith, few_items))
      ∙ sym (items_count w 0)

  pub value_at_lem : (x : ℕ) → x < length group.items → get_or group.base.values x (pos 0) ≡ to_z w32 (get_or w (base_at + 1 + x) 0)
  value_at_lem x h =
      ap (λ (vs : List ℤ). get_or vs x (pos 0)) values_are
      ∙ get_or-map (to_z w32) (part w (base_at + 1) (item_count w)) x 0
      ∙ ap (to_z w32) (part_get_d w (base_at + 1) (item_count w) x (omega (arith, items_count w 0)))

  pub values_zero : group.base.folded ≡ false → group.base.values ≡ replicate (length group.items) (pos 0)
  values_zero f =
      let fits : every is_zero group.base.values ≡ true = rw f at (shape_parts group (shaped_well w e)).based in
      zeros_are group.base.values fits ∙ ap (λ (k : ℕ). replicate k (pos 0)) values_count
