-- What leads the file of a network: its bytes, how many they are, and the flags that say so.
use mathlib.Core.Path.{◌≡◌, refl, sym, ap, ap₂, ◌∙◌}
use mathlib.Core.Bool.{Bool, true, false, not, cond}
use mathlib.Core.List.{List, [], map}
use Prim.Native.Nat.{ℕ, ◌+◌, ◌*◌, ◌≤◌, ◌<◌}
use native.Mathlib.Omega.{arith}
use lib.IntN.{pos}
use lib.ListN.{length, get_or, take, length-append, length-map}
use lib.Seq.{take-length}
use lib.Dec.{eqb}
use borrow.Author.Tests.{ne_eqb}
use mir.Val.{to_z, of_z}
use mir.ValLaws.{of_z-to_z}
use mir.Syntax.{w32}
use Rattle.words.proofs.Parts.{part_get_d}
use Rattle.limits.specs.Limits.{sites_most, items_most}
use Rattle.placement.specs.Places.{places_of}
use Rattle.protocol.specs.Network.{Network}
use Rattle.network_layout.specs.Layout.{base_at, base_size}
use Rattle.network_layout.specs.InWords.{network_in}
use Rattle.network_layout.specs.At.{AtNetwork}
use Rattle.network_layout.proofs.Assembled.{parts_of, range_parts}
use Rattle.network_layout.proofs.Performs.{items_count, shaped_range}
use Rattle.history_file.specs.Bytes.{byte, little, value_size, value_bytes, joined}
use Rattle.history_file.specs.File.{is_numbers, table_lead, base_lead, lead, flag}
use Rattle.history_file.proofs.Tables.{bytes_back, table_length, table_low}
use Rattle.history_file.proofs.Written.{values_size}
use Rattle.history_file.proofs.Bases.{values_count, value_at_lem}
use Rattle.history_file.proofs.Exports.{state_few, state_some, state_places}
use Rattle.history_lead.specs.declared.Lead.{Lead}
use Rattle.history_lead.specs.Leads.{own, Leads, Few}

-- the word that says whether a record was removed
pub folded_is : (w : List ℕ) → (network_in w).base.folded ≡ not (eqb (get_or w base_at 0) 0)
unfolding network_in
folded_is w =
    let first : base_at + 0 ≡ base_at = omega arith in
    ap (λ (k : ℕ). not (eqb k 0)) (part_get_d w base_at base_size 0 (omega arith) ∙ ap (λ (k : ℕ). get_or w k 0) first)

module _ (w : List ℕ) (there : AtNetwork w) where
  abbrev group : Network
  group = network_in w

  some_items : 1 ≤ length group.items
  unfolding parts_of
  some_items = omega (arith, items_count w 0, (range_parts w (shaped_range w there.formed)).some_items)

  pub few_items : length group.items ≤ items_most
  unfolding parts_of
  few_items = omega (arith, items_count w 0, (range_parts w (shaped_range w there.formed)).few_items)

  -- the four bytes of base value x
  pub value_bytes_lem : (x : ℕ) → x < length group.items → (v : ℕ) → v ≡ get_or w (base_at + 1 + x) 0 → v < 4294967296 → little v ≡ value_bytes (get_or group.base.values x (pos 0))
  unfolding value_bytes
  value_bytes_lem x h v e fits =
      ap little (sym (of_z-to_z w32 v (record { fits = fits })) ∙ ap (λ (k : ℕ). of_z w32 (to_z w32 k)) e) ∙ ap value_bytes (sym (value_at_lem w there.sized there.formed x h))

  -- ---- all of them or none
  module _ (given : Lead) (l : Leads w given) where
    abbrev t : ℕ
    t = given.table

    abbrev v : ℕ
    v = given.values

    pub few_held : v ≤ length group.items
    few_held = go (own w).folded l.values_are
      where
        go : (b : Bool) → v ≡ cond b (own w).items 0 → v ≤ length group.items
        go true e = omega arith
        go false e = omega arith

    pub few : Few given
    few = record { few_places = go (is_numbers (own w).places) l.table_is; few_values = omega (arith, few_held, few_items) }
      where
        go : (b : Bool) → t ≡ cond b 0 (own w).sites → t ≤ sites_most
        go true e = omega arith
        go false e = omega (arith, state_few w there.formed)

    pub table_is : take t given.places ≡ table_lead (own w)
    table_is = ap₂ (λ (k : ℕ) (ps : List ℕ). take k ps) l.table_is l.places_are ∙ go (is_numbers (own w).places)
      where
        go : (b : Bool) → take (cond b 0 (own w).sites) (places_of group.items) ≡ cond b [] (map byte (own w).places)
        go true = refl
        go false = sym (bytes_back (own w).places (table_low (own w).sites group.items (state_few w there.formed) (state_places w there.formed)))

    pub base_is : joined value_bytes (take v group.base.values) ≡ base_lead (own w)
    base_is = ap (λ (k : ℕ). joined value_bytes (take k group.base.values)) l.values_are ∙ go (own w).folded
      where
        go : (b : Bool) → joined value_bytes (take (cond b (own w).items 0) group.base.values) ≡ cond b (joined value_bytes group.base.values) []
        go true = ap (joined value_bytes) (ap (λ (k : ℕ). take k group.base.values) (sym (values_count w there.sized there.formed)) ∙ take-length group.base.values)
        go false = refl

    pub table_size_lem : length (table_lead (own w)) ≡ t
    table_size_lem = sym (l.table_is ∙ go (is_numbers (own w).places))
      where
        go : (b : Bool) → cond b 0 (own w).sites ≡ length (cond b [] (map byte (own w).places))
        go true = refl
        go false = sym (length-map (own w).places byte ∙ table_length (own w).sites group.items (state_few w there.formed) (state_places w there.formed))

    base_size_lem : length (base_lead (own w)) ≡ v * value_size
    base_size_lem = sym (ap (λ (k : ℕ). k * value_size) l.values_are ∙ go (own w).folded)
      where
        go : (b : Bool) → cond b (own w).items 0 * value_size ≡ length (cond b (joined value_bytes (own w).base) [])
        go true = sym (values_size (own w).base ∙ ap (λ (k : ℕ). k * value_size) (values_count w there.sized there.formed))
        go false = refl

    pub lead_size_lem : t + v * value_size ≡ length (lead (own w))
    unfolding lead
    lead_size_lem = sym (length-append (table_lead (own w)) (base_lead (own w)) ∙ ap₂ (λ (k n : ℕ). k + n) table_size_lem base_size_lem)

    pub lead_flag : cond (eqb t 0) 0 1 + cond (eqb v 0) 0 2 ≡ flag (own w)
    unfolding flag
    lead_flag = ap₂ (λ (k n : ℕ). cond (eqb k 0) 0 1 + cond (eqb n 0) 0 2) l.table_is l.values_are ∙ ap₂ (λ (k n : ℕ). k + n) (table (is_numbers (own w).places)) (values (own w).folded)
      where
        table : (b : Bool) → ◌≡◌ {A = ℕ} (cond (eqb (cond b 0 (own w).sites) 0) 0 1) (cond b 0 1)
        table true = refl
        table false = ap (λ (b : Bool). cond b 0 1) (ne_eqb (own w).sites 0 (λ z. omega (arith, state_some w there.formed)))

        values : (b : Bool) → ◌≡◌ {A = ℕ} (cond (eqb (cond b (own w).items 0) 0) 0 2) (cond b 2 0)
        values true = ap (λ (b : Bool). cond b 0 2) (ne_eqb (own w).items 0 (λ z. omega (arith, some_items)))
        values false = refl
