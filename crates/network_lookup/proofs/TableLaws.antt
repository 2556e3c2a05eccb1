-- The values of a table: one more laid down, and those in a site's words.
use mathlib.Core.Path.{◌≡◌, sym, ap, ap₂, ◌∙◌}
use mathlib.Core.List.{List, ◌++◌}
use Prim.Native.Nat.{ℕ, suc, ◌+◌, ◌-◌, ◌<◌}
use native.Mathlib.Omega.{arith}
use native.Mathlib.Numerals.{add-one}
use lib.IntN.{ℤ}
use lib.ListN.{length, get_or, set, take, replicate, length-map}
use lib.Seq.{set_at, append_snoc, take-suc, length-take-le}
use Rattle.lists.specs.Lists.{padded}
use Rattle.words.specs.Words.{part}
use Rattle.words.proofs.Parts.{part_length}
use Rattle.timestamp_words.specs.InWords.{stamp_size}
use Rattle.site.specs.Site.{Site}
use Rattle.site.specs.InWords.{site_in, site_size, table_size}
use Rattle.site_operations.specs.InWords.{table_in}
use Rattle.protocol.specs.Network.{site_at}
use Rattle.network_layout.specs.InWords.{network_in}
use Rattle.network_layout.specs.At.{AtSite}
use Rattle.network_layout.proofs.Performs.{items_count}
use Rattle.network_layout.proofs.Assembled.{parts_of, range_parts}
use Rattle.network_layout.specs.Lent.{Lent}
use Rattle.network_lookup.specs.Lookup.{table_of, Values}

-- ---- values
module _ {A : Type 0} (places : ℕ) (z : A) (vs : List A) (i : ℕ) (there : i < length vs) (few : i < places) where
  -- one value more, in the first place that is not used
  pub padded_next : set (padded places z (take i vs)) i (get_or vs i z) ≡ padded places z (take (i + 1) vs)
  padded_next =
      let rest = replicate (places - suc i) z in
      let size : length (take i vs) ≡ i = length-take-le i vs (omega arith) in
      let size' : length (take (suc i) vs) ≡ suc i = length-take-le (suc i) vs (omega arith) in
      let left : places - length (take i vs) ≡ suc (places - suc i) = omega arith in
      ap (λ (n : ℕ). set (take i vs ++ replicate n z) i (get_or vs i z)) left
      ∙ set_at (take i vs) z rest (get_or vs i z) i size
      ∙ sym (append_snoc (take i vs) (get_or vs i z) rest)
      ∙ ap₂ (λ (xs : List A) (n : ℕ). xs ++ replicate (places - n) z) (sym (take-suc vs i z there)) (sym size')
      ∙ ap (λ (n : ℕ). padded places z (take n vs)) (sym (add-one i))

-- ---- the table in a site's words
module _ (w : List ℕ) (i : ℕ) (at : AtSite w i) (ys : List ℕ) (l : Lent site_size site_in (site_at (network_in w) i) ys) where
  abbrev pub table_words : List ℕ
  table_words = part ys stamp_size (length ys - stamp_size)

  size : length table_words ≡ table_size
  size = part_length ys stamp_size (length ys - stamp_size) (omega (arith, l.sized)) ∙ omega (arith, l.sized)

  lent : table_in table_words ≡ (site_at (network_in w) i).table
  unfolding site_in
  lent =
      let whole : length ys - stamp_size ≡ table_size = omega (arith, l.sized) in
      ap (λ (n : ℕ). table_in (part ys stamp_size n)) whole ∙ ap (λ (s : Site). s.table) l.meant

  module _ (count : ℕ) (placed : count ≡ get_or w 1 0) where
    pub values_there : Values table_words count
    unfolding parts_of
    values_there = let few = (range_parts w at.ranged).few_items in record { there = omega (arith, placed, few, size); few = omega (arith, placed, few) }

    pub table_is : take count (table_in table_words) ≡ table_of i (network_in w)
    table_is = ap₂ {C = List ℤ} (λ (n : ℕ) (vs : List ℤ). take n vs) (placed ∙ sym (items_count w 0)) lent

    pub table_count : count ≡ length (table_of i (network_in w))
    table_count = sym (length-take-le count (table_in table_words) (simp length-map values_there.there)) ∙ ap length table_is
