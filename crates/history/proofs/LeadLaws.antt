-- The places, the table and the base values of a file, from the bytes that lead its records; and its records, compared by those places.
use mathlib.Core.Path.{◌≡◌, refl, sym, ap, ◌∙◌}
use mathlib.Core.Bool.{Bool, true, false, cond, not, ◌&&◌, ◌||◌, false≢true}
use mathlib.Core.List.{List, ◌∷◌, ◌++◌, map}
use Prim.Native.Nat.{ℕ, zero, suc, ◌+◌, ◌-◌, ◌*◌, ◌/◌, ◌≤◌}
use native.Mathlib.Omega.{arith}
use lib.IntN.{pos}
use lib.ListN.{length, replicate, length-replicate}
use Rattle.words.specs.Words.{part, chunks}
use Rattle.words.proofs.Parts.{part_length}
use Rattle.limits.specs.Limits.{sites_most, items_most}
use Rattle.lists.specs.Lists.{up_to}
use Rattle.timestamp_order.specs.Order.{rank}
use Rattle.history_file.specs.Bytes.{value_size, value_read}
use Rattle.history_file.specs.File.{is_numbers}
use Rattle.history_file.specs.Reading.{sites_read, items_read, has_table, has_base, start_read, table_size, base_size, places_read, base_read, part_read, holds_each, table_fits, records_fill, file_number}
use Rattle.history_file.specs.Promises.{eight, sixty_four}
use Rattle.history_file.proofs.Tables.{rank_numbers, eight_ranks, read_few}
use Rattle.history_file.proofs.Files.{accepted, good_parts, trailed}
use Rattle.history_fields.specs.Asked.{Led}
use Rattle.history.specs.Asked.{Valued}

-- a file that is not refused
pub accepted_led : (b : List ℕ) → file_number b ≡ 0 → Led b
accepted_led b e = let a = accepted b e in record { long = a.long; room = (good_parts b a).room; high = a.high }

pub accepted_valued : (b : List ℕ) → file_number b ≡ 0 → Valued b
accepted_valued b e = record { led = accepted_led b e; few = (trailed b (good_parts b (accepted b e)).trailer_fits_lem).few_items }

-- ---- the table
module _ (b l : List ℕ) (e : l ≡ part b (start_read b) (table_size b)) where
  pub lead_places : eight l ≡ eight (places_read b)
  unfolding places_read
  lead_places = ap eight e ∙ go (has_table b)
    where
      go : (t : Bool) → eight (part b (start_read b) (cond t (sites_read b) 0)) ≡ eight (cond t (part b (start_read b) (sites_read b)) (up_to 0 (sites_read b)))
      go true = refl
      go false = sym (ap (λ (place : ℕ → ℕ). map place (up_to 0 sites_most)) (rank_numbers (sites_read b)))

  abbrev fit : List ℕ → Bool
  fit ps = holds_each ps && not (is_numbers ps)

  pub table_fit : (t : Bool) → t ≡ has_table b → t ≡ true → (r : Bool) → r ≡ fit l → r ≡ table_fits b
  unfolding table_fits places_read
  table_fit t is f r rs = rs ∙ ap fit e ∙ go (has_table b) (sym is ∙ f)
    where
      go : (t : Bool) → t ≡ true → fit (part b (start_read b) (cond t (sites_read b) 0)) ≡ (not t || fit (cond t (part b (start_read b) (sites_read b)) (up_to 0 (sites_read b))))
      go true z = refl
      go false z = absurd (false≢true z)

pub table_none : (b : List ℕ) (t : Bool) → t ≡ has_table b → t ≡ false → true ≡ table_fits b
unfolding table_fits
table_none b t is f = sym (rw (sym is ∙ f))

-- ---- the base values
zeros_append : {A : Type 0} (z : A) (n m : ℕ) → replicate n z ++ replicate m z ≡ replicate (n + m) z
zeros_append z zero m = ap (λ (k : ℕ). replicate k z) (let y : m ≡ 0 + m = omega arith in y)
zeros_append z (suc n) m = ap (λ (l : List _). z ∷ l) (zeros_append z n m) ∙ ap (λ (k : ℕ). replicate k z) (let y : suc (n + m) ≡ suc n + m = omega arith in y)

module _ (b l : List ℕ) (v : Valued b) (e : l ≡ part b (start_read b + table_size b) (base_size b)) where
  base_length : length l ≡ base_size b
  base_length = ap length e ∙ part_length b (start_read b + table_size b) (base_size b) (omega (arith, v.led.room, v.led.high))

  pub base_few : length l ≤ items_most * value_size
  base_few = go (has_base b) base_length
    where
      go : (t : Bool) → length l ≡ cond t (items_read b * value_size) 0 → length l ≤ items_most * value_size
      go true s = omega (arith, v.few)
      go false s = omega arith

  pub base_values : sixty_four (map value_read (chunks value_size (length l / value_size) l)) ≡ sixty_four (base_read b)
  unfolding base_read chunks
  base_values = go (has_base b) base_length e
    where
      go : (t : Bool) → length l ≡ cond t (items_read b * value_size) 0 → l ≡ part b (start_read b + table_size b) (cond t (items_read b * value_size) 0)
          → sixty_four (map value_read (chunks value_size (length l / value_size) l)) ≡ sixty_four (cond t (map value_read (chunks value_size (items_read b) (part b (start_read b + table_size b) (cond t (items_read b * value_size) 0)))) (replicate (items_read b) (pos 0)))
      go true s is = let n : length l / value_size ≡ items_read b = omega arith in λ i. sixty_four (map value_read (chunks value_size (n i) (is i)))
      go false s is =
          let n : length l / value_size ≡ 0 = omega arith in
          let all : items_read b + (items_most - items_read b) ≡ items_most = omega (arith, v.few) in
          let size : items_most - length (replicate (items_read b) (pos 0)) ≡ items_most - items_read b = ap (λ (k : ℕ). items_most - k) (length-replicate (items_read b) (pos 0)) in
          ap (λ (k : ℕ). sixty_four (map value_read (chunks value_size k l))) n
          ∙ sym (ap (λ (k : ℕ). replicate (items_read b) (pos 0) ++ replicate k (pos 0)) size ∙ zeros_append (pos 0) (items_read b) (items_most - items_read b) ∙ ap (λ (k : ℕ). replicate k (pos 0)) all)

-- ---- the records
-- the places that are handed over are as many as the sites, and those behind them are the numbers
pub filled_by : (b ps p : List ℕ) (n s t : ℕ) → sites_read b ≤ sites_most → ps ≡ eight (places_read b) → p ≡ part_read b → s ≡ sites_read b → t ≡ items_read b
    → records_fill (rank ps) s t n p ≡ records_fill (rank (places_read b)) (sites_read b) (items_read b) n (part_read b)
filled_by b ps p n s t few placed parted ss ts =
    let ranks : rank ps ≡ rank (places_read b) = ap rank placed ∙ eight_ranks (places_read b) (omega (arith, read_few b)) in
    λ i. records_fill (ranks i) (ss i) (ts i) n (parted i)
