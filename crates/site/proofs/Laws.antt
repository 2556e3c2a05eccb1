-- Laws of a site in words.
use mathlib.Core.Path.{◌≡◌, refl, sym, ap, ap₂, ◌∙◌}
use mathlib.Core.List.{List}
use Prim.Native.Nat.{ℕ, ◌-◌, ◌≤◌}
use native.Mathlib.Omega.{arith}
use lib.IntN.{ℤ}
use lib.ListN.{length, get_or}
use mathlib.Core.Bool.{true}
use borrow.Author.Tests.{le-leb}
use Rattle.words.specs.Words.{part, put, overlaid}
use Rattle.words.proofs.Parts.{part_get_d, part_length, put_here, put_below, put_above}
use Rattle.words.proofs.Steps.{not_stepped}
use Rattle.words.proofs.Walks.{overlaid_same}
use Rattle.timestamp_order.specs.Timestamp.{Stamp, room}
use Rattle.timestamp_words.specs.InWords.{stamp_in, stamp_words, stamp_size}
use Rattle.timestamp_words.proofs.Words.{stamp_front, written_back, words_length}
use Rattle.site_operations.specs.Operations.{Op, worked}
use Rattle.site.specs.Site.{Site}
use Rattle.site.specs.InWords.{table_size, site_in, site_from, site_size, site_range, Changed}
use Rattle.site_operations.specs.InWords.{table_in}

-- ---- its timestamp and its table
pub stamp_law : (w : List ℕ) → stamp_in w ≡ (site_in w).stamp
unfolding site_in
stamp_law w = sym (stamp_front w)

module _ (w : List ℕ) (size : length w ≡ site_size) (ys : List ℕ) where
  pub stamp_put : (s : Stamp) → length ys ≡ stamp_size → ys ≡ overlaid (part w 0 stamp_size) (stamp_words s) → length s.tuples ≤ room
      → site_in (put w 0 stamp_size ys) ≡ record { table = (site_in w).table; stamp = s }
  unfolding site_in
  stamp_put s n e h =
      ap₂ site_from (put_here w 0 stamp_size ys (omega arith) n) (put_above w 0 stamp_size ys (omega arith) n stamp_size table_size (omega arith))
      ∙ ap {B = Site} (λ (x : Stamp). record { table = (site_in w).table; stamp = x }) (ap stamp_in e ∙ written_back (part w 0 stamp_size) s (part_length w 0 stamp_size (omega arith)) h)

  pub table_put : (os : List Op) → length ys ≡ table_size → table_in ys ≡ (worked (table_in (part w stamp_size table_size)) os).table
      → site_in (put w stamp_size table_size ys) ≡ record { table = (worked (site_in w).table os).table; stamp = (site_in w).stamp }
  unfolding site_in
  table_put os n e =
      ap₂ site_from (put_below w stamp_size table_size ys (omega arith) n 0 stamp_size (omega arith)) (put_here w stamp_size table_size ys (omega arith) n)
      ∙ ap {B = Site} (λ (x : List ℤ). record { table = x; stamp = (site_in w).stamp }) e

-- the table of a site, as a part of its words
pub table_law : (w : List ℕ) → table_in (part w stamp_size table_size) ≡ (site_in w).table
unfolding site_in
table_law w = refl

-- a site x whose table is written, y, and whose timestamp is then read and replaced, z
pub stepped : (x y z : Site) (t : List ℤ) (f : Stamp → Stamp) (s s' : Stamp)
    → y ≡ record { table = t; stamp = x.stamp } → s ≡ y.stamp → s' ≡ f s → z ≡ record { table = y.table; stamp = s' } → z ≡ record { table = t; stamp = f x.stamp }
stepped x y z t f s s' e g h k =
    k ∙ ap₂ {C = Site} (λ (a : List ℤ) (b : Stamp). record { table = a; stamp = b }) (ap (λ (v : Site). v.table) e) (h ∙ ap f (g ∙ ap (λ (v : Site). v.stamp) e))

-- a timestamp's words, written to the front, say as many tuples as it has
pub stamp_range_lem : (w : List ℕ) → length w ≡ site_size → (ys : List ℕ) (s : Stamp) → length ys ≡ stamp_size → ys ≡ overlaid (part w 0 stamp_size) (stamp_words s) → length s.tuples ≤ room → site_range (put w 0 stamp_size ys) ≡ true
unfolding site_range stamp_words
stamp_range_lem w size ys s n e h =
    let same : ys ≡ stamp_words s = e ∙ overlaid_same (part w 0 stamp_size) (stamp_words s) (words_length s ∙ sym (part_length w 0 stamp_size (omega arith))) in
    let count : get_or (put w 0 stamp_size ys) 1 0 ≡ length s.tuples
    = sym (part_get_d (put w 0 stamp_size ys) 0 stamp_size 1 (omega arith)) ∙ ap (λ (x : List ℕ). get_or x 1 0) (put_here w 0 stamp_size ys (omega arith) n ∙ same) in
    le-leb (get_or (put w 0 stamp_size ys) 1 0) room (omega arith)

-- ---- what a call leaves
module _ (w : List ℕ) (step : Site → Site) where
  pub changed : (w' : List ℕ) → length w ≡ site_size → site_in w' ≡ step (site_in w) → site_range w' ≡ true → Changed w w' step
  changed w' h e r = record { meant = λ _. e; ranged = λ _ _. r; kept = λ n. absurd (n h) }

  pub unchanged : (length w ≡ site_size → ⊥) → Changed w w step
  unchanged n = not_stepped site_size site_in site_range step w n
