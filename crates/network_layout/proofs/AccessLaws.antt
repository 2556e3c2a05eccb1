-- A site, a line or a record lent as a part of the state: what is read of it, and what a step on it does to the network.
use mathlib.Core.Path.{◌≡◌, sym, ap, ◌∙◌}
use mathlib.Core.Bool.{true}
use mathlib.Core.List.{List}
use Prim.Native.Nat.{ℕ, ◌+◌, ◌-◌, ◌*◌, ◌≤◌, min}
use native.Mathlib.Omega.{arith}
use lib.ListN.{length, get_or, set}
use Rattle.words.specs.Words.{part, put, Stepped}
use Rattle.words.proofs.Parts.{part_length, lent_part, lent_put, lent_size}
use Rattle.timestamp_order.specs.Timestamp.{Stamp}
use Rattle.site_operations.specs.Operations.{Op}
use Rattle.site.specs.Site.{Site}
use Rattle.site.specs.InWords.{site_in, site_range, site_size}
use Rattle.site_operations.specs.InWords.{ops_in, ops_size}
use Rattle.limits.specs.Limits.{ops_most, sites_most}
use Rattle.lines.specs.Lines.{Line, no_line}
use Rattle.lines.specs.InWords.{line_in, line_range, line_size}
use Rattle.records.specs.InWords.{record_in, record_size, Written}
use Rattle.records.proofs.Laws.{all_coded_same}
use Rattle.protocol.specs.Network.{site_at, with_site, with_line, with_record, nth_record}
use Rattle.network_layout.specs.Layout.{site_count, record_count, sites_at, lines_at, history_at}
use Rattle.network_layout.specs.InWords.{network_in, in_range, SiteStep, LineStep, RecordStep}
use Rattle.network_layout.specs.At.{AtSite, AtLine, AtRoom, HasLine, HasRecord}
use Rattle.network_layout.proofs.Assembled.{parts_of, range_parts, line_read, line_in_range, line_put, line_range_lem, site_read, site_in_range, site_put, site_range_lem, record_read_lem, longer, record_put, record_range_lem}
use Rattle.network_layout.specs.Lent.{Lent}

-- ---- where the words of one thing start, and those words as they are lent
abbrev pub line_start : ℕ → ℕ
line_start k = lines_at + k * line_size

abbrev pub site_start : ℕ → ℕ
site_start k = sites_at + k * site_size

abbrev pub record_start : ℕ → ℕ
record_start k = history_at + k * record_size

module _ (w : List ℕ) (a k : ℕ) where
  abbrev pub lent : List ℕ
  lent = part w a (a + k - a)

  lent_has : a + k ≤ length w → length lent ≡ k
  lent_has fits = ap length (lent_part w a k) ∙ part_length w a k fits

module _ (w : List ℕ) (k : ℕ) where
  pub line_lent : HasLine w k → Lent line_size line_in (get_or (network_in w).lines k no_line) (lent w (line_start k) line_size)
  line_lent h =
      let size = h.sized in
      record {
        sized = lent_has w (line_start k) line_size (omega (arith, h.few));
        meant = ap line_in (lent_part w (line_start k) line_size) ∙ sym (line_read w size k h.few);
      }

  pub record_lent : HasRecord w k → Lent record_size record_in (nth_record (network_in w) k) (lent w (record_start k) record_size)
  record_lent h =
      let size = h.sized in
      record {
        sized = lent_has w (record_start k) record_size (omega (arith, h.few));
        meant = ap record_in (lent_part w (record_start k) record_size) ∙ sym (record_read_lem w size k h.there h.few);
      }

  few_sites : AtSite w k → site_count w ≤ sites_most
  unfolding parts_of
  few_sites h = (range_parts w h.ranged).few_sites

  pub site_lent : AtSite w k → Lent site_size site_in (site_at (network_in w) k) (lent w (site_start k) site_size)
  site_lent h =
      let size = h.sized in
      record {
        sized = lent_has w (site_start k) site_size (omega (arith, h.few));
        meant = ap site_in (lent_part w (site_start k) site_size) ∙ sym (site_read w size (few_sites h) k h.there);
      }

  -- ---- a step on it
  pub line_stepped : AtLine w k → (step : Line → Line) (ys : List ℕ) → length ys ≡ length (lent w (line_start k) line_size)
      → Stepped line_size line_in line_range step (lent w (line_start k) line_size) ys
      → LineStep w (put w (line_start k) (line_start k + line_size - line_start k) ys) k step
  line_stepped h step ys long s =
      let size = h.sized in
      let l = line_lent (record { sized = size; few = h.few }) in
      let fits : length ys ≡ line_size = long ∙ l.sized in
      let held : line_range (lent w (line_start k) line_size) ≡ true
      = ap line_range (lent_part w (line_start k) line_size) ∙ line_in_range w size k h.few h.ranged in
      record {
        meant = ap network_in (lent_put w (line_start k) line_size ys) ∙ line_put w size k h.few ys fits ∙ ap (with_line (network_in w) k) (s.meant l.sized ∙ ap step l.meant);
        ranged = ap in_range (lent_put w (line_start k) line_size ys) ∙ line_range_lem w size k h.few ys fits h.ranged (s.ranged l.sized held);
      }

  pub site_stepped : AtSite w k → (step : Site → Site) (ys : List ℕ) → length ys ≡ length (lent w (site_start k) site_size)
      → Stepped site_size site_in site_range step (lent w (site_start k) site_size) ys
      → SiteStep w (put w (site_start k) (site_start k + site_size - site_start k) ys) k step
  site_stepped h step ys long s =
      let size = h.sized in
      let l = site_lent h in
      let fits : length ys ≡ site_size = long ∙ l.sized in
      let held : site_range (lent w (site_start k) site_size) ≡ true
      = ap site_range (lent_part w (site_start k) site_size) ∙ site_in_range w size (few_sites h) k h.there h.ranged in
      record {
        meant = ap network_in (lent_put w (site_start k) site_size ys) ∙ site_put w size (few_sites h) k h.there ys fits ∙ ap (with_site (network_in w) k) (s.meant l.sized ∙ ap step l.meant);
        ranged = ap in_range (lent_put w (site_start k) site_size ys) ∙ site_range_lem w size (few_sites h) k h.there ys fits h.ranged (s.ranged l.sized held);
      }

  -- a record more, written to the part behind the others
  pub record_added : (site count : ℕ) (stamp : Stamp) (ops : List ℕ) → AtRoom w count (ops_in (min count ops_most) ops) → k ≡ record_count w → length ops ≡ ops_size → (ys : List ℕ)
      → length ys ≡ length (lent w (record_start k) record_size) → Written (lent w (record_start k) record_size) ys site count stamp ops
      → (v : List ℕ) (m : ℕ) → m ≡ record_count w → v ≡ set (put w (record_start k) (record_start k + record_size - record_start k) ys) 2 (m + 1)
      → RecordStep w v (record { site = site; stamp = stamp; ops = ops_in (min count ops_most) ops })
  record_added site count stamp ops h is long ys size' s v m ms f =
      let size = h.sized in
      let inside : record_start k + record_size ≤ length w = omega (arith, h.room) in
      let fits : length ys ≡ record_size = lent_size w (record_start k) record_size ys inside size' in
      let held : length (lent w (record_start k) record_size) ≡ record_size = lent_has w (record_start k) record_size inside in
      let g : v ≡ longer w size h.room ys fits
      = f
      ∙ ap (λ (x : List ℕ). set x 2 (m + 1)) (lent_put w (record_start k) record_size ys ∙ ap (λ (j : ℕ). put w (history_at + j * record_size) record_size ys) is)
      ∙ ap (λ (j : ℕ). set (put w (history_at + record_count w * record_size) record_size ys) 2 (j + 1)) ms in
      record {
        meant = ap network_in g ∙ record_put w size h.room ys fits ∙ ap (with_record (network_in w)) (s.meant held long ∙ ap (λ (os : List Op). record { site = site; stamp = stamp; ops = os }) (all_coded_same (ops_in (min count ops_most) ops) h.fitting));
        ranged = ap in_range g ∙ record_range_lem w size h.room ys fits h.ranged (s.ranged held long h.some h.few);
      }
