-- A site's words lent by their range, and what a step on them does to the network.
use mathlib.Core.Path.{◌≡◌, sym, subst}
use mathlib.Core.List.{List}
use Prim.Native.Nat.{ℕ, ◌+◌, ◌-◌}
use lib.ListN.{length}
use Rattle.std.specs.declared.ops.Range.{Range}
use Rattle.words.specs.Words.{part, put, Stepped}
use Rattle.site.specs.Site.{Site}
use Rattle.site.specs.InWords.{site_in, site_range, site_size}
use Rattle.protocol.specs.Network.{site_at}
use Rattle.network_layout.specs.InWords.{network_in, SiteStep}
use Rattle.network_layout.specs.At.{AtSite}
use Rattle.network_layout.specs.Lent.{Lent}
use Rattle.network_layout.proofs.AccessLaws.{site_start, site_lent, site_stepped}

module _ (w : List ℕ) (k : ℕ) (h : AtSite w k) (r : Range ℕ) (is : r ≡ record { start = site_start k; end = site_start k + site_size }) where
  pub lent_at : Lent site_size site_in (site_at (network_in w) k) (part w r.start (r.end - r.start))
  lent_at = subst (λ (q : Range ℕ). Lent site_size site_in (site_at (network_in w) k) (part w q.start (q.end - q.start))) (sym is) (site_lent w k h)

  -- the same by the start and the size
  pub lent_from : Lent site_size site_in (site_at (network_in w) k) (part w r.start (r.start + site_size - r.start))
  lent_from = subst (λ (q : Range ℕ). Lent site_size site_in (site_at (network_in w) k) (part w q.start (q.start + site_size - q.start))) (sym is) (site_lent w k h)

  module _ (step : Site → Site) (ys : List ℕ) where
    abbrev Steps : Range ℕ → Type 0
    Steps q =
        let n = q.end - q.start in
        length ys ≡ length (part w q.start n)
        → Stepped site_size site_in site_range step (part w q.start n) ys
        → SiteStep w (put w q.start n ys) k step

    pub stepped_at : Steps r
    stepped_at = subst Steps (sym is) (site_stepped w k h step ys)
