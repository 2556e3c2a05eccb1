-- The network after a site's operations: its timestamp is the commit's, and the history is as it was.
use mathlib.Core.Path.{◌≡◌, ap, ◌∙◌}
use mathlib.Core.List.{List}
use Prim.Native.Nat.{ℕ, ◌<◌}
use lib.ListN.{length}
use lib.Seq.{get_or-set_same}
use Rattle.site_operations.specs.Operations.{Op}
use Rattle.site.specs.Site.{Site, committed}
use Rattle.protocol.specs.Network.{Network, no_site, site_at}
use Rattle.protocol.specs.Steps.{record_of}
use Rattle.network_layout.specs.InWords.{network_in, SiteStep}

module _ (w : List ℕ) (i : ℕ) (os : List Op) (there : i < length (network_in w).sites) (v : List ℕ) (s : SiteStep w v i (committed os)) where
  pub stamp_now : (site_at (network_in v) i).stamp ≡ (record_of (network_in w) i os).stamp
  stamp_now =
      let n = network_in w in
      ap (λ (m : Network). (site_at m i).stamp) s.meant ∙ ap (λ (x : Site). x.stamp) (get_or-set_same n.sites i (committed os (site_at n i)) no_site there)

  pub history_now : (network_in v).history ≡ (network_in w).history
  history_now = ap (λ (m : Network). m.history) s.meant
