-- The point of a network: not later than any of its sites, and the timestamp of one of them.
use mathlib.Core.Path.{◌≡◌, sym, subst}
use Prim.Native.Nat.{ℕ, ◌<◌}
use native.Mathlib.Omega.{arith}
use lib.ListN.{length, get_or, length-map, get_or-map}
use Rattle.timestamp_order.specs.Timestamp.{Stamp}
use Rattle.site.specs.Site.{Site}
use Rattle.protocol.specs.Network.{Network, no_stamp, no_site, site_stamps}
use Rattle.protocol.specs.Collect.{point_of}
use Rattle.protocol.proofs.Earliest.{earliest_upto, earliest_one}
use Rattle.protocol.proofs.Places.{place_at, UpTo}
use Rattle.protocol.proofs.Invariant.{stamp_at}

module _ (n : Network) where
  pub stamps_many : length (site_stamps n) ≡ length n.sites
  stamps_many = length-map n.sites (λ (s : Site). s.stamp)

  pub stamps_at : (i : ℕ) → get_or (site_stamps n) i no_stamp ≡ stamp_at n i
  stamps_at i = get_or-map (λ (s : Site). s.stamp) n.sites i no_site

  pub point_upto : (j : ℕ) → j < length n.sites → UpTo n (point_of n) (stamp_at n j)
  point_upto j l = subst (UpTo n (point_of n)) (stamps_at j) (earliest_upto (place_at n) (site_stamps n) j (omega (arith, stamps_many)))

  pub point_one : (P : Stamp → Type 0) → 0 < length n.sites → ((j : ℕ) → j < length n.sites → P (stamp_at n j)) → P (point_of n)
  point_one P some f = earliest_one (place_at n) (site_stamps n) P (omega (arith, stamps_many)) (λ j l. subst P (sym (stamps_at j)) (f j (omega (arith, stamps_many))))
