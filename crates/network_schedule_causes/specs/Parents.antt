-- A site's parents as a mask, and what is asked of a site and of a number that may be a parent's.
use Rattle.std.specs.Prelude.{◌≡◌, List, ℕ, ◌<◌, length}
use Rattle.limits.specs.Limits.{sites_most}
use Rattle.placement.specs.Masks.{mask_of}
use Rattle.placement.specs.Placement.{Item, is_line}
use Rattle.network_layout.specs.InWords.{network_in}
use Rattle.network_layout.specs.At.{AtNetwork}

-- the parents of j, a bit for each
abbrev pub parents_mask : List Item → ℕ → ℕ
parents_mask xs j = mask_of (λ p. is_line xs p j) sites_most

-- ---- what is asked: the words of a network, with
-- site j
pub record AtChild (w : List ℕ) (j : ℕ) : Type 0 where
  pub net : AtNetwork w
  pub there : j < length (network_in w).sites

-- site j, the mask of its parents, and a number p that may be one of them
pub record AtParent (w : List ℕ) (mask p j : ℕ) : Type 0 where
  pub child : AtChild w j
  pub few : p < sites_most
  pub parents : mask ≡ parents_mask (network_in w).items j
