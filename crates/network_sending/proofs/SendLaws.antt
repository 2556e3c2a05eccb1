-- A message to the sites of a mask is one to the sites that the mask was made of.
use mathlib.Core.Path.{◌≡◌, ap, ◌∙◌}
use mathlib.Core.Bool.{Bool, ◌&&◌}
use mathlib.Core.List.{List}
use Prim.Native.Nat.{ℕ, ◌<◌}
use lib.ListN.{length}
use lib.Dec.{leb}
use Rattle.limits.specs.Limits.{sites_most, held_most}
use Rattle.lists.proofs.Some.{some_below_same}
use Rattle.placement.specs.Masks.{bit, mask_of}
use Rattle.placement.proofs.Laws.{bit_mask_of}
use Rattle.lines.specs.Lines.{Line}
use Rattle.messages.specs.Messages.{Message}
use Rattle.protocol.specs.Network.{Network, line_at}
use Rattle.protocol.specs.Steps.{some_line_full, sent_to}
use Rattle.protocol.proofs.Sent.{sent_same}

-- ---- a mask for a test of sites
module _ (gets : ℕ → Bool) (mask : ℕ) (is : mask ≡ mask_of gets sites_most) where
  pub mask_gets : (c : ℕ) → c < sites_most → bit mask c ≡ gets c
  mask_gets c h = ap (λ (m : ℕ). bit m c) is ∙ bit_mask_of gets sites_most c h

  pub full_by_mask : (n : Network) (i : ℕ) → some_line_full n i (bit mask) ≡ some_line_full n i gets
  full_by_mask n i =
      some_below_same (λ c. bit mask c && leb held_most (length (line_at n i c).messages)) (λ c. gets c && leb held_most (length (line_at n i c).messages)) sites_most
      (λ c h. ap (λ (b : Bool). b && leb held_most (length (line_at n i c).messages)) (mask_gets c h))

  pub sent_by_mask : (i : ℕ) (m : Message) (ls : List Line) → sent_to (bit mask) i m sites_most ls ≡ sent_to gets i m sites_most ls
  sent_by_mask i m ls = sent_same (bit mask) gets i m sites_most ls mask_gets
