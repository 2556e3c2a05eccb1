-- A record noted for each item that it writes: which of two stays, and what the functions ask.
use Rattle.std.specs.Prelude.{◌≡◌, Bool, not, cond, List, ℕ, length, ltb}
use Rattle.timestamp_order.specs.Timestamp.{Stamp}
use Rattle.timestamp_order.specs.Order.{order_by, is_earlier}
use Rattle.site_operations.specs.Operations.{Op}
use Rattle.site_operations.specs.ChangedItems.{change_item, change_written}
use Rattle.protocol.specs.Network.{Network, nth_record, place_of}
use Rattle.network_layout.specs.InWords.{network_in}
use Rattle.network_layout.specs.At.{AtState, HasRecord, PlacesAre}

-- ---- records are noted by their numbers; a number that no record has stands for none
abbrev pub stamp_at : Network → ℕ → Stamp
stamp_at n r = (nth_record n r).stamp

abbrev pub is_sooner : Network → ℕ → ℕ → Bool
is_sooner n r k = is_earlier (order_by (place_of n.items) (stamp_at n r) (stamp_at n k))

-- r replaces record k where it is earlier; where the latest is sought, which is LATEST of the code, unless it is
abbrev pub replaces : Bool → Network → ℕ → ℕ → Bool
replaces latest n r k = cond latest (not (is_sooner n r k)) (is_sooner n r k)

-- which of the record noted and r is noted then; r where there is none
abbrev pub noted_then : Bool → Network → ℕ → ℕ → ℕ
noted_then latest n noted r = cond (ltb noted (length n.history)) (cond (replaces latest n r noted) r noted) r

-- r noted for item x
abbrev pub note_item : Bool → Network → ℕ → List ℕ → ℕ → List ℕ
note_item latest n r vs x = change_item (λ noted. noted_then latest n noted r) vs x

-- r noted for each item that operations write
abbrev pub note_ops : Bool → Network → ℕ → List ℕ → List Op → List ℕ
note_ops latest n r vs os = change_written (λ noted. noted_then latest n noted r) vs os

-- ---- what is asked
-- the words of a state with record r, and the places of its sites
pub record Noting (w places : List ℕ) (r : ℕ) : Type 0 where
  pub at : AtState w
  pub has : HasRecord w r
  pub places_are : PlacesAre w places

-- the last comparison of r is known: with which record, and whether r replaces it
abbrev pub IsMet : List ℕ → ℕ → Bool → ℕ → Bool → Type 0
IsMet w r latest k told = told ≡ replaces latest (network_in w) r k

-- .. and another is to be made
pub record Meeting (w places : List ℕ) (r noted : ℕ) (latest : Bool) (k : ℕ) (told : Bool) : Type 0 where
  pub has : HasRecord w r
  pub has_noted : HasRecord w noted
  pub met : IsMet w r latest k told
  pub places_are : PlacesAre w places

-- .. or an item is written
pub record Writing (w places : List ℕ) (r : ℕ) (latest : Bool) (k : ℕ) (told : Bool) : Type 0 where
  pub note : Noting w places r
  pub met : IsMet w r latest k told
