-- The tie to the code: after calls that the code answered from an accepted set-up on, what is answered of a read is true of it.
use Rattle.std.specs.Prelude.{◌≡◌, true, List, ◌∷◌, ℕ, pos, get_or, Ok, Err}
use Rattle.std.specs.declared.result.Result.{Result}
use Rattle.std.proofs.Math.Option.{some}
use Rattle.causes.specs.declared.Refusal.{Refusal}
use Rattle.causes.specs.declared.Refusal.TheVariants.{NoSuchRead}
use Rattle.protocol.specs.Network.{Network}
use Rattle.protocol.specs.Questions.{nth_op}
use Rattle.protocol.specs.Calls.{set_up}
use Rattle.origins.specs.Statements.{Traced}
use Rattle.network_layout.specs.declared.Origin.{Origin}
use Rattle.network_layout.specs.declared.Origin.TheVariants.{Start, Folded, Commit}
use Rattle.network_layout.specs.InWords.{meaning}
use Rattle.network_layout.specs.Played.{Event, Played, left_after}
use Rattle.network_origin.specs.Answer.{OriginAnswered}

-- a refusal is that there is no such read; a start value read is 0; a base value read is the base's, and commits have been removed; the last write of the item in the commit named, in the read's own commit the last before it, has the value read
abbrev pub Told : Network → ℕ → ℕ → Result Origin Refusal → Type 0
Told n k a (Err refusal) = refusal ≡ NoSuchRead
Told n k a (Ok Start) = (nth_op n k a).value ≡ pos 0
Told n k a (Ok Folded) = (n.base.folded ≡ true) × ((nth_op n k a).value ≡ get_or n.base.values (nth_op n k a).item (pos 0))
Told n k a (Ok (Commit m)) = Traced n k a (some m)

-- words that mean a network, and whatever is answered of it
pub record OriginsTold (w : List ℕ) : Type 0 where
  pub network : Network
  pub meant : meaning w ≡ some network
  pub told : (k a : ℕ) (r : Result Origin Refusal) → OriginAnswered k a w r → Told network k a r

-- for all words whatever, a set-up accepted on them, and all calls after it that the code answers
unfoldable pub PlayedOrigins : Type 0
PlayedOrigins =
    (w : List ℕ) (e : Event) (es : List Event) (sites items : ℕ) (primaries masks : List ℕ) → e.call ≡ set_up sites items primaries masks → e.number ≡ 0
    → Played w (e ∷ es) → OriginsTold (left_after w (e ∷ es))
