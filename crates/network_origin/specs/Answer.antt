-- What the origin of a read is answered as.
use Rattle.std.specs.Prelude.{◌≡◌, Bool, cond, List, [], ℕ, eqb, Ok, Err}
use Rattle.std.specs.declared.result.Result.{Result}
use Rattle.std.proofs.Math.Option.{Option, none, some}
use Rattle.causes.specs.declared.Refusal.{Refusal}
use Rattle.causes.specs.declared.Refusal.TheVariants.{NoState, NoSuchRead}
use Rattle.causes.specs.Refusals.{number_of}
use Rattle.protocol.specs.Network.{Network, no_stamp}
use Rattle.protocol.specs.Questions.{origin, question_number}
use Rattle.protocol.specs.Calls.{ask}
use Rattle.origins.specs.Origin.{origin_of}
use Rattle.network_layout.specs.declared.Origin.{Origin}
use Rattle.network_layout.specs.declared.Origin.TheVariants.{Start, Folded, Commit}
use Rattle.network_layout.specs.InWords.{meaning}
use Rattle.network_layout.specs.Promises.{Performed}

-- the commit named; where none is, the start value, or folded where commits have been removed
abbrev pub named : Bool → Option ℕ → Origin
named folded none = cond folded Folded Start
named folded (some m) = Commit m

-- refused, or the origin of operation a of commit k
abbrev pub origin_in : Option Network → ℕ → ℕ → Result Origin Refusal
origin_in none k a = Err NoState
origin_in (some n) k a = cond (eqb (question_number n (origin k a)) 0) (Ok (named n.base.folded (origin_of n k a))) (Err NoSuchRead)

-- the state is as it was
pub record OriginAnswered (k a : ℕ) (entry : List ℕ) (r : Result Origin Refusal) : Type 0 where
  pub performed : Performed (ask (origin k a)) entry entry (number_of r) 0 no_stamp []
  pub origin_is : r ≡ origin_in (meaning entry) k a
