-- What the order of a network's sites answers.
use Rattle.std.specs.Prelude.{◌≡◌, List, [], ℕ, replicate}
use Rattle.std.specs.declared.result.Result.{Result}
use Rattle.causes.specs.declared.Refusal.{Refusal}
use Rattle.causes.specs.Refusals.{number_of, answered}
use Rattle.limits.specs.Limits.{sites_most}
use Rattle.placement.specs.Places.{places_of}
use Rattle.protocol.specs.Network.{no_stamp}
use Rattle.protocol.specs.Questions.{places, answer}
use Rattle.protocol.specs.Calls.{ask}
use Rattle.network_layout.specs.InWords.{meaning}
use Rattle.network_layout.specs.Promises.{Performed}

-- the place of each site, zeros where it is refused
abbrev pub places_answer : List ℕ → List ℕ
places_answer w = answer places (replicate sites_most 0) (λ n. places_of n.items) (meaning w)

pub record PlacesRead (entry : List ℕ) (r : Result (List ℕ) Refusal) : Type 0 where
  pub performed : Performed (ask places) entry entry (number_of r) 0 no_stamp []
  pub places_are : answered (replicate sites_most 0) (λ a. a) r ≡ places_answer entry
