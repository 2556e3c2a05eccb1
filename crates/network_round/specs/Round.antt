-- What a round promises, what its parts ask of a state's words, and what they leave of them.
use Rattle.std.specs.Prelude.{◌≡◌, List, [], ℕ}
use Rattle.std.specs.declared.result.Result.{Result}
use Rattle.causes.specs.declared.Refusal.{Refusal}
use Rattle.causes.specs.Refusals.{number_of, answered}
use Rattle.protocol.specs.Network.{no_stamp}
use Rattle.protocol.specs.Calls.{round}
use Rattle.protocol.specs.Round.{hear_calls, round_calls, next_epoch, round_number, epoch_by}
use Rattle.network_layout.specs.InWords.{network_in, meaning}
use Rattle.network_layout.specs.At.{PlacesAre}
use Rattle.network_layout.specs.Promises.{Performed}
use Rattle.network_hearing.specs.Walked.{Walking, Walked}

-- the answer and the state's words are those of the definition, and so is the new epoch
pub record RoundAnswered (entry exit : List ℕ) (r : Result ℕ Refusal) : Type 0 where
  pub performed : Performed round entry exit (number_of r) 0 no_stamp []
  pub epoch_is : answered 0 (λ epoch. epoch) r ≡ epoch_by (meaning entry)

-- ---- a round that no cause refuses
pub record RoundReady (w : List ℕ) : Type 0 where
  pub walking : Walking w (round_calls (network_in w))
  pub free : round_number (network_in w) ≡ 0

pub record RoundDone (entry exit : List ℕ) (epoch : ℕ) : Type 0 where
  pub walked : Walked entry exit (round_calls (network_in entry))
  pub epoch_is : epoch ≡ next_epoch (network_in entry)

-- ---- its second part: all sites in the order of their places
pub record HearingAll (w places : List ℕ) : Type 0 where
  pub walking : Walking w (hear_calls (network_in w))
  pub places_are : PlacesAre w places
