-- The tie to the code: calls made one after another on the words of one state, each with what it answered and left.
use Rattle.std.specs.Prelude.{◌≡◌, List, [], ◌∷◌, ℕ, ℤ}
use Rattle.std.proofs.Math.Option.{none}
use Rattle.timestamp_order.specs.Timestamp.{Stamp}
use Rattle.protocol.specs.Calls.{Call, set_up, Outcome}
use Rattle.network_layout.specs.InWords.{meaning}
use Rattle.network_layout.specs.Promises.{Performed}
use Rattle.protocol.specs.Agreement.{Known, nothing_known, witnessed, Agreement, AgreedOrUnset, No6, LaterStay, KeptRuns, RoundCounts, RoundApplies}

-- a call, its answer, and the words of the state after it
pub record Event : Type 0 where
  pub call : Call
  pub number : ℕ
  pub parent : ℕ
  pub stamp : Stamp
  pub values : List ℤ
  pub left : List ℕ

-- each call was given the words that the one before left, and kept its contract: `Performed` is what the contracts of the code say
abbrev pub Played : List ℕ → List Event → Type 0
Played w [] = Unit {0}
Played w (e ∷ es) = Performed e.call w e.left e.number e.parent e.stamp e.values × Played e.left es

-- what was seen of it
abbrev pub seen_of : Event → Outcome
seen_of e = record { number = e.number; parent = e.parent; stamp = e.stamp; values = e.values; after = meaning e.left }

abbrev pub witnessed_all : Known → List Event → Known
witnessed_all k [] = k
witnessed_all k (e ∷ es) = witnessed_all (witnessed k e.call (seen_of e)) es

-- the words that the last one left
abbrev pub left_after : List ℕ → List Event → List ℕ
left_after w [] = w
left_after w (e ∷ es) = left_after e.left es

-- for all words whatever, a set-up accepted on them, and all calls after it that the code answers
abbrev pub PlayedAlways : (Known → Type 0) → Type 0
PlayedAlways holds_of =
    (w : List ℕ) (e : Event) (es : List Event) (sites items : ℕ) (primaries masks : List ℕ) → e.call ≡ set_up sites items primaries masks → e.number ≡ 0
    → Played w (e ∷ es) → holds_of (witnessed_all (nothing_known (meaning w)) (e ∷ es))

unfoldable pub PlayedAgreement : Type 0
PlayedAgreement = PlayedAlways Agreement

-- and beside it: no refusal with 6, no later commit at or before a point, the run over the commits kept, what a round counts as and reaches
pub record PlayedBeside : Type 0 where
  pub never_6 : PlayedAlways No6
  pub none_at_or_before : PlayedAlways LaterStay
  pub kept_run : PlayedAlways KeptRuns
  pub round_is_its_calls : PlayedAlways RoundCounts
  pub round_reaches : PlayedAlways RoundApplies

-- for all words that mean no network, words of zeros among them, and all calls that the code answers
unfoldable pub PlayedFromNothing : Type 0
PlayedFromNothing = (w : List ℕ) (es : List Event) → meaning w ≡ none → Played w es → AgreedOrUnset (witnessed_all (nothing_known (meaning w)) es)
