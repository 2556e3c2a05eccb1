-- The tie to the code: lines answered one after another on the words of one state, and the agreement of what they answered.
use Rattle.std.specs.Prelude.{◌≡◌, List, [], ◌∷◌, ℕ, take}
use Rattle.std.proofs.Math.Option.{none, some}
use Rattle.protocol.specs.Calls.{set_up}
use Rattle.protocol.specs.Agreement.{Known, nothing_known, Agreement, AgreedOrUnset}
use Rattle.network_layout.specs.InWords.{meaning}
use Rattle.network_layout.specs.Played.{Event, Played, seen_of, witnessed_all}
use Rattle.script_notation.specs.Parse.{parse}
use Rattle.script_notation.specs.Print.{print}
use Rattle.script_notation.specs.Answers.{Replied}

-- a line, the buffer as it was lent and as it came back, how many of its bytes are the answer, and the words of the state after it
pub record Reply : Type 0 where
  pub text : List ℕ
  pub lent : List ℕ
  pub out : List ℕ
  pub size : ℕ
  pub left : List ℕ

abbrev pub answered : Reply → List ℕ
answered r = take r.size r.out

-- each line was given the words that the one before left, and kept the contract of `script::line`
abbrev pub AllReplied : List ℕ → List Reply → Type 0
AllReplied w [] = Unit {0}
AllReplied w (r ∷ rs) = Replied (parse r.text) w r.left r.lent r.out r.size × AllReplied r.left rs

-- the calls that the lines stand for: a line that is none answered a question mark and left the words; any other printed what its call answered
pub data StandsFor : List ℕ → List Reply → List Event → Type 0 where
  no_line_lem : {w : List ℕ} → StandsFor w [] []
  no_call : {w : List ℕ} {r : Reply} {rs : List Reply} {es : List Event} → parse r.text ≡ none → answered r ≡ 63 ∷ [] → r.left ≡ w
      → StandsFor r.left rs es → StandsFor w (r ∷ rs) es
  a_call : {w : List ℕ} {r : Reply} {rs : List Reply} {e : Event} {es : List Event} → parse r.text ≡ some e.call → answered r ≡ print e.call (seen_of e) → r.left ≡ e.left
      → StandsFor r.left rs es → StandsFor w (r ∷ rs) (e ∷ es)

-- there are such calls, each kept its contract, and a claim holds of what was seen of them
pub record Script (claim : Known → Type 0) (w : List ℕ) (rs : List Reply) : Type 0 where
  pub events : List Event
  pub stands_for : StandsFor w rs events
  pub played : Played w events
  pub claimed : claim (witnessed_all (nothing_known (meaning w)) events)

-- for all words whatever, a line that is a set-up and answered 0, and all lines after it
unfoldable pub ScriptAgreement : Type 0
ScriptAgreement =
    (w : List ℕ) (r : Reply) (rs : List Reply) (sites items : ℕ) (primaries masks : List ℕ) → parse r.text ≡ some (set_up sites items primaries masks) → answered r ≡ 48 ∷ []
    → AllReplied w (r ∷ rs) → Script Agreement w (r ∷ rs)

-- for all words that mean no network, words of zeros among them, and all lines
unfoldable pub ScriptFromNothing : Type 0
ScriptFromNothing = (w : List ℕ) (rs : List Reply) → meaning w ≡ none → AllReplied w rs → Script AgreedOrUnset w rs
