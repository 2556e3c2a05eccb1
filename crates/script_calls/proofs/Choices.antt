-- What the calls of one number, and those of two, have in common.
use mathlib.Core.Path.{◌≡◌, refl}
use mathlib.Core.Bool.{Bool, true, false}
use mathlib.Core.List.{[]}
use mathlib.Core.Option.{none}
use Prim.Native.Nat.{ℕ}
use Rattle.protocol.specs.Calls.{Outcome, refused, perform}
use Rattle.script_notation.specs.Print.{accepted_text}
use Rattle.script_calls.specs.Chosen.{site_call, pair_call}

-- they need a network
pub site_needs : (b : Bool) (i : ℕ) → perform none (site_call b i) ≡ refused 6 none
unfolding perform
site_needs true i = refl
site_needs false i = refl

pub pair_needs : (b : Bool) (i k : ℕ) → perform none (pair_call b i k) ≡ refused 6 none
unfolding perform
pair_needs true i k = refl
pair_needs false i k = refl

-- those of two print their number alone
pub pair_text : (b : Bool) (i k : ℕ) (o : Outcome) → accepted_text (pair_call b i k) o ≡ []
pair_text true i k o = refl
pair_text false i k o = refl
