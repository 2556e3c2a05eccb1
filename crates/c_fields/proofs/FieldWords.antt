-- Words of which the first is written behind the others; and the timestamp of an answer.
use Rattle.std.proofs.Common.{◌≡◌, ◌∙◌, refl, ap, ℕ, suc, ◌≤◌, List, [], ◌∷◌, ◌++◌, length, set, append-nil, arith}
use Rattle.std.specs.Prelude.{Ok, Err}
use Rattle.std.specs.Result.{result_unwrap_or}
use Rattle.std.specs.declared.result.Result.{Result}
use lib.ListN.{drop_of_length-le}
use Rattle.words.specs.Words.{put}
use Rattle.causes.specs.declared.Refusal.{Refusal}
use Rattle.timestamp.specs.declared.Timestamp.{Timestamp}
use Rattle.timestamp.specs.Value.{stamp_of}
use Rattle.protocol.specs.Network.{no_stamp}
use Rattle.network_layout.specs.Promises.{answered_stamp}

pub first_behind : (w ys : List ℕ) (v n : ℕ) → length w ≡ suc (length ys) → length ys ≤ n → set (put w 1 n ys) 0 v ≡ v ∷ ys
first_behind [] ys v n e h = absurd (omega arith)
first_behind (x ∷ w) ys v n e h = ap (λ (l : List ℕ). v ∷ (ys ++ l)) (drop_of_length-le w {i = n} (omega arith)) ∙ ap (λ (l : List ℕ). v ∷ l) (append-nil ys)

-- the timestamp where the call is accepted, and the zero one where it is refused
pub stamp_given : (r : Result Timestamp Refusal) (zero : Timestamp) → stamp_of zero ≡ no_stamp → stamp_of (result_unwrap_or r zero) ≡ answered_stamp r
stamp_given (Ok t) zero is = refl
stamp_given (Err e) zero is = is
