-- What each call answers, and what performing one does to a state: a network, or nothing where there is none.
use Rattle.std.specs.Prelude.{◌≡◌, true, cond, List, [], ◌∷◌, ℕ, ◌≤◌, ℤ, length, eqb}
use Rattle.std.proofs.Math.Option.{Option, none, some}
use Rattle.limits.specs.Limits.{sites_most}
use Rattle.timestamp_order.specs.Timestamp.{Stamp}
use Rattle.site_operations.specs.Operations.{values_read}
use Rattle.protocol.specs.Network.{Network, no_stamp, site_at, well_shaped}
use Rattle.protocol.specs.Steps.{set_up_number, set_up_network, ops_of, commit_number, commit_network, record_of, dummy_number, dummy_network, epoch_number, epoch_network, deliver_number, deliver_network, schedule_number, schedule_network, chosen, head_stamp}
use Rattle.protocol.specs.Collect.{collect_number, collect_network}
use Rattle.protocol.specs.Questions.{question_number}
pub use Rattle.protocol.specs.Call.{Call, set_up, commit, dummy, epoch, deliver, schedule, collect, round, ask}
use Rattle.protocol.specs.Round.{is_step, stepped, walked, schedule_all, round_number, round_calls, round_network}

-- what a call answers, fields that it lacks being 0, and the state after it; what a question answers beside its number is not in it, nor is how many commits a collect removed or which epoch a round set
pub record Outcome : Type 0 where
  pub number : ℕ
  pub parent : ℕ
  pub stamp : Stamp
  pub values : List ℤ
  pub after : Option Network

-- refused: its number alone, and the state as it was
abbrev pub refused : ℕ → Option Network → Outcome
refused k s = record { number = k; parent = 0; stamp = no_stamp; values = []; after = s }

-- accepted: the answer's fields, and the network after
abbrev pub accepted : ℕ → Stamp → List ℤ → Network → Outcome
accepted p t vs n = record { number = 0; parent = p; stamp = t; values = vs; after = some n }

abbrev pub judged : ℕ → Option Network → Outcome → Outcome
judged k s o = cond (eqb k 0) o (refused k s)

-- every call but set-up needs a network, and is else refused with 6
unfoldable pub perform : Option Network → Call → Outcome
perform s (set_up sites items ps ms) = judged (set_up_number sites items ps ms) s (accepted 0 no_stamp [] (set_up_network sites ps ms))
perform none (commit i ks is vs) = refused 6 none
perform none (dummy i) = refused 6 none
perform none (epoch i e) = refused 6 none
perform none (deliver p c) = refused 6 none
perform none (schedule j) = refused 6 none
perform none collect = refused 6 none
perform none round = refused 6 none
perform none (ask q) = refused 6 none
perform (some n) (commit i ks is vs) =
    let os = ops_of ks is vs in
    judged (commit_number n i ks is vs) (some n) (accepted 0 (record_of n i os).stamp (values_read (record_of n i os).ops) (commit_network n i os))
perform (some n) (dummy i) = judged (dummy_number n i) (some n) (accepted 0 (site_at (dummy_network n i) i).stamp [] (dummy_network n i))
perform (some n) (epoch i e) = judged (epoch_number n i e) (some n) (accepted 0 no_stamp [] (epoch_network n i e))
perform (some n) (deliver p c) = judged (deliver_number n p c) (some n) (accepted 0 no_stamp [] (deliver_network n p c))
perform (some n) (schedule j) = judged (schedule_number n j) (some n) (accepted (chosen n j) (head_stamp n (chosen n j) j) [] (schedule_network n j))
perform (some n) collect = judged (collect_number n) (some n) (accepted 0 no_stamp [] (collect_network n))
perform (some n) round = judged (round_number n) (some n) (accepted 0 no_stamp [] (round_network n))
perform (some n) (ask q) = judged (question_number n q) (some n) (accepted 0 no_stamp [] n)

-- ---- what is shown of a round's calls
-- an epoch, a delivery, a schedule or a dummy that is accepted and leaves the network that `stepped` has
pub record Passes (n : Network) (c : Call) : Type 0 where
  pub step : is_step c ≡ true
  pub number_is : (perform (some n) c).number ≡ 0
  pub after_is : (perform (some n) c).after ≡ some (stepped n c)

-- so do all of them, one after another
abbrev pub AllPass : Network → List Call → Type 0
AllPass n [] = Unit {0}
AllPass n (c ∷ cs) = Passes n c × AllPass (stepped n c) cs

-- where a round is not refused, none of its calls is
unfoldable pub RoundAccepted : Type 0
RoundAccepted = (n : Network) → well_shaped n ≡ true → length n.sites ≤ sites_most → round_number n ≡ 0 → AllPass n (round_calls n)

-- what ends a site's schedules is a refusal, never the bound on how often
unfoldable pub SchedulesUntilRefused : Type 0
SchedulesUntilRefused = (n : Network) (j : ℕ) → well_shaped n ≡ true → length n.sites ≤ sites_most → schedule_number (walked n (schedule_all n j)) j ≡ 0 → ⊥
