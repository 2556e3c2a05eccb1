-- What the contracts of the calls say: the answer and the state's words are those of `perform`, and where it refuses every word is as it came.
use Rattle.std.specs.Prelude.{◌≡◌, List, [], ℕ, ℤ, pos, take, IfOk}
use Rattle.std.specs.declared.result.Result.{Result}
use Rattle.timestamp_order.specs.Timestamp.{Stamp}
use Rattle.timestamp.specs.declared.Timestamp.{Timestamp}
use Rattle.timestamp.specs.Value.{stamp_of, Plain}
use Rattle.limits.specs.Limits.{ops_most}
use Rattle.lists.specs.Lists.{Filled}
use Rattle.causes.specs.declared.Refusal.{Refusal}
use Rattle.causes.specs.Refusals.{number_of, answered}
use Rattle.protocol.specs.Network.{no_stamp}
use Rattle.protocol.specs.Calls.{Call, dummy, schedule, perform}
use Rattle.network_layout.specs.declared.Committed.{Committed}
use Rattle.network_layout.specs.declared.Scheduled.{Scheduled}
use Rattle.network_layout.specs.InWords.{meaning}

pub record Performed (call : Call) (entry exit : List ℕ) (number parent : ℕ) (stamp : Stamp) (values : List ℤ) : Type 0 where
  pub number_is : number ≡ (perform (meaning entry) call).number
  pub parent_is : parent ≡ (perform (meaning entry) call).parent
  pub stamp_is : stamp ≡ (perform (meaning entry) call).stamp
  pub values_are : values ≡ (perform (meaning entry) call).values
  pub after_is : meaning exit ≡ (perform (meaning entry) call).after
  pub kept : (number ≡ 0 → ⊥) → exit ≡ entry

-- ---- the parts of an answer, as the call's promise names them
abbrev pub committed_stamp : Result Committed Refusal → Stamp
committed_stamp r = answered no_stamp (λ a. stamp_of a.stamp) r

-- the first `count` of eight places are the values
abbrev pub committed_values : Result Committed Refusal → List ℤ
committed_values r = answered [] (λ a. take a.count a.values) r

abbrev pub answered_stamp : Result Timestamp Refusal → Stamp
answered_stamp r = answered no_stamp stamp_of r

abbrev pub scheduled_parent : Result Scheduled Refusal → ℕ
scheduled_parent r = answered 0 (λ a. a.parent) r

abbrev pub scheduled_stamp : Result Scheduled Refusal → Stamp
scheduled_stamp r = answered no_stamp (λ a. stamp_of a.stamp) r

-- ---- what the calls answer and leave
pub record CommitAnswered (call : Call) (entry exit : List ℕ) (r : Result Committed Refusal) : Type 0 where
  pub performed : Performed call entry exit (number_of r) 0 (committed_stamp r) (committed_values r)
  pub plain : IfOk r (λ a. Plain a.stamp)
  pub filled : IfOk r (λ a. Filled (pos 0) ops_most a.count a.values)

-- what a dummy at a site answers
pub record DummyAnswered (site : ℕ) (entry exit : List ℕ) (r : Result Timestamp Refusal) : Type 0 where
  pub performed : Performed (dummy site) entry exit (number_of r) 0 (answered_stamp r) []
  pub plain : IfOk r Plain

-- what a schedule at a site answers
pub record ScheduleAnswered (site : ℕ) (entry exit : List ℕ) (r : Result Scheduled Refusal) : Type 0 where
  pub performed : Performed (schedule site) entry exit (number_of r) (scheduled_parent r) (scheduled_stamp r) []
  pub plain : IfOk r (λ a. Plain a.stamp)
