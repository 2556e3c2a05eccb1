-- What the readers answer: a site's table and timestamp, and a line.
use Rattle.std.specs.Prelude.{◌≡◌, List, [], ℕ, ◌≤◌, ℤ, pos, length, replicate, IfOk}
use Rattle.std.specs.declared.result.Result.{Result}
use Rattle.causes.specs.declared.Refusal.{Refusal}
use Rattle.causes.specs.Refusals.{number_of, answered}
use Rattle.lists.specs.Lists.{padded}
use Rattle.limits.specs.Limits.{items_most, held_most}
use Rattle.timestamp.specs.declared.Timestamp.{Timestamp}
use Rattle.timestamp.specs.Value.{Plain}
use Rattle.timestamp_order.specs.Timestamp.{Stamp}
use Rattle.protocol.specs.Network.{no_stamp, site_at, line_at}
use Rattle.protocol.specs.Questions.{table, stamp, line, answer}
use Rattle.protocol.specs.Calls.{ask}
use Rattle.network_layout.specs.declared.Lined.{Lined}
use Rattle.network_layout.specs.declared.Tabled.{Tabled}
use Rattle.network_layout.specs.InWords.{meaning}
use Rattle.network_layout.specs.Promises.{Performed, answered_stamp}
use Rattle.network_lookup.specs.Lookup.{table_of}

-- ---- a table: a value for each item
abbrev pub table_answer : ℕ → List ℕ → List ℤ
table_answer site w = answer (table site) [] (table_of site) (meaning w)

pub record TableRead (site : ℕ) (entry : List ℕ) (r : Result Tabled Refusal) : Type 0 where
  pub performed : Performed (ask (table site)) entry entry (number_of r) 0 no_stamp []
  pub count_is : answered 0 (λ a. a.count) r ≡ length (table_answer site entry)
  pub values_are : answered (replicate items_most (pos 0)) (λ a. a.values) r ≡ padded items_most (pos 0) (table_answer site entry)

-- ---- a timestamp
abbrev pub stamp_answer : ℕ → List ℕ → Stamp
stamp_answer site w = answer (stamp site) no_stamp (λ n. (site_at n site).stamp) (meaning w)

pub record StampRead (site : ℕ) (entry : List ℕ) (r : Result Timestamp Refusal) : Type 0 where
  pub performed : Performed (ask (stamp site)) entry entry (number_of r) 0 no_stamp []
  pub stamp_is : answered_stamp r ≡ stamp_answer site entry
  pub plain : IfOk r Plain

-- ---- a line: how many messages it holds, and how many of them have arrived
abbrev pub held_answer : ℕ → ℕ → List ℕ → ℕ
held_answer p c w = answer (line p c) 0 (λ n. length (line_at n p c).messages) (meaning w)

abbrev pub arrived_answer : ℕ → ℕ → List ℕ → ℕ
arrived_answer p c w = answer (line p c) 0 (λ n. (line_at n p c).arrived) (meaning w)

pub record LineRead (parent child : ℕ) (entry : List ℕ) (r : Result Lined Refusal) : Type 0 where
  pub performed : Performed (ask (line parent child)) entry entry (number_of r) 0 no_stamp []
  pub held_is : answered 0 (λ a. a.held) r ≡ held_answer parent child entry
  pub arrived_is : answered 0 (λ a. a.arrived) r ≡ arrived_answer parent child entry
  pub few : answered 0 (λ a. a.held) r ≤ held_most
  pub within : answered 0 (λ a. a.arrived) r ≤ answered 0 (λ a. a.held) r
