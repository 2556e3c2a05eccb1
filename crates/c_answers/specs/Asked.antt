-- What the inner functions ask of the words that they lay an answer into, and the parts of an answer, zeros where it is refused.
use Rattle.std.specs.Prelude.{◌≡◌, Bool, false, List, ℕ, suc, ◌+◌, ◌<◌, ℤ, pos, length, replicate, IfOk}
use Rattle.std.specs.declared.result.Result.{Result}
use Rattle.causes.specs.declared.Refusal.{Refusal}
use Rattle.causes.specs.Refusals.{answered}
use Rattle.limits.specs.Limits.{ops_most, items_most}
use Rattle.timestamp_words.specs.InWords.{stamp_size}
use Rattle.network_layout.specs.declared.Based.{Based}
use Rattle.network_layout.specs.declared.Committed.{Committed}
use Rattle.network_layout.specs.declared.Report.{Report}
use Rattle.network_layout.specs.declared.Tabled.{Tabled}
use Rattle.lists.specs.Lists.{Filled, padded}

-- ---- the parts of an answer
abbrev pub table_count : Result Tabled Refusal → ℕ
table_count r = answered 0 (λ a. a.count) r

abbrev pub table_values : Result Tabled Refusal → List ℤ
table_values r = answered (replicate items_most (pos 0)) (λ a. a.values) r

abbrev pub base_folded : Result Based Refusal → Bool
base_folded r = answered false (λ a. a.folded) r

abbrev pub base_count : Result Based Refusal → ℕ
base_count r = answered 0 (λ a. a.count) r

abbrev pub base_values : Result Based Refusal → List ℤ
base_values r = answered (replicate items_most (pos 0)) (λ a. a.values) r

abbrev pub report_count : Result Report Refusal → ℕ
report_count r = answered 0 (λ a. a.count) r

abbrev pub report_items : Result Report Refusal → List ℕ
report_items r = answered (replicate items_most 0) (λ a. a.items) r

-- ---- what is asked
-- a word for how many there are, and one for each place
pub record ForList (w : List ℕ) (count places : ℕ) : Type 0 where
  pub sized : length w ≡ suc places
  pub few : count < 4294967296

pub record ForReport (w : List ℕ) (given : Result Report Refusal) : Type 0 where
  pub sized : length w ≡ suc items_most
  pub few : report_count given < 4294967296

-- a table's values, and 0 past them
pub record ForTable (w : List ℕ) (given : Result Tabled Refusal) : Type 0 where
  pub sized : length w ≡ suc items_most
  pub values : List ℤ
  pub count_is : table_count given ≡ length values
  pub values_are : table_values given ≡ padded items_most (pos 0) values

-- base values, and 0 past them
pub record ForBase (w : List ℕ) (given : Result Based Refusal) : Type 0 where
  pub sized : length w ≡ suc (suc items_most)
  pub values : List ℤ
  pub count_is : base_count given ≡ length values
  pub values_are : base_values given ≡ padded items_most (pos 0) values

pub record ForCommitted (w : List ℕ) (given : Result Committed Refusal) : Type 0 where
  pub sized : length w ≡ stamp_size + suc ops_most
  pub filled : IfOk given (λ a. Filled (pos 0) ops_most a.count a.values)
