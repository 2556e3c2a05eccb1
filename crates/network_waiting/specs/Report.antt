-- What the waiting report answers.
use Rattle.std.specs.Prelude.{◌≡◌, List, [], ℕ, ◌≤◌, length, replicate}
use Rattle.std.specs.declared.result.Result.{Result}
use Rattle.causes.specs.declared.Refusal.{Refusal}
use Rattle.causes.specs.Refusals.{number_of, answered}
use Rattle.limits.specs.Limits.{items_most}
use Rattle.lists.specs.Lists.{padded}
use Rattle.protocol.specs.Network.{no_stamp}
use Rattle.protocol.specs.Questions.{waiting, answer}
use Rattle.protocol.specs.Calls.{ask}
use Rattle.protocol.specs.Waiting.{waiting_items}
use Rattle.network_layout.specs.declared.Report.{Report}
use Rattle.network_layout.specs.InWords.{meaning}
use Rattle.network_layout.specs.Promises.{Performed}

-- the items that are waiting at a site, in order; none where it is refused
abbrev pub report_answer : ℕ → List ℕ → List ℕ
report_answer site w = answer (waiting site) [] (λ n. waiting_items n site) (meaning w)

-- the state is as it was
pub record Reported (site : ℕ) (entry : List ℕ) (r : Result Report Refusal) : Type 0 where
  pub performed : Performed (ask (waiting site)) entry entry (number_of r) 0 no_stamp []
  pub count_is : answered 0 (λ a. a.count) r ≡ length (report_answer site entry)
  pub items_are : answered (replicate items_most 0) (λ a. a.items) r ≡ padded items_most 0 (report_answer site entry)
  pub few : answered 0 (λ a. a.count) r ≤ items_most
