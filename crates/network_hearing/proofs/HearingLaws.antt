-- What is on the way from one site, by what the line holds; one schedule of several; and all that a site does, part by part.
use mathlib.Core.Path.{◌≡◌, refl, sym, ap, subst, ◌∙◌}
use mathlib.Core.Bool.{Bool, true, false, cond, ◌||◌, true≢false}
use mathlib.Core.List.{List, [], ◌∷◌, ◌++◌}
use mathlib.Core.Option.{some}
use Prim.Native.Nat.{ℕ, suc, ◌-◌, ◌/◌, ◌%◌, ◌<◌}
use native.Mathlib.Omega.{arith}
use lib.ListN.{length, replicate}
use lib.Dec.{eqb}
use borrow.Author.Tests.{eq-eqb, ne_eqb}
use Rattle.std.specs.Prelude.{Ok, Err, is_err}
use Rattle.std.specs.declared.result.Result.{Result}
use Rattle.causes.specs.declared.Refusal.{Refusal}
use Rattle.causes.specs.Refusals.{number_of}
use Rattle.causes.proofs.Refusals.{refusal_some}
use Rattle.limits.specs.Limits.{sites_most}
use Rattle.lists.specs.Lists.{is_empty}
use Rattle.placement.specs.Placement.{is_line}
use Rattle.messages.specs.Messages.{Message}
use Rattle.protocol.specs.Network.{Network, line_number, line_at}
use Rattle.protocol.specs.Steps.{schedule_number, schedule_network}
use Rattle.protocol.specs.Calls.{Call, dummy, deliver, schedule, perform}
use Rattle.protocol.specs.Round.{walked, line_calls, deliver_calls, schedule_calls, schedule_all, site_calls}
use Rattle.protocol.proofs.WellShaped.{Shape}
use Rattle.protocol.proofs.Walks.{judged_number}
use Rattle.network_layout.specs.Layout.{state_size}
use Rattle.network_layout.specs.InWords.{network_in}
use Rattle.network_layout.specs.Promises.{ScheduleAnswered}
use Rattle.network_layout.specs.declared.Scheduled.{Scheduled}
use Rattle.network_hearing.specs.Walked.{Walking, Walked, Left, Scheduling, ScheduledOnce}
use Rattle.network_hearing.proofs.WalkLaws.{number_on, step_walked, all_left, left_first, left_then}

-- ---- one line: where there is none nothing is held
module _ (n : Network) (shape : Shape n) (p j : ℕ) (from : p < sites_most) (to : j < sites_most) (there : line_number p j < length n.lines) where
  abbrev on_way : ℕ
  on_way = length (line_at n p j).messages - (line_at n p j).arrived

  pub line_calls_lem : line_calls j n p ≡ replicate on_way (deliver p j)
  line_calls_lem = go (is_line n.items p j) refl
    where
      empty : (ms : List Message) (b : Bool) → b ≡ false → (is_empty ms || b) ≡ true → length ms ≡ 0
      empty [] b e f = refl
      empty (m ∷ ms) b e f = absurd (true≢false (sym f ∙ e))

      go : (b : Bool) → is_line n.items p j ≡ b → cond b (replicate on_way (deliver p j)) [] ≡ replicate on_way (deliver p j)
      go true e = refl
      go false e =
          let k = line_number p j in
          let first : k / sites_most ≡ p = omega (arith, from, to) in
          let second : k % sites_most ≡ j = omega (arith, from, to) in
          let none = empty (line_at n p j).messages (is_line n.items (k / sites_most) (k % sites_most)) (rw (first, second) e) (shape.lined k there).placed in
          let nothing : 0 ≡ on_way = omega (arith, none) in
          ap (λ (m : ℕ). replicate m (deliver p j)) nothing

-- ---- one schedule
schedule_number_lem : (n : Network) (j : ℕ) → (perform (some n) (schedule j)).number ≡ schedule_number n j
unfolding perform
schedule_number_lem n j = judged_number (schedule_number n j) (some n) _ refl

module _ (n : Network) (j most : ℕ) (some : 0 < most) where
  schedule_calls_lem : (b : Bool) → eqb (schedule_number n j) 0 ≡ b → schedule_calls most n j ≡ cond b (schedule j ∷ schedule_calls (most - 1) (schedule_network n j) j) []
  unfolding schedule_calls
  schedule_calls_lem b e = let more : most ≡ suc (most - 1) = omega arith in ap (λ (m : ℕ). schedule_calls m n j) more ∙ rw e

module _ (w : List ℕ) (j most : ℕ) (s : Scheduling w most j) (v : List ℕ) where
  abbrev n : Network
  n = network_in w

  number_is : (r : Result Scheduled Refusal) → ScheduleAnswered j w v r → number_of r ≡ schedule_number n j
  number_is r done = number_on s.walking.net done.performed ∙ schedule_number_lem n j

  pub schedule_refused : (r : Result Scheduled Refusal) → is_err r ≡ true → ScheduleAnswered j w v r → ScheduledOnce w v most 0 j
  unfolding schedule_calls
  schedule_refused (Ok a) e done = absurd (true≢false (sym e))
  schedule_refused (Err x) e done =
      let none : schedule_calls most n j ≡ [] = schedule_calls_lem n j most s.some false (ne_eqb (schedule_number n j) 0 (λ z. refusal_some x (number_is (Err x) done ∙ z))) in
      subst (λ (u : List ℕ). ScheduledOnce w u most 0 j) (sym (done.performed.kept (refusal_some x)))
      (record { rest = record { walking = record { net = s.walking.net; accepted = tt }; leads = sym (ap (walked n) none) }; fewer = s.some })

  pub schedule_done : (r : Result Scheduled Refusal) → is_err r ≡ false → ScheduleAnswered j w v r → length v ≡ state_size → ScheduledOnce w v most (most - 1) j
  schedule_done (Err x) e done size = absurd (true≢false e)
  schedule_done (Ok a) e done size =
      let then : Network → List Call = λ m. schedule_calls (most - 1) m j in
      let are = schedule_calls_lem n j most s.some true (eq-eqb (schedule_number n j) 0 (sym (number_is (Ok a) done))) in
      let end = walked n (schedule_calls most n j) in
      let left : Left end w (schedule j ∷ then (schedule_network n j)) = subst (Left end w) are (all_left s.walking) in
      let once = left_first (schedule j ∷ []) (then (schedule_network n j)) left in
      record { rest = left_then (schedule j ∷ []) then left v (step_walked once done.performed size); fewer = omega (arith, s.some) }

-- ---- all that a site does, part by part
module _ (w : List ℕ) (j : ℕ) (walking : Walking w (site_calls (network_in w) j)) where
  abbrev behind : Network → List Call
  behind m = schedule_all m j ++ (dummy j ∷ [])

  abbrev start : Network
  start = network_in w

  whole : Left (walked start (site_calls start j)) w (deliver_calls start j ++ behind (walked start (deliver_calls start j)))
  unfolding site_calls
  whole = all_left walking

  pub delivers_first : Walking w (deliver_calls start j)
  delivers_first = left_first (deliver_calls start j) (behind (walked start (deliver_calls start j))) whole

  module _ (v : List ℕ) (delivered : Walked w v (deliver_calls start j)) where
    schedules_left : Left (walked start (site_calls start j)) v (behind (network_in v))
    schedules_left = left_then (deliver_calls start j) behind whole v delivered

    pub schedules_then : Walking v (schedule_all (network_in v) j)
    schedules_then = left_first (schedule_all (network_in v) j) (dummy j ∷ []) schedules_left

    pub dummy_left : (x : List ℕ) → Walked v x (schedule_all (network_in v) j) → Left (walked start (site_calls start j)) x (dummy j ∷ [])
    dummy_left = left_then (schedule_all (network_in v) j) (λ m. dummy j ∷ []) schedules_left
