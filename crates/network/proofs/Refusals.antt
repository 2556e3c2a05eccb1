-- A refused call answers 0 in every field but its number: no timestamp, and a commit no values.
use mathlib.Core.Path.{◌≡◌, refl, sym, ap, ◌∙◌}
use mathlib.Core.Bool.{Bool, true, false, cond}
use mathlib.Core.List.{List, []}
use mathlib.Core.Option.{Option, none, some}
use Prim.Native.Nat.{ℕ}
use lib.IntN.{ℤ}
use lib.Dec.{eqb}
use Rattle.timestamp.specs.declared.Timestamp.{Timestamp}
use Rattle.timestamp_order.specs.Timestamp.{Stamp}
use Rattle.std.specs.declared.result.Result.{Result}
use Rattle.causes.specs.declared.Refusal.{Refusal}
use Rattle.causes.specs.Refusals.{number_of}
use Rattle.protocol.specs.Network.{Network, no_stamp, site_at}
use Rattle.site_operations.specs.Operations.{values_read}
use Rattle.protocol.specs.Steps.{set_up_number, set_up_network, ops_of, record_of, commit_number, commit_network, dummy_number, dummy_network, epoch_number, epoch_network, deliver_number, deliver_network, schedule_number, head_stamp, chosen, schedule_network}
use Rattle.protocol.specs.Collect.{collect_number, collect_network}
use Rattle.protocol.specs.Round.{round_number, round_network}
use Rattle.protocol.specs.Questions.{question_number}
use Rattle.protocol.specs.Calls.{Call, set_up, commit, dummy, epoch, deliver, schedule, collect, round, ask, Outcome, refused, accepted, judged, perform}
use Rattle.network_layout.specs.declared.Committed.{Committed}
use Rattle.network_layout.specs.declared.Scheduled.{Scheduled}
use Rattle.network_layout.specs.InWords.{meaning}
use Rattle.network_layout.specs.Promises.{Performed, CommitAnswered, DummyAnswered, ScheduleAnswered, committed_stamp, committed_values, answered_stamp, scheduled_stamp, scheduled_parent}

judged_refused : (k : ℕ) (s : Option Network) (o : Outcome) → o.number ≡ 0 → ((judged k s o).number ≡ 0 → ⊥) → judged k s o ≡ refused (judged k s o).number s
judged_refused k s o z h = go (eqb k 0) refl
  where
    go : (b : Bool) → eqb k 0 ≡ b → judged k s o ≡ refused (judged k s o).number s
    go true e = absurd (h (ap (λ (b : Bool). (cond b o (refused k s)).number) e ∙ z))
    go false e =
        let is : judged k s o ≡ refused k s = ap (λ (b : Bool). cond b o (refused k s)) e in
        is ∙ ap (λ (n : ℕ). refused n s) (sym (ap (λ (x : Outcome). x.number) is))

performs_refusal : (s : Option Network) (call : Call) → ((perform s call).number ≡ 0 → ⊥) → perform s call ≡ refused (perform s call).number s
unfolding perform
performs_refusal s (set_up sites items ps ms) h = judged_refused (set_up_number sites items ps ms) s (accepted 0 no_stamp [] (set_up_network sites ps ms)) refl h
performs_refusal none (commit i ks is vs) h = refl
performs_refusal none (dummy i) h = refl
performs_refusal none (epoch i e) h = refl
performs_refusal none (deliver p c) h = refl
performs_refusal none (schedule j) h = refl
performs_refusal none collect h = refl
performs_refusal none round h = refl
performs_refusal none (ask q) h = refl
performs_refusal (some n) (commit i ks is vs) h =
    let os = ops_of ks is vs in
    judged_refused (commit_number n i ks is vs) (some n) (accepted 0 (record_of n i os).stamp (values_read (record_of n i os).ops) (commit_network n i os)) refl h
performs_refusal (some n) (dummy i) h = judged_refused (dummy_number n i) (some n) (accepted 0 (site_at (dummy_network n i) i).stamp [] (dummy_network n i)) refl h
performs_refusal (some n) (epoch i e) h = judged_refused (epoch_number n i e) (some n) (accepted 0 no_stamp [] (epoch_network n i e)) refl h
performs_refusal (some n) (deliver p c) h = judged_refused (deliver_number n p c) (some n) (accepted 0 no_stamp [] (deliver_network n p c)) refl h
performs_refusal (some n) (schedule j) h = judged_refused (schedule_number n j) (some n) (accepted (chosen n j) (head_stamp n (chosen n j) j) [] (schedule_network n j)) refl h
performs_refusal (some n) collect h = judged_refused (collect_number n) (some n) (accepted 0 no_stamp [] (collect_network n)) refl h
performs_refusal (some n) round h = judged_refused (round_number n) (some n) (accepted 0 no_stamp [] (round_network n)) refl h
performs_refusal (some n) (ask q) h = judged_refused (question_number n q) (some n) (accepted 0 no_stamp [] n) refl h

-- the parts of an answer, by the values that they mean
module _ (entry exit : List ℕ) where
  refused_zero : (call : Call) (number parent : ℕ) (t : Stamp) (values : List ℤ) → Performed call entry exit number parent t values → (number ≡ 0 → ⊥)
      → (t ≡ no_stamp) × (parent ≡ 0) × (values ≡ [])
  refused_zero call number parent t values p h =
      let o = performs_refusal (meaning entry) call (λ z. h (p.number_is ∙ z)) in
      (p.stamp_is ∙ ap (λ (x : Outcome). x.stamp) o, p.parent_is ∙ ap (λ (x : Outcome). x.parent) o, p.values_are ∙ ap (λ (x : Outcome). x.values) o)

  pub commit_refused_zero : (call : Call) (r : Result Committed Refusal) → CommitAnswered call entry exit r → (number_of r ≡ 0 → ⊥)
      → (committed_stamp r ≡ no_stamp) × (committed_values r ≡ [])
  commit_refused_zero call r a h =
      let zero = refused_zero call (number_of r) 0 (committed_stamp r) (committed_values r) a.performed h in
      (zero.0, zero.2)

  pub dummy_refused_zero : (site : ℕ) (r : Result Timestamp Refusal) → DummyAnswered site entry exit r → (number_of r ≡ 0 → ⊥) → answered_stamp r ≡ no_stamp
  dummy_refused_zero site r a h = (refused_zero (dummy site) (number_of r) 0 (answered_stamp r) [] a.performed h).0

  pub schedule_refused_zero : (site : ℕ) (r : Result Scheduled Refusal) → ScheduleAnswered site entry exit r → (number_of r ≡ 0 → ⊥)
      → (scheduled_stamp r ≡ no_stamp) × (scheduled_parent r ≡ 0)
  schedule_refused_zero site r a h =
      let zero = refused_zero (schedule site) (number_of r) (scheduled_parent r) (scheduled_stamp r) [] a.performed h in
      (zero.0, zero.1)
