-- Whether words are those of a network, behind a call: it stays so, and an accepted set-up makes it so.
use mathlib.Core.Path.{◌≡◌, refl, sym, ap, ◌∙◌}
use mathlib.Core.Bool.{Bool, true, false, cond}
use mathlib.Core.List.{List, []}
use mathlib.Core.Option.{Option, none, some}
use Prim.Native.Nat.{ℕ}
use lib.IntN.{ℤ}
use lib.Dec.{eqb}
use borrow.Author.Tests.{eqb-true, eqb-false}
use Rattle.timestamp_order.specs.Timestamp.{Stamp}
use Rattle.site_operations.specs.Operations.{values_read}
use Rattle.protocol.specs.Network.{Network, no_stamp, site_at}
use Rattle.protocol.specs.Steps.{set_up_number, set_up_network, ops_of, commit_number, commit_network, record_of, dummy_number, dummy_network, epoch_number, epoch_network, deliver_number, deliver_network, schedule_number, schedule_network, chosen, head_stamp}
use Rattle.protocol.specs.Collect.{collect_number, collect_network}
use Rattle.protocol.specs.Round.{round_number, round_network}
use Rattle.protocol.specs.Questions.{question_number}
use Rattle.protocol.specs.Calls.{Call, set_up, commit, dummy, epoch, deliver, schedule, collect, round, ask, refused, accepted, judged, perform}
use Rattle.network_layout.specs.InWords.{network_in, shaped, meaning}
use Rattle.network_layout.specs.Promises.{Performed}

-- there is a network
abbrev there : Option Network → Bool
there none = false
there (some n) = true

meant : (w : List ℕ) → there (meaning w) ≡ shaped w
unfolding meaning
meant w = go (shaped w)
  where
    go : (b : Bool) → there (cond b (some (network_in w)) none) ≡ b
    go true = refl
    go false = refl

-- accepted or refused
judged_there : (k : ℕ) (s : Option Network) (p : ℕ) (t : Stamp) (vs : List ℤ) (n : Network) → there s ≡ true → there (judged k s (accepted p t vs n)).after ≡ true
judged_there k s p t vs n e = go (eqb k 0)
  where
    go : (b : Bool) → there (cond b (accepted p t vs n) (refused k s)).after ≡ true
    go true = refl
    go false = e

performs_there : (s : Option Network) (call : Call) → there s ≡ true → there (perform s call).after ≡ true
unfolding perform
performs_there s (set_up sites items ps ms) e = judged_there (set_up_number sites items ps ms) s 0 no_stamp [] (set_up_network sites ps ms) e
performs_there none (commit i ks is vs) e = e
performs_there none (dummy i) e = e
performs_there none (epoch i k) e = e
performs_there none (deliver p c) e = e
performs_there none (schedule j) e = e
performs_there none collect e = e
performs_there none round e = e
performs_there none (ask q) e = e
performs_there (some n) (commit i ks is vs) e =
    let r = record_of n i (ops_of ks is vs) in
    judged_there (commit_number n i ks is vs) (some n) 0 r.stamp (values_read r.ops) (commit_network n i (ops_of ks is vs)) e
performs_there (some n) (dummy i) e = judged_there (dummy_number n i) (some n) 0 (site_at (dummy_network n i) i).stamp [] (dummy_network n i) e
performs_there (some n) (epoch i k) e = judged_there (epoch_number n i k) (some n) 0 no_stamp [] (epoch_network n i k) e
performs_there (some n) (deliver p c) e = judged_there (deliver_number n p c) (some n) 0 no_stamp [] (deliver_network n p c) e
performs_there (some n) (schedule j) e = judged_there (schedule_number n j) (some n) (chosen n j) (head_stamp n (chosen n j) j) [] (schedule_network n j) e
performs_there (some n) collect e = judged_there (collect_number n) (some n) 0 no_stamp [] (collect_network n) e
performs_there (some n) round e = judged_there (round_number n) (some n) 0 no_stamp [] (round_network n) e
performs_there (some n) (ask q) e = judged_there (question_number n q) (some n) 0 no_stamp [] n e

pub shape_stays : (entry exit : List ℕ) (call : Call) → shaped entry ≡ true → meaning exit ≡ (perform (meaning entry) call).after → shaped exit ≡ true
shape_stays entry exit call e after = sym (meant exit) ∙ ap there after ∙ performs_there (meaning entry) call (meant entry ∙ e)

pub shape_set_up : {entry exit : List ℕ} {number parent : ℕ} {stamp : Stamp} {values : List ℤ} {formed : Bool} (sites items : ℕ) (ps ms : List ℕ) → formed ≡ shaped entry → Performed (set_up sites items ps ms) entry exit number parent stamp values → cond (eqb number 0) true formed ≡ shaped exit
unfolding perform
shape_set_up {entry} {exit} {number} {formed = formed} sites items ps ms f p = go (eqb number 0) refl
  where
    k : ℕ
    k = set_up_number sites items ps ms

    made : (b : Bool) → eqb k 0 ≡ b → eqb number 0 ≡ true → true ≡ there (perform (meaning entry) (set_up sites items ps ms)).after
    made true e z = rw e
    made false e z = absurd (eqb-false k 0 e (rw e at (sym p.number_is ∙ eqb-true number 0 z)))

    go : (b : Bool) → eqb number 0 ≡ b → cond b true formed ≡ shaped exit
    go true e = made (eqb k 0) refl e ∙ ap there (sym p.after_is) ∙ meant exit
    go false e = f ∙ ap shaped (sym (p.kept (eqb-false number 0 e)))
