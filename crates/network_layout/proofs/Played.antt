-- What the code's contracts say of calls made one after another is what the definitions say of them.
use mathlib.Core.Path.{◌≡◌, refl, ap, sym, subst, ◌∙◌}
use mathlib.Core.List.{List, [], ◌∷◌, map}
use mathlib.Core.Option.{Option, none}
use Prim.Native.Nat.{ℕ}
use lib.ListN.{replicate}
use Rattle.protocol.specs.Network.{Network}
use Rattle.protocol.specs.Calls.{Call, set_up, Outcome, perform}
use Rattle.network_layout.specs.InWords.{in_range, shaped, meaning}
use Rattle.network_layout.specs.Promises.{Performed}
use Rattle.protocol.specs.Agreement.{Known, nothing_known, witnessed, learned_all, Always, Agreement, AgreedOrUnset, OneCopyAgreement, FromNothing, No6, Never6, LaterStay, NoneAtOrBefore, KeptRuns, KeptRun, RoundCounts, RoundIsItsCalls, RoundApplies, RoundReaches}
use Rattle.network_layout.specs.Played.{Event, Played, seen_of, witnessed_all, left_after, PlayedAlways, PlayedAgreement, PlayedBeside, PlayedFromNothing}
use Rattle.protocol.proofs.Theorem.{one_copy_agreement, kept_run}
use Rattle.protocol.proofs.Beside.{from_nothing, never_6, none_at_or_before}
use Rattle.protocol.proofs.Applied.{round_is_its_calls, round_reaches}
use Rattle.network_layout.specs.Layout.{state_size}

abbrev calls : List Event → List Call
calls es = map (λ (e : Event). e.call) es

-- a contract kept is the outcome of `perform`
outcome_is : (w : List ℕ) (e : Event) → Performed e.call w e.left e.number e.parent e.stamp e.values → seen_of e ≡ perform (meaning w) e.call
outcome_is w e p =
    λ i. record { number = p.number_is i; parent = p.parent_is i; stamp = p.stamp_is i; values = p.values_are i; after = p.after_is i }

witnessed_is : (w : List ℕ) (k : Known) (es : List Event) → k.state ≡ meaning w → Played w es → witnessed_all k es ≡ learned_all k (calls es)
witnessed_is w k [] s p = refl
witnessed_is w k (e ∷ es) s (p, ps) =
    let same : seen_of e ≡ perform k.state e.call = outcome_is w e p ∙ ap (λ (x : Option Network). perform x e.call) (sym s) in
    witnessed_is e.left (witnessed k e.call (seen_of e)) es refl ps
    ∙ ap (λ (o : Outcome). learned_all (witnessed k e.call o) (calls es)) same

-- what holds after every list of calls holds of those that the code answered
pub played_always : (holds_of : Known → Type 0) → Always holds_of → PlayedAlways holds_of
played_always holds_of theorem w e es sites items primaries masks c z (p, ps) =
    let start = nothing_known (meaning w) in
    let asked : (perform (meaning w) (set_up sites items primaries masks)).number ≡ 0 = ap (λ (x : Call). (perform (meaning w) x).number) (sym c) ∙ sym p.number_is ∙ z in
    subst holds_of (ap (λ (x : Call). learned_all start (x ∷ calls es)) (sym c) ∙ sym (witnessed_is w start (e ∷ es) refl (p, ps)))
    (theorem (meaning w) sites items primaries masks asked (calls es))

pub one_copy_played : PlayedAgreement
unfolding OneCopyAgreement PlayedAgreement
one_copy_played = played_always Agreement one_copy_agreement

pub beside_played : PlayedBeside
unfolding Never6 NoneAtOrBefore KeptRun RoundIsItsCalls RoundReaches
beside_played =
    record {
      never_6 = played_always No6 never_6;
      none_at_or_before = played_always LaterStay none_at_or_before;
      kept_run = played_always KeptRuns kept_run;
      round_is_its_calls = played_always RoundCounts round_is_its_calls;
      round_reaches = played_always RoundApplies round_reaches;
    }

-- the state that is known then is what the words left mean
pub state_left : (w : List ℕ) (k : Known) (es : List Event) → k.state ≡ meaning w → (witnessed_all k es).state ≡ meaning (left_after w es)
state_left w k [] s = s
state_left w k (e ∷ es) s = state_left e.left (witnessed k e.call (seen_of e)) es refl

pub played_from_nothing : PlayedFromNothing
unfolding FromNothing PlayedFromNothing
played_from_nothing w es e p =
    subst AgreedOrUnset (ap (λ (s : Option Network). learned_all (nothing_known s) (calls es)) (sym e) ∙ sym (witnessed_is w (nothing_known (meaning w)) es refl p))
    (from_nothing (calls es))

-- ---- a state that was never set up: words of zeros have no sites
pub zeros_mean_nothing : meaning (replicate state_size 0) ≡ none
unfolding meaning shaped in_range
zeros_mean_nothing = refl
