-- Round: the epoch raised at one site, the site at a place, its two parts one behind the other, and what the call promises.
use mathlib.Core.Path.{◌≡◌, refl, sym, ap, ap₂, subst, ◌∙◌}
use mathlib.Core.Bool.{Bool, true, false, cond, true≢false}
use mathlib.Core.List.{List, [], ◌∷◌, ◌++◌}
use mathlib.Core.Option.{some}
use Prim.Native.Nat.{ℕ, ◌+◌, ◌≤◌, ◌<◌}
use native.Mathlib.Omega.{arith}
use native.Mathlib.Numerals.{add-one}
use lib.ListN.{length, get_or, drop, drop_of_length-le}
use lib.Seq.{drop-cons}
use lib.Dec.{eqb}
use borrow.Author.Tests.{ne_eqb}
use Rattle.std.specs.Prelude.{Ok, Err, IsErrAnd}
use Rattle.std.specs.declared.result.Result.{Result}
use Rattle.causes.specs.declared.Refusal.{Refusal}
use Rattle.causes.specs.declared.Refusal.TheVariants.{NoState}
use Rattle.causes.specs.Refusals.{refusal_number}
use Rattle.causes.proofs.Refusals.{refusal_some}
use Rattle.limits.specs.Limits.{sites_most}
use Rattle.timestamp_order.specs.Order.{rank}
use Rattle.placement.specs.Placement.{items_number, has_parents}
use Rattle.placement.specs.Places.{first_from, place_of, cyclic}
use Rattle.placement.proofs.Places.{placement_parts}
use Rattle.placement.proofs.Groups.{order_full, order_at_lem}
use Rattle.protocol.specs.Network.{Network, no_stamp, well_shaped}
use Rattle.protocol.specs.Steps.{epoch_number}
use Rattle.protocol.specs.Calls.{Call, epoch, round, accepted, perform, RoundAccepted}
use Rattle.protocol.specs.Round.{walked, next_epoch, epoch_calls, raise_calls, hear_calls, sites_in_order, round_calls, round_number, round_network, epoch_by}
use Rattle.protocol.proofs.WellShaped.{shape_parts}
use Rattle.protocol.proofs.Allowed.{epoch_allowed}
use Rattle.protocol.proofs.Walks.{judged_number}
use Rattle.protocol.proofs.Rounds.{round_accepted}
use Rattle.network_layout.specs.Layout.{state_size}
use Rattle.network_layout.specs.InWords.{network_in, shaped, meaning}
use Rattle.network_layout.specs.At.{AtNetwork, PlacesAre}
use Rattle.network_layout.specs.Promises.{Performed}
use Rattle.network_layout.proofs.OnNetwork.{ranged_on, well_on, few_on, refused_on, accepted_on, unshaped}
use Rattle.network_hearing.specs.Walked.{Walking, Walked, Left}
use Rattle.network_hearing.proofs.WalkLaws.{number_on, step_walked, all_left, left_first, left_then}
use Rattle.network_round.specs.Round.{RoundAnswered, RoundReady, RoundDone}

-- ---- where no cause refuses it
pub round_ready : (w : List ℕ) → AtNetwork w → round_number (network_in w) ≡ 0 → RoundReady w
unfolding RoundAccepted
round_ready w net z = record { walking = record { net = net; accepted = round_accepted (network_in w) (well_on w net) (few_on w net) z }; free = z }

-- ---- the epoch at one site
epoch_number_lem : (n : Network) (i e : ℕ) → (perform (some n) (epoch i e)).number ≡ epoch_number n i e
unfolding perform
epoch_number_lem n i e = judged_number (epoch_number n i e) (some n) _ refl

-- at one with parents it is refused, and nothing is changed
pub epoch_walked : {w v : List ℕ} {number : ℕ} (i e : ℕ) → Walking w (epoch_calls e (network_in w) i) → Performed (epoch i e) w v number 0 no_stamp [] → length v ≡ state_size → Walked w v (epoch_calls e (network_in w) i)
epoch_walked {w = w} {v = v} {number = number} i e walking done size = go (has_parents (network_in w).items i) refl walking
  where
    go : (b : Bool) → has_parents (network_in w).items i ≡ b → Walking w (cond b [] (epoch i e ∷ [])) → Walked w v (cond b [] (epoch i e ∷ []))
    go true h a =
        let refuses : number ≡ 0 → ⊥ = λ z. true≢false (sym h ∙ (epoch_allowed (network_in w) i e (sym (number_on a.net done ∙ epoch_number_lem (network_in w) i e) ∙ z)).orphan) in
        subst (λ (x : List ℕ). Walked w x []) (sym (done.kept refuses)) (record { net = a.net; meant = refl })
    go false h a = step_walked a done size

-- ---- the site at a place
module _ (w : List ℕ) (net : AtNetwork w) where
  abbrev n : Network
  n = network_in w

  placed : (items_number (length n.sites) n.items ≡ 0) × (cyclic n.items ≡ false)
  placed = placement_parts (length n.sites) n.items (shape_parts n (well_on w net)).placed

  all_in_order : length (sites_in_order n) ≡ length n.sites
  all_in_order = order_full (length n.sites) n.items (few_on w net) placed.0 placed.1

  -- the site that the code finds by the table is the next in order
  module _ (places : List ℕ) (are : PlacesAre w places) (k s : ℕ) (there : k < length n.sites) (is : s ≡ first_from (λ i. eqb (rank places i) k) 0 sites_most) where
    in_order : (get_or (sites_in_order n) k 0 < length n.sites) × (s ≡ get_or (sites_in_order n) k 0)
    unfolding place_of
    in_order =
        let at = order_at_lem (length n.sites) n.items (few_on w net) placed.0 placed.1 k there in
        (at.0, is ∙ ap (λ (ps : List ℕ). first_from (λ i. eqb (rank ps i) k) 0 sites_most) are ∙ at.1)

    pub site_few : s < sites_most
    site_few = omega (arith, in_order.0, in_order.1, few_on w net)

    pub site_next : drop k (sites_in_order n) ≡ s ∷ drop (k + 1) (sites_in_order n)
    site_next =
        drop-cons (sites_in_order n) k 0 (omega (arith, all_in_order))
        ∙ ap₂ {C = List ℕ} (λ (i m : ℕ). i ∷ drop m (sites_in_order n)) (sym in_order.1) (sym (add-one k))

  pub order_done : (k : ℕ) → length n.sites ≤ k → drop k (sites_in_order n) ≡ []
  order_done k h = drop_of_length-le (sites_in_order n) {i = k} (omega (arith, all_in_order))

-- ---- its two parts
module _ (w : List ℕ) (ready : RoundReady w) where
  abbrev start : Network
  start = network_in w

  abbrev raises : List Call
  raises = raise_calls (next_epoch start) start

  whole : Left (walked start (round_calls start)) w (raises ++ hear_calls (walked start raises))
  unfolding round_calls
  whole = all_left ready.walking

  pub raises_first : (e : ℕ) → e ≡ next_epoch start → Walking w (raise_calls e start)
  raises_first e is = subst (λ (k : ℕ). Walking w (raise_calls k start)) (sym is) (left_first raises (hear_calls (walked start raises)) whole)

  pub hears_left : (e : ℕ) → e ≡ next_epoch start → (v : List ℕ) → Walked w v (raise_calls e start) → Left (walked start (round_calls start)) v (hear_calls (network_in v))
  hears_left e is v raised = left_then raises hear_calls whole v (subst (λ (k : ℕ). Walked w v (raise_calls k start)) is raised)

-- ---- the call on words
module _ (w : List ℕ) where
  pub round_unshaped : shaped w ≡ false → RoundAnswered w w (Err NoState)
  unfolding perform meaning epoch_by
  round_unshaped e = record { performed = unshaped round refl w e; epoch_is = rw e refl }

  module _ (net : AtNetwork w) where
    pub round_refused : (r : Result ℕ Refusal) (x : Refusal) → IsErrAnd r (λ y. y ≡ x) → refusal_number x ≡ round_number (network_in w) → RoundAnswered w w r
    unfolding perform meaning epoch_by
    round_refused (Ok a) x err number = absurd err
    round_refused (Err e) x err number =
        let is = ap refusal_number err ∙ number in
        record {
          performed = refused_on round refl round_number (λ m. accepted 0 no_stamp [] (round_network m)) (λ m. refl) w net (refusal_number e) is (refusal_some e);
          epoch_is = rw (net.formed, ne_eqb (round_number (network_in w)) 0 (λ z. refusal_some e (is ∙ z))) refl;
        }

    pub round_answered : round_number (network_in w) ≡ 0 → (v : List ℕ) (to : ℕ) → RoundDone w v to → RoundAnswered w v (Ok to)
    unfolding perform meaning epoch_by round_network
    round_answered z v to step =
        let n = network_in w in
        let after = step.walked in
        let well : well_shaped (walked n (round_calls n)) ≡ true = ap well_shaped (sym after.meant) ∙ well_on v after.net in
        record {
          performed = accepted_on round refl round_number (λ m. accepted 0 no_stamp [] (round_network m)) (λ m. refl) w net v 0 no_stamp [] (round_network n) z refl (ranged_on v after.net) after.meant well;
          epoch_is = step.epoch_is ∙ sym (rw (net.formed, z) refl);
        }
