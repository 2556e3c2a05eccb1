-- Set-up: its number, cause by cause, and the call.
use mathlib.Core.Path.{◌≡◌, refl, sym, ap, subst, ◌∙◌}
use mathlib.Core.Bool.{Bool, true, false, not, cond, ◌||◌}
use mathlib.Core.List.{List, [], ◌∷◌}
use Prim.Native.Nat.{ℕ, min}
use native.Mathlib.Omega.{arith}
use lib.ListN.{length}
use lib.Dec.{eqb, ltb}
use borrow.Author.Tests.{ltb-false, eqb-true, not-false, eq-eqb, ne_eqb}
use Rattle.std.specs.Prelude.{IsErrAnd}
use Rattle.std.specs.declared.result.Result.{Result}
use Rattle.causes.specs.declared.Refusal.{Refusal}
use Rattle.causes.specs.Refusals.{refusal_number, number_of}
use Rattle.causes.proofs.Refusals.{refusal_some, passed_on, asked_last}
use Rattle.limits.specs.Limits.{items_most, sites_most}
use Rattle.lists.specs.Numbers.{number_if, first_number, outside}
use Rattle.lists.proofs.Numbers.{first_some, first_none, none_holds, or_false}
use Rattle.placement.specs.Places.{placement_number}
use Rattle.placement.specs.InWords.{items_in}
use Rattle.protocol.specs.Network.{no_stamp}
use Rattle.protocol.specs.Steps.{wrong_items, items_of, set_up_number, set_up_network}
use Rattle.protocol.specs.Calls.{Call, set_up, Outcome, refused, accepted, perform}
use Rattle.protocol.proofs.Allowed.{set_up_allowed}
use Rattle.protocol.proofs.Keeps.{keeps_set_up}
use Rattle.network_layout.specs.Layout.{items_size, state_size}
use Rattle.network_layout.specs.InWords.{meaning}
use Rattle.network_layout.specs.Promises.{Performed}
use Rattle.network_layout.proofs.Performs.{meaning_some}
use Rattle.network_new.specs.New.{new_network, Begun, LayingOut}
use Rattle.network_set_up_counts.specs.Counts.{counts_number}
use Rattle.network_set_up.specs.SetUp.{Paired}

-- ---- the number
-- the first of three, as the first of the first two's and the third
of_three : (x y : Bool) (n : ℕ) → first_number (number_if x 1 ∷ (number_if y 2 ∷ (n ∷ []))) ≡ first_number (first_number (number_if x 1 ∷ (number_if y 2 ∷ [])) ∷ (n ∷ []))
of_three true y n = refl
of_three false true n = refl
of_three false false n = refl

module _ (sites items : ℕ) (ps ms : List ℕ) where
  abbrev counts : ℕ
  counts = counts_number sites items (length ps) (length ms)

  number_is : set_up_number sites items ps ms ≡ first_number (counts ∷ (placement_number sites (items_of ps ms) ∷ []))
  unfolding set_up_number
  number_is = of_three (outside 1 sites_most sites) (wrong_items items (length ps) (length ms)) (placement_number sites (items_of ps ms))

  pub counts_refused : (x : Refusal) → refusal_number x ≡ counts → refusal_number x ≡ set_up_number sites items ps ms
  counts_refused x e = e ∙ sym (number_is ∙ first_some counts (placement_number sites (items_of ps ms) ∷ []) (λ z. refusal_some x (e ∙ z)))

  -- the counts give no cause
  module _ (none : 0 ≡ counts) where
    pub paired : Paired ps ms
    paired =
        let wrong = (none_holds (outside 1 sites_most sites) 0 (number_if (wrong_items items (length ps) (length ms)) 2 ∷ []) (sym none)).1 in
        let e = (none_holds (wrong_items items (length ps) (length ms)) 1 [] wrong).0 in
        let other : List ℕ → Bool = λ l. not (eqb (length l) items) in
        let o = or_false (outside 1 items_most items) (other ps || other ms) e in
        let l = or_false (other ps) (other ms) o.1 in
        let most = ltb-false items_most items (or_false (ltb items 1) (ltb items_most items) o.0).1 in
        let primaries = eqb-true (length ps) items (not-false (eqb (length ps) items) l.0) in
        record { few = omega (arith, most, primaries); same = primaries ∙ sym (eqb-true (length ms) items (not-false (eqb (length ms) items) l.1)) }

    -- the number is that of the placement, as the code asks for it
    pub placed_number : (w : List ℕ) → items_in (length ps) w ≡ items_of ps ms → (k : ℕ) → k ≡ placement_number sites (items_in (min (length ps) items_most) w) → k ≡ set_up_number sites items ps ms
    placed_number w e k f =
        let all : min (length ps) items_most ≡ length ps = omega (arith, paired.few) in
        f
        ∙ ap (λ (n : ℕ). placement_number sites (items_in n w)) all
        ∙ ap (placement_number sites) e
        ∙ sym (number_is ∙ first_none counts (placement_number sites (items_of ps ms) ∷ []) (sym none) ∙ sym (asked_last (placement_number sites (items_of ps ms)) (placement_number sites (items_of ps ms)) refl))

-- ---- the call
outcome_is : (call : Call) (w v : List ℕ) (o : Outcome) → perform (meaning w) call ≡ o → meaning v ≡ o.after → ((o.number ≡ 0 → ⊥) → v ≡ w)
    → Performed call w v o.number o.parent o.stamp o.values
outcome_is call w v o e after kept =
    record {
      number_is = sym (ap (λ (x : Outcome). x.number) e);
      parent_is = sym (ap (λ (x : Outcome). x.parent) e);
      stamp_is = sym (ap (λ (x : Outcome). x.stamp) e);
      values_are = sym (ap (λ (x : Outcome). x.values) e);
      after_is = after ∙ sym (ap (λ (x : Outcome). x.after) e);
      kept = kept;
    }

module _ (sites items : ℕ) (ps ms w : List ℕ) where
  abbrev done : Outcome
  done = accepted 0 no_stamp [] (set_up_network sites ps ms)

  pub set_up_refused : {A : Type 0} (r : Result A Refusal) (x : Refusal) → IsErrAnd r (λ y. y ≡ x) → refusal_number x ≡ set_up_number sites items ps ms → Performed (set_up sites items ps ms) w w (number_of r) 0 no_stamp []
  unfolding perform
  set_up_refused r x err e =
      let k = set_up_number sites items ps ms in
      let o : perform (meaning w) (set_up sites items ps ms) ≡ refused k (meaning w) = ap (λ (b : Bool). cond b done (refused k (meaning w))) (ne_eqb k 0 (λ z. refusal_some x (e ∙ z))) in
      subst (λ (n : ℕ). Performed (set_up sites items ps ms) w w n 0 no_stamp []) (sym (passed_on r x err ∙ e)) (outcome_is (set_up sites items ps ms) w w (refused k (meaning w)) o refl (λ _. refl))

  module _ (placed : List ℕ) (z : set_up_number sites items ps ms ≡ 0) where
    pub may_lay_out : length w ≡ state_size → length placed ≡ items_size → LayingOut w placed sites items
    may_lay_out size placed-size =
        let a = set_up_allowed sites items ps ms z in
        record { sized = size; placed_sized = placed-size; some_sites = a.some_sites; few_sites = a.few_sites; some_items = a.some_items; few_items = a.few_items }

    pub set_up_done : (v : List ℕ) → items_in (length ps) placed ≡ items_of ps ms → Begun v sites (items_in items placed) → Performed (set_up sites items ps ms) w v 0 0 no_stamp []
    unfolding perform set_up_network
    set_up_done v e b =
        let k = set_up_number sites items ps ms in
        let a = set_up_allowed sites items ps ms z in
        let o : perform (meaning w) (set_up sites items ps ms) ≡ done = ap (λ (t : Bool). cond t done (refused k (meaning w))) (eq-eqb k 0 z) in
        let is = b.meant ∙ ap (new_network sites) (ap (λ (n : ℕ). items_in n placed) (sym a.each_primary) ∙ e) in
        outcome_is (set_up sites items ps ms) w v done o (meaning_some v (set_up_network sites ps ms) b.ranged is (keeps_set_up sites items ps ms a)) (λ y. absurd (y refl))
