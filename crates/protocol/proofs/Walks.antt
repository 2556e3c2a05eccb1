-- Calls one after another: lists of them one behind the other, for each of some numbers, and as they are learned.
use mathlib.Core.Path.{◌≡◌, refl, sym, ap, subst, ◌∙◌}
use mathlib.Core.Bool.{Bool, true, false, cond}
use mathlib.Core.List.{List, [], ◌∷◌, ◌++◌}
use mathlib.Core.Option.{Option, some}
use Prim.Native.Nat.{ℕ}
use lib.Dec.{eqb}
use borrow.Author.Tests.{eq-eqb, eqb-true}
use Rattle.lists.proofs.Folds.{fold_more}
use Rattle.protocol.specs.Network.{Network}
use Rattle.protocol.specs.Steps.{dummy_number, epoch_number, deliver_number, schedule_number}
use Rattle.protocol.specs.Round.{is_step, stepped, walked, one_by_one}
use Rattle.protocol.specs.Calls.{Call, dummy, epoch, deliver, schedule, Outcome, judged, refused, perform, Passes, AllPass}
use Rattle.protocol.specs.Agreement.{Known, learned_alone, learned_each, EachAccepted}

-- ---- one behind the other
pub walked_more : (n : Network) (cs ds : List Call) → walked n (cs ++ ds) ≡ walked (walked n cs) ds
walked_more n cs ds = fold_more stepped n cs ds

pub accepted_more : (n : Network) (cs ds : List Call) → AllPass n cs → AllPass (walked n cs) ds → AllPass n (cs ++ ds)
accepted_more n [] ds a b = b
accepted_more n (c ∷ cs) ds a b = (a.0, accepted_more (stepped n c) cs ds a.1 b)

pub accepted_parts : (n : Network) (cs ds : List Call) → AllPass n (cs ++ ds) → AllPass n cs × AllPass (walked n cs) ds
accepted_parts n [] ds a = (tt, a)
accepted_parts n (c ∷ cs) ds a = let r = accepted_parts (stepped n c) cs ds a.1 in ((a.0, r.0), r.1)

-- ---- an outcome by the call's number
pub judged_number : (m : ℕ) (s : Option Network) (o : Outcome) → o.number ≡ 0 → (judged m s o).number ≡ m
judged_number m s o e = go (eqb m 0) refl
  where
    go : (b : Bool) → eqb m 0 ≡ b → (cond b o (refused m s)).number ≡ m
    go true f = e ∙ sym (eqb-true m 0 f)
    go false f = refl

-- ---- a step that no cause refuses
judged_passes : (n : Network) (c : Call) (k : ℕ) (o : Outcome) → is_step c ≡ true → perform (some n) c ≡ judged k (some n) o → k ≡ 0 → o.number ≡ 0 → o.after ≡ some (stepped n c) → Passes n c
judged_passes n c k o step is z number after =
    let same : perform (some n) c ≡ o = is ∙ ap (λ (b : Bool). cond b o (refused k (some n))) (eq-eqb k 0 z) in
    record { step = step; number_is = ap (λ (x : Outcome). x.number) same ∙ number; after_is = ap (λ (x : Outcome). x.after) same ∙ after }

module _ (n : Network) where
  pub epoch_passes : (i e : ℕ) → epoch_number n i e ≡ 0 → Passes n (epoch i e)
  unfolding perform
  epoch_passes i e z = judged_passes n (epoch i e) _ _ refl refl z refl refl

  pub deliver_passes : (p c : ℕ) → deliver_number n p c ≡ 0 → Passes n (deliver p c)
  unfolding perform
  deliver_passes p c z = judged_passes n (deliver p c) _ _ refl refl z refl refl

  pub schedule_passes : (j : ℕ) → schedule_number n j ≡ 0 → Passes n (schedule j)
  unfolding perform
  schedule_passes j z = judged_passes n (schedule j) _ _ refl refl z refl refl

  pub dummy_passes : (i : ℕ) → dummy_number n i ≡ 0 → Passes n (dummy i)
  unfolding perform
  dummy_passes i z = judged_passes n (dummy i) _ _ refl refl z refl refl

-- ---- for each of some numbers: what holds of a network and the numbers to come is kept by the calls for the first of them
module _ (calls : Network → ℕ → List Call) (Holds : Network → List ℕ → Type 0)
    (keeps : (n : Network) (i : ℕ) (is : List ℕ) → Holds n (i ∷ is) → AllPass n (calls n i) × Holds (walked n (calls n i)) is) where
  pub each_accepted : (n : Network) (is : List ℕ) → Holds n is → AllPass n (one_by_one calls n is)
  each_accepted n [] h = tt
  each_accepted n (i ∷ is) h =
      let r = keeps n i is h in
      accepted_more n (calls n i) (one_by_one calls (walked n (calls n i)) is) r.0 (each_accepted (walked n (calls n i)) is r.1)

  pub each_kept : (n : Network) (is : List ℕ) → Holds n is → Holds (walked n (one_by_one calls n is)) []
  each_kept n [] h = h
  each_kept n (i ∷ is) h =
      let m = walked n (calls n i) in
      let rest = one_by_one calls m is in
      subst (λ (x : Network). Holds x []) (sym (walked_more n (calls n i) rest)) (each_kept m is (keeps n i is h).1)

-- ---- as they are learned
pub accepted_learned : (k : Known) (n : Network) (cs : List Call) → k.state ≡ some n → AllPass n cs → EachAccepted k cs × ((learned_each k cs).state ≡ some (walked n cs))
accepted_learned k n [] is a = (tt, is)
accepted_learned k n (c ∷ cs) is a =
    let after : (learned_alone k c).state ≡ some (stepped n c) = ap (λ (s : Option Network). (perform s c).after) is ∙ a.0.after_is in
    let rest = accepted_learned (learned_alone k c) (stepped n c) cs after a.1 in
    ((ap (λ (s : Option Network). (perform s c).number) is ∙ a.0.number_is, rest.0), rest.1)
