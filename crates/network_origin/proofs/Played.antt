-- What is answered of a read after calls that the code answered is true of it.
use mathlib.Core.Path.{◌≡◌, refl, ap, sym, subst, ◌∙◌}
use mathlib.Core.Bool.{Bool, true, false, cond}
use mathlib.Core.List.{◌∷◌}
use mathlib.Core.Option.{Option, none, some}
use Prim.Native.Nat.{ℕ}
use lib.Dec.{eqb}
use borrow.Author.Tests.{eqb-true}
use Rattle.std.specs.Prelude.{Ok, Err}
use Rattle.causes.specs.declared.Refusal.TheVariants.{NoSuchRead}
use Rattle.protocol.specs.Network.{Network}
use Rattle.protocol.specs.Questions.{origin, question_number}
use Rattle.protocol.specs.Agreement.{nothing_known, Agreement}
use Rattle.origins.specs.Origin.{origin_of}
use Rattle.origins.specs.Statements.{Traced, AllTraced, OriginTrue}
use Rattle.origins.proofs.Traced.{origin_true}
use Rattle.network_layout.specs.declared.Origin.TheVariants.{Start, Folded}
use Rattle.network_layout.specs.InWords.{meaning}
use Rattle.network_layout.specs.Played.{witnessed_all, left_after, PlayedAgreement}
use Rattle.network_layout.proofs.Played.{played_always, one_copy_played, state_left}
use Rattle.network_origin.specs.Answer.{named, origin_in}
use Rattle.network_origin.specs.Played.{Told, PlayedOrigins}

-- ---- what is answered of one network
module _ (n : Network) (k a : ℕ) where
  named_told : (o : Option ℕ) → Traced n k a o → Told n k a (Ok (named n.base.folded o))
  named_told (some m) t = t
  named_told none t = go n.base.folded refl
    where
      go : (b : Bool) → n.base.folded ≡ b → Told n k a (Ok (cond b Folded Start))
      go true e = (e, t.0)
      go false e = t.1 e

  answer_told : (question_number n (origin k a) ≡ 0 → Traced n k a (origin_of n k a)) → Told n k a (origin_in (some n) k a)
  unfolding question_number
  answer_told true_of = go (eqb (question_number n (origin k a)) 0) refl
    where
      go : (b : Bool) → eqb (question_number n (origin k a)) 0 ≡ b → Told n k a (cond b (Ok (named n.base.folded (origin_of n k a))) (Err NoSuchRead))
      go true e = named_told (origin_of n k a) (true_of (eqb-true (question_number n (origin k a)) 0 e))
      go false e = refl

pub origins_played : PlayedOrigins
unfolding PlayedOrigins PlayedAgreement OriginTrue
origins_played w e es sites items primaries masks c z p =
    let known = witnessed_all (nothing_known (meaning w)) (e ∷ es) in
    let agreed : Agreement known = one_copy_played w e es sites items primaries masks c z p in
    let n = agreed.network in
    let meant : meaning (left_after w (e ∷ es)) ≡ some n = sym (state_left w (nothing_known (meaning w)) (e ∷ es) refl) ∙ agreed.state_is in
    let true_of = played_always AllTraced origin_true w e es sites items primaries masks c z p n agreed.state_is in
    record {
      network = n;
      meant = meant;
      told = λ k a r given. subst (Told n k a) (sym (given.origin_is ∙ ap (λ (s : Option Network). origin_in s k a) meant)) (answer_told n k a (true_of k a));
    }
