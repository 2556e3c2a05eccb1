-- What the order of the sites answers, of words that are a network's and of others.
use mathlib.Core.Path.{◌≡◌, sym, ◌∙◌}
use mathlib.Core.Bool.{true, false}
use mathlib.Core.List.{List}
use Prim.Native.Nat.{ℕ}
use native.Mathlib.Omega.{arith}
use lib.ListN.{replicate}
use Rattle.std.specs.Prelude.{Ok, Err}
use Rattle.limits.specs.Limits.{sites_most}
use Rattle.causes.specs.declared.Refusal.TheVariants.{NoState}
use Rattle.placement.specs.Places.{places_of}
use Rattle.protocol.specs.Questions.{places, question_number}
use Rattle.network_layout.specs.InWords.{network_in, shaped, number_in}
use Rattle.network_layout.proofs.Performs.{number_shaped, number_unshaped}
use Rattle.network_layout.proofs.Questions.{asked, answered, unanswered}
use Rattle.network_order.specs.Order.{PlacesRead}

module _ (w : List ℕ) where
  -- there is no network: 6
  pub places_refused : shaped w ≡ false → PlacesRead w (Err NoState)
  unfolding question_number
  places_refused none =
      let six : 6 ≡ number_in w (λ n. 0) = number_unshaped w (λ n. 0) none in
      record { performed = asked places w 6 six; places_are = unanswered places w (replicate sites_most 0) (λ n. places_of n.items) (λ z. omega (arith, six, z)) }

  pub places_found : shaped w ≡ true → (found : List ℕ) → found ≡ places_of (network_in w).items → PlacesRead w (Ok found)
  unfolding question_number
  places_found formed found e =
      let zero : number_in w (λ n. 0) ≡ 0 = number_shaped w (λ n. 0) formed in
      record { performed = asked places w 0 (sym zero); places_are = e ∙ answered places w (replicate sites_most 0) (λ n. places_of n.items) zero }
