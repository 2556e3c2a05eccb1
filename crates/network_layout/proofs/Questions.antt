-- A call that only looks: its contract from its number alone, and what it answers of the words.
use mathlib.Core.Path.{◌≡◌, refl, sym, ap, ◌∙◌}
use mathlib.Core.Bool.{Bool, true, false, cond}
use mathlib.Core.List.{List, []}
use Prim.Native.Nat.{ℕ}
use native.Mathlib.Omega.{arith}
use lib.ListN.{length}
use lib.Dec.{eqb}
use borrow.Author.Tests.{eqb-true, eqb-false, eq-eqb, ne_eqb}
use Rattle.protocol.specs.Network.{Network, no_stamp}
use Rattle.protocol.specs.Questions.{Question, asked_site, question_number, answer}
use Rattle.protocol.specs.Calls.{ask, accepted, perform}
use Rattle.network_layout.specs.Layout.{state_size}
use Rattle.network_layout.specs.At.{AtSite}
use Rattle.network_layout.specs.InWords.{network_in, shaped, meaning, number_in}
use Rattle.network_layout.specs.Promises.{Performed}
use Rattle.network_layout.proofs.Performs.{shaped_range, shaped_well, number_none, number_shaped, performs_refused, performs_accepted, meaning_some, site_below, site_found}

module _ (q : Question) (w : List ℕ) where
  abbrev number : Network → ℕ
  number n = question_number n q

  pub asked : (r : ℕ) → r ≡ number_in w number → Performed (ask q) w w r 0 no_stamp []
  unfolding perform
  asked r e = go (eqb r 0) refl
    where
      go : (b : Bool) → eqb r 0 ≡ b → Performed (ask q) w w r 0 no_stamp []
      go false h = performs_refused (ask q) number (λ n. accepted 0 no_stamp [] n) (λ n. refl) refl w r e (eqb-false r 0 h)
      go true h =
          let zero : r ≡ 0 = eqb-true r 0 h in
          let none : number_in w number ≡ 0 = sym e ∙ zero in
          let well : shaped w ≡ true = (number_none w number none).0 in
          rw zero
          (performs_accepted (ask q) number (λ n. accepted 0 no_stamp [] n) (λ n. refl) refl w w 0 no_stamp [] none refl refl refl refl
          (meaning_some w (network_in w) (shaped_range w well) refl (shaped_well w well)))

  module _ {A : Type 0} (nothing : A) (of : Network → A) where
    pub answered : number_in w number ≡ 0 → of (network_in w) ≡ answer q nothing of (meaning w)
    unfolding answer meaning
    answered z =
        let found = number_none w number z in
        rw found.0 (sym (ap (λ (b : Bool). cond b (of (network_in w)) nothing) (eq-eqb (number (network_in w)) 0 found.1)))

    pub unanswered : (number_in w number ≡ 0 → ⊥) → nothing ≡ answer q nothing of (meaning w)
    unfolding answer meaning
    unanswered h = go (shaped w) refl
      where
        go : (b : Bool) → shaped w ≡ b → nothing ≡ answer q nothing of (meaning w)
        go true e = rw e (sym (ap (λ (b : Bool). cond b (of (network_in w)) nothing) (ne_eqb (number (network_in w)) 0 (λ z. h (number_shaped w number e ∙ z)))))
        go false e = rw e refl

-- the site that a question asks for is there, by the number that the code counts with
pub site_asked : (w : List ℕ) → length w ≡ state_size → (i k : ℕ) → k ≡ i → number_in w (λ n. asked_site n i) ≡ 0 → AtSite w k
site_asked w size i k same z =
    let found = site_found w i z in
    let ranged = shaped_range w found.0 in
    let below = site_below w ranged i found.1 in
    record { sized = size; ranged = ranged; there = omega (arith, same, below.0); few = omega (arith, same, below.1) }
