-- Epoch: its number, cause by cause, and the network after it.
use mathlib.Core.Path.{◌≡◌, refl, sym, ap, ◌∙◌}
use mathlib.Core.Bool.{true, false}
use mathlib.Core.List.{List, []}
use Prim.Native.Nat.{ℕ, ◌≤◌, ◌<◌}
use borrow.Author.Tests.{le-leb, lt-leb}
use Rattle.std.specs.Prelude.{IsErrAnd}
use Rattle.std.specs.declared.result.Result.{Result}
use Rattle.causes.specs.declared.Refusal.{Refusal}
use Rattle.causes.specs.Refusals.{refusal_number, number_of}
use Rattle.causes.proofs.Refusals.{passed_on, refusal_some}
use Rattle.site.specs.Site.{at_epoch}
use Rattle.placement.specs.Placement.{has_parents}
use Rattle.protocol.specs.Network.{Network, no_stamp, site_at, with_site}
use Rattle.protocol.specs.Steps.{no_such_site, epoch_number, epoch_network}
use Rattle.protocol.specs.Calls.{epoch, accepted, perform}
use Rattle.network_layout.specs.InWords.{network_in, shaped, SiteStep}
use Rattle.network_layout.specs.Promises.{Performed}
use Rattle.network_layout.specs.At.{AtNetwork}
use Rattle.network_layout.proofs.OnNetwork.{well_on, refused_on, accepted_on, unshaped}
use Rattle.protocol.proofs.Allowed.{epoch_allowed}
use Rattle.protocol.proofs.Keeps.{keeps_epoch}

-- ---- the number
module _ (n : Network) (i e : ℕ) where
  pub epoch_nowhere : no_such_site n i ≡ true → epoch_number n i e ≡ 7
  unfolding epoch_number
  epoch_nowhere a = rw a

  module _ (a : no_such_site n i ≡ false) where
    pub epoch_below : has_parents n.items i ≡ true → epoch_number n i e ≡ 15
    unfolding epoch_number
    epoch_below b = rw (a, b)

    module _ (b : has_parents n.items i ≡ false) where
      pub epoch_old : e ≤ (site_at n i).stamp.epoch → epoch_number n i e ≡ 16
      unfolding epoch_number
      epoch_old h = rw (a, b, le-leb e (site_at n i).stamp.epoch h)

      pub epoch_new : (site_at n i).stamp.epoch < e → epoch_number n i e ≡ 0
      unfolding epoch_number
      epoch_new h = rw (a, b, lt-leb e (site_at n i).stamp.epoch h)

-- ---- the step on words
module _ (w : List ℕ) (net : AtNetwork w) (i e : ℕ) where
  pub epoch_refused : {A : Type 0} (r : Result A Refusal) (x : Refusal) → IsErrAnd r (λ y. y ≡ x) → refusal_number x ≡ epoch_number (network_in w) i e → Performed (epoch i e) w w (number_of r) 0 no_stamp []
  unfolding perform
  epoch_refused r x h f =
      let is = passed_on r x h in
      refused_on (epoch i e) refl (λ m. epoch_number m i e) (λ m. accepted 0 no_stamp [] (epoch_network m i e)) (λ m. refl) w net (number_of r) (is ∙ f) (λ z. refusal_some x (sym is ∙ z))

  pub epoch_done : epoch_number (network_in w) i e ≡ 0 → (v : List ℕ) (k : ℕ) → k ≡ i → SiteStep w v k (at_epoch e) → Performed (epoch i e) w v 0 0 no_stamp []
  unfolding perform epoch_network
  epoch_done z v k f s =
      let n = network_in w in
      accepted_on (epoch i e) refl (λ m. epoch_number m i e) (λ m. accepted 0 no_stamp [] (epoch_network m i e)) (λ m. refl) w net v 0 no_stamp [] (epoch_network n i e) z refl s.ranged
      (s.meant ∙ ap (λ (j : ℕ). with_site n j (at_epoch e (site_at n j))) f)
      (keeps_epoch n i e (well_on w net) (epoch_allowed n i e z))

pub epoch_unshaped : (w : List ℕ) (i e : ℕ) → shaped w ≡ false → Performed (epoch i e) w w 6 0 no_stamp []
unfolding perform
epoch_unshaped w i e = unshaped (epoch i e) refl w
