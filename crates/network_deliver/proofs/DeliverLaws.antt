-- Deliver: its number, cause by cause, and the network after it.
use mathlib.Core.Path.{◌≡◌, refl, sym, ap, ◌∙◌}
use mathlib.Core.Bool.{Bool, true, false}
use mathlib.Core.List.{List, []}
use Prim.Native.Nat.{ℕ}
use native.Mathlib.Omega.{arith}
use lib.ListN.{length, get_or}
use lib.Dec.{leb}
use Rattle.std.specs.Prelude.{IsErrAnd}
use Rattle.std.specs.declared.result.Result.{Result}
use Rattle.causes.specs.declared.Refusal.{Refusal}
use Rattle.causes.specs.Refusals.{refusal_number, number_of}
use Rattle.causes.proofs.Refusals.{passed_on, refusal_some}
use Rattle.placement.specs.Placement.{is_line}
use Rattle.lines.specs.Lines.{no_line, delivered_or_same}
use Rattle.lines.proofs.Boxes.{deliver_some}
use Rattle.protocol.specs.Network.{Network, no_stamp, line_at, line_number, with_line}
use Rattle.protocol.specs.Steps.{no_such_site, deliver_number, deliver_network}
use Rattle.protocol.specs.Calls.{deliver, accepted, perform}
use Rattle.network_layout.specs.InWords.{network_in, shaped, LineStep}
use Rattle.network_layout.specs.Promises.{Performed}
use Rattle.network_layout.specs.At.{AtNetwork, AtPair}
use Rattle.network_layout.proofs.OnNetwork.{ranged_on, few_on, well_on, refused_on, accepted_on, unshaped}
use Rattle.protocol.proofs.Allowed.{deliver_allowed}
use Rattle.protocol.proofs.Keeps.{keeps_deliver}

-- ---- the number
module _ (n : Network) (p c : ℕ) where
  pub no_parent : no_such_site n p ≡ true → deliver_number n p c ≡ 7
  unfolding deliver_number
  no_parent e = rw e

  module _ (a : no_such_site n p ≡ false) where
    pub no_child : no_such_site n c ≡ true → deliver_number n p c ≡ 7
    unfolding deliver_number
    no_child e = rw (a, e)

    module _ (b : no_such_site n c ≡ false) where
      pub no_line_lem : is_line n.items p c ≡ false → deliver_number n p c ≡ 17
      unfolding deliver_number
      no_line_lem e = rw (a, b, e)

      module _ (l : is_line n.items p c ≡ true) where
        abbrev all_arrived : Bool
        all_arrived = leb (length (line_at n p c).messages) (line_at n p c).arrived

        pub none_on_way : all_arrived ≡ true → deliver_number n p c ≡ 18
        unfolding deliver_number
        none_on_way e = rw (a, b, l, e)

        pub some_on_way : all_arrived ≡ false → deliver_number n p c ≡ 0
        unfolding deliver_number
        some_on_way e = rw (a, b, l, e)

-- ---- the step on words
module _ (w : List ℕ) (net : AtNetwork w) (p c : ℕ) where
  pub deliver_refused : {A : Type 0} (r : Result A Refusal) (x : Refusal) → IsErrAnd r (λ y. y ≡ x) → refusal_number x ≡ deliver_number (network_in w) p c → Performed (deliver p c) w w (number_of r) 0 no_stamp []
  unfolding perform
  deliver_refused r x h f =
      let is = passed_on r x h in
      refused_on (deliver p c) refl (λ m. deliver_number m p c) (λ m. accepted 0 no_stamp [] (deliver_network m p c)) (λ m. refl) w net (number_of r) (is ∙ f) (λ z. refusal_some x (sym is ∙ z))

  module _ (z : deliver_number (network_in w) p c ≡ 0) where
    pub deliver_pair : AtPair w p c
    deliver_pair =
        let allowed = deliver_allowed (network_in w) p c z in
        record { sized = net.sized; ranged = ranged_on w net; from = omega (arith, allowed.parent, few_on w net); to = omega (arith, allowed.child, few_on w net) }

    pub deliver_done : (v : List ℕ) (k : ℕ) → k ≡ line_number p c → LineStep w v k delivered_or_same → Performed (deliver p c) w v 0 0 no_stamp []
    unfolding perform deliver_network
    deliver_done v k e s =
        let n = network_in w in
        let allowed = deliver_allowed n p c z in
        accepted_on (deliver p c) refl (λ m. deliver_number m p c) (λ m. accepted 0 no_stamp [] (deliver_network m p c)) (λ m. refl) w net v 0 no_stamp [] (deliver_network n p c) z refl s.ranged
        (s.meant ∙ ap (λ (j : ℕ). with_line n j (delivered_or_same (get_or n.lines j no_line))) e ∙ ap (with_line n (line_number p c)) (deliver_some (line_at n p c) allowed.on_way_lem))
        (keeps_deliver n p c (well_on w net) allowed)

pub deliver_unshaped : (w : List ℕ) (p c : ℕ) → shaped w ≡ false → Performed (deliver p c) w w 6 0 no_stamp []
unfolding perform
deliver_unshaped w p c = unshaped (deliver p c) refl w
