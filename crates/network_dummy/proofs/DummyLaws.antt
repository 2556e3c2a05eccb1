-- Dummy: its number, cause by cause, and the network after it.
use mathlib.Core.Path.{◌≡◌, refl, sym, ap, ◌∙◌}
use mathlib.Core.Bool.{true, false}
use mathlib.Core.List.{List, []}
use Prim.Native.Nat.{ℕ}
use lib.Seq.{get_or-set_same}
use Rattle.std.specs.Prelude.{Ok, Err, IsErrAnd}
use Rattle.std.specs.declared.result.Result.{Result}
use Rattle.causes.specs.declared.Refusal.{Refusal}
use Rattle.causes.specs.declared.Refusal.TheVariants.{NoState}
use Rattle.causes.specs.Refusals.{refusal_number}
use Rattle.causes.proofs.Refusals.{refusal_some}
use Rattle.timestamp_order.specs.Timestamp.{Stamp}
use Rattle.timestamp.specs.declared.Timestamp.{Timestamp}
use Rattle.timestamp.specs.Value.{stamp_of}
use Rattle.site.specs.Site.{Site, dummied}
use Rattle.placement.specs.Masks.{bit, mask_of}
use Rattle.placement.specs.Placement.{is_line}
use Rattle.limits.specs.Limits.{sites_most}
use Rattle.lines.specs.Lines.{Line}
use Rattle.messages.specs.Messages.{dummy as dummyMessage}
use Rattle.protocol.specs.Network.{Network, no_stamp, no_site, site_at, with_site, with_lines}
use Rattle.protocol.specs.Steps.{no_such_site, count_at_most, some_line_full, sent_to, dummy_number, dummy_network}
use Rattle.protocol.specs.Calls.{dummy, accepted, perform}
use Rattle.network_layout.specs.InWords.{network_in, shaped, SentStep}
use Rattle.network_layout.specs.Promises.{Performed, DummyAnswered}
use Rattle.network_layout.specs.At.{AtNetwork}
use Rattle.network_dummy.specs.Done.{DummyReady, Raised, DummyDone}
use Rattle.network_layout.proofs.OnNetwork.{well_on, refused_on, accepted_on, unshaped}
use Rattle.protocol.proofs.Allowed.{dummy_allowed}
use Rattle.protocol.proofs.Keeps.{keeps_dummy}
use Rattle.network_sending.proofs.SendLaws.{full_by_mask, sent_by_mask}

-- ---- the number
module _ (n : Network) (i : ℕ) where
  pub dummy_nowhere : no_such_site n i ≡ true → dummy_number n i ≡ 7
  unfolding dummy_number
  dummy_nowhere a = rw a

  module _ (a : no_such_site n i ≡ false) where
    pub dummy_full : some_line_full n i (is_line n.items i) ≡ true → dummy_number n i ≡ 13
    unfolding dummy_number
    dummy_full b = rw (a, b)

    module _ (b : some_line_full n i (is_line n.items i) ≡ false) where
      pub dummy_largest : count_at_most n i ≡ true → dummy_number n i ≡ 14
      unfolding dummy_number
      dummy_largest c = rw (a, b, c)

      pub dummy_free : count_at_most n i ≡ false → dummy_number n i ≡ 0
      unfolding dummy_number
      dummy_free c = rw (a, b, c)

-- ---- the step on words
module _ (w : List ℕ) (i : ℕ) (ready : DummyReady w i) (mask : ℕ) (is : mask ≡ mask_of (is_line (network_in w).items i) sites_most) (v : List ℕ) (t : Timestamp) (raised : Raised w v i t) where
  abbrev n : Network
  n = network_in w

  -- the lines are as they were
  pub room_after : some_line_full (network_in v) i (bit mask) ≡ false
  room_after =
      ap (λ (m : Network). some_line_full m i (bit mask)) raised.step.meant ∙ full_by_mask (is_line n.items i) mask is n i ∙ ready.allowed.lines_free

  stamp_now : stamp_of t ≡ (dummied (site_at n i)).stamp
  stamp_now =
      raised.stamp_is.means
      ∙ ap (λ (m : Network). (site_at m i).stamp) raised.step.meant
      ∙ ap (λ (x : Site). x.stamp) (get_or-set_same n.sites i (dummied (site_at n i)) no_site ready.allowed.there)

  pub done_by : (u : List ℕ) → SentStep v u (bit mask) i (dummyMessage (stamp_of t)) sites_most → DummyDone w u i t
  unfolding dummy_network
  done_by u sent =
      record {
        network_is =
            sent.meant
            ∙ ap (λ (m : Network). with_lines m (sent_to (bit mask) i (dummyMessage (stamp_of t)) sites_most m.lines)) raised.step.meant
            ∙ ap (λ (ls : List Line). with_lines (with_site n i (dummied (site_at n i))) ls)
            (sent_by_mask (is_line n.items i) mask is i (dummyMessage (stamp_of t)) n.lines ∙ ap (λ (x : Stamp). sent_to (is_line n.items i) i (dummyMessage x) sites_most n.lines) stamp_now);
        ranged = sent.ranged;
        stamp_is = record { means = stamp_now ∙ sym (ap (λ (x : Site). x.stamp) (get_or-set_same n.sites i (dummied (site_at n i)) no_site ready.allowed.there)); plain = raised.stamp_is.plain };
      }

-- ---- what the contract promises
module _ (w : List ℕ) (i : ℕ) where
  pub dummy_unshaped : shaped w ≡ false → DummyAnswered i w w (Err NoState)
  unfolding perform
  dummy_unshaped e = record { performed = unshaped (dummy i) refl w e; plain = tt }

  module _ (net : AtNetwork w) where
    pub dummy_refused : (r : Result Timestamp Refusal) (x : Refusal) → IsErrAnd r (λ y. y ≡ x) → refusal_number x ≡ dummy_number (network_in w) i → DummyAnswered i w w r
    unfolding perform
    dummy_refused (Ok a) x err number = absurd err
    dummy_refused (Err e) x err number =
        record {
          performed =
              refused_on (dummy i) refl (λ m. dummy_number m i) (λ m. accepted 0 (site_at (dummy_network m i) i).stamp [] (dummy_network m i)) (λ m. refl) w net (refusal_number e)
              (ap refusal_number err ∙ number)
              (refusal_some e);
          plain = tt;
        }

    pub dummy_performed : dummy_number (network_in w) i ≡ 0 → (v : List ℕ) (t : Timestamp) → DummyDone w v i t → DummyAnswered i w v (Ok t)
    unfolding perform
    dummy_performed z v t d =
        let after = dummy_network (network_in w) i in
        record {
          performed =
              accepted_on (dummy i) refl (λ m. dummy_number m i) (λ m. accepted 0 (site_at (dummy_network m i) i).stamp [] (dummy_network m i)) (λ m. refl) w net v 0 (stamp_of t) [] after z
              (ap (λ (x : Stamp). accepted 0 x [] after) (sym d.stamp_is.means))
              d.ranged
              d.network_is
              (keeps_dummy (network_in w) i (well_on w net) (dummy_allowed (network_in w) i z));
          plain = d.stamp_is.plain;
        }
