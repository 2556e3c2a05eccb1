-- Commit: its number, cause by cause, and the network after it.
use mathlib.Core.Path.{◌≡◌, refl, sym, ap, ap₂, subst, ◌∙◌}
use mathlib.Core.Bool.{Bool, true, false, not}
use mathlib.Core.List.{List, [], ◌∷◌, map}
use Prim.Native.Nat.{ℕ, ◌≤◌, ◌<◌}
use lib.IntN.{ℤ}
use lib.ListN.{length, take}
use lib.Dec.{leb, eqb}
use borrow.Author.Tests.{lt-ltb, le-ltb, le-leb, lt-leb, eq-eqb, ne_eqb, eqb-true, eqb-false}
use Rattle.std.specs.Prelude.{Ok, Err, IsErrAnd}
use Rattle.std.specs.declared.result.Result.{Result}
use Rattle.causes.specs.declared.Refusal.{Refusal}
use Rattle.causes.specs.declared.Refusal.TheVariants.{NoState}
use Rattle.causes.specs.Refusals.{refusal_number}
use Rattle.causes.proofs.Refusals.{refusal_some}
use Rattle.limits.specs.Limits.{ops_most, sites_most, records_most}
use Rattle.timestamp_order.specs.Timestamp.{Stamp}
use Rattle.timestamp.specs.declared.Timestamp.{Timestamp}
use Rattle.timestamp.specs.Value.{stamp_of}
use Rattle.site_operations.specs.Operations.{Op, values_read}
use Rattle.site.specs.Site.{committed}
use Rattle.placement.specs.Masks.{bit, mask_of}
use Rattle.lines.specs.Lines.{Line}
use Rattle.messages.specs.Messages.{commit as commitMessage}
use Rattle.lists.specs.Numbers.{first_number, number_if}
use Rattle.protocol.specs.Network.{Network, no_stamp, site_at, with_site, with_lines, with_record}
use Rattle.protocol.specs.Steps.{no_such_site, count_at_most, some_line_full, due, sent_to, op_number, ops_of, commit_causes, wrong_lists, commit_number, record_of, commit_network}
use Rattle.protocol.specs.Calls.{Outcome, commit, accepted, perform}
use Rattle.network_layout.specs.declared.Committed.{Committed}
use Rattle.network_layout.specs.InWords.{network_in, shaped, SentStep}
use Rattle.network_layout.specs.Promises.{Performed, CommitAnswered}
use Rattle.network_layout.specs.At.{AtNetwork}
use Rattle.network_work.specs.Work.{WorkDone}
use Rattle.network_commit.specs.Done.{CommitReady, CommitDone, CommitTried}
use Rattle.network_layout.proofs.OnNetwork.{well_on, refused_on, accepted_on, unshaped}
use Rattle.protocol.proofs.Allowed.{commit_allowed}
use Rattle.network_sending.proofs.SendLaws.{full_by_mask, sent_by_mask}
use Rattle.protocol.proofs.Keeps.{keeps_commit}
use Rattle.lists.proofs.Numbers.{first_holds, first_fails, first_some, first_none}

-- ---- the causes from 9 on
module _ (n : Network) (i : ℕ) (os : List Op) where
  full : Bool
  full = some_line_full n i (due n.items os)

  last : List ℕ
  last = number_if (count_at_most n i) 14 ∷ []

  lined : List ℕ
  lined = number_if full 13 ∷ last

  booked : List ℕ
  booked = number_if (leb records_most (length n.history)) 12 ∷ lined

  abbrev refusal : ℕ
  refusal = first_number (map (op_number n.items i) os)

  pub commit_op : (refusal ≡ 0 → ⊥) → refusal ≡ first_number (commit_causes n i os)
  unfolding booked lined last full
  commit_op h = sym (first_some refusal booked h)

  module _ (a : first_number (map (op_number n.items i) os) ≡ 0) where
    ops_pass : first_number (commit_causes n i os) ≡ first_number booked
    unfolding booked lined last full
    ops_pass = first_none refusal booked a

    pub commit_booked : records_most ≤ length n.history → first_number (commit_causes n i os) ≡ 12
    unfolding booked
    commit_booked h = ops_pass ∙ first_holds (leb records_most (length n.history)) 11 lined (le-leb records_most (length n.history) h)

    module _ (b : length n.history < records_most) where
      room_pass : first_number (commit_causes n i os) ≡ first_number lined
      unfolding booked
      room_pass = ops_pass ∙ first_fails (leb records_most (length n.history)) 12 lined (lt-leb records_most (length n.history) b)

      pub commit_full : some_line_full n i (due n.items os) ≡ true → first_number (commit_causes n i os) ≡ 13
      unfolding lined full
      commit_full e = room_pass ∙ first_holds full 12 last e

      module _ (f : some_line_full n i (due n.items os) ≡ false) where
        line_pass : first_number (commit_causes n i os) ≡ first_number last
        unfolding lined full
        line_pass = room_pass ∙ first_fails full 13 last f

        pub commit_largest : count_at_most n i ≡ true → first_number (commit_causes n i os) ≡ 14
        unfolding last
        commit_largest e = line_pass ∙ first_holds (count_at_most n i) 13 [] e

        pub commit_free : count_at_most n i ≡ false → first_number (commit_causes n i os) ≡ 0
        unfolding last
        commit_free e = line_pass ∙ first_fails (count_at_most n i) 14 [] e

  -- one of them holds
  pub not_tried : (w : List ℕ) → network_in w ≡ n → (r : Result Committed Refusal) (x : Refusal) → IsErrAnd r (λ y. y ≡ x) → refusal_number x ≡ first_number (commit_causes n i os) → CommitTried w w i os r
  not_tried w is (Ok a) x err number = absurd err
  not_tried w is (Err e) x err number = record { number_is = ap refusal_number err ∙ number ∙ ap (λ (m : Network). first_number (commit_causes m i os)) (sym is); done = tt; kept = refl }

-- ---- the lists
module _ (k i v : ℕ) where
  pub lists_none : k < 1 → true ≡ wrong_lists k i v
  lists_none h = sym (rw (lt-ltb k 1 h))

  module _ (a : 1 ≤ k) where
    pub lists_many : ops_most < k → true ≡ wrong_lists k i v
    lists_many h = sym (rw (le-ltb k 1 a, lt-ltb ops_most k h))

    module _ (b : k ≤ ops_most) where
      pub lists_items : (i ≡ k → ⊥) → true ≡ wrong_lists k i v
      lists_items h = sym (rw (le-ltb k 1 a, le-ltb ops_most k b, ne_eqb i k h))

      pub lists_values : i ≡ k → not (eqb v k) ≡ wrong_lists k i v
      lists_values h = sym (rw (le-ltb k 1 a, le-ltb ops_most k b, eq-eqb i k h))

-- ---- the number of a commit
module _ (n : Network) (i : ℕ) (ks is : List ℕ) (vs : List ℤ) where
  pub commit_nowhere : no_such_site n i ≡ true → commit_number n i ks is vs ≡ 7
  unfolding commit_number
  commit_nowhere a = rw a

  module _ (a : no_such_site n i ≡ false) where
    pub commit_lists : wrong_lists (length ks) (length is) (length vs) ≡ true → commit_number n i ks is vs ≡ 8
    unfolding commit_number
    commit_lists b = rw (a, b)

    pub commit_later : wrong_lists (length ks) (length is) (length vs) ≡ false → commit_number n i ks is vs ≡ first_number (commit_causes n i (ops_of ks is vs))
    unfolding commit_number
    commit_later b = rw (a, b)

-- ---- the step on words: the messages after the site and the record
module _ (w : List ℕ) (i n mask : ℕ) (os : List Op) (ready : CommitReady w i n mask os) (v : List ℕ) (t : Timestamp) (ops : List Op) (worked : WorkDone w v i os t ops) where
  abbrev net : Network
  net = network_in w

  is : mask ≡ mask_of (due net.items os) sites_most
  is = ready.masked.mask_is

  pub room_now : some_line_full (network_in v) i (bit mask) ≡ false
  room_now = ap (λ (m : Network). some_line_full m i (bit mask)) worked.network_is ∙ full_by_mask (due net.items os) mask is net i ∙ ready.allowed.lines_free

  pub network_now : (k : ℕ) → k ≡ length net.history → (x : List ℕ) → SentStep v x (bit mask) i (commitMessage k) sites_most → network_in x ≡ commit_network net i os
  unfolding commit_network
  network_now k f x q =
      let done = with_record (with_site net i (committed os (site_at net i))) (record_of net i os) in
      q.meant
      ∙ ap (λ (m : Network). with_lines m (sent_to (bit mask) i (commitMessage k) sites_most m.lines)) worked.network_is
      ∙ ap (λ (ls : List Line). with_lines done ls)
      (sent_by_mask (due net.items os) mask is i (commitMessage k) net.lines ∙ ap (λ (j : ℕ). sent_to (due net.items os) i (commitMessage j) sites_most net.lines) f)

-- ---- what the contract promises
module _ (w : List ℕ) (i : ℕ) (ks is : List ℕ) (vs : List ℤ) where
  commit_outcome : Network → Outcome
  commit_outcome m = accepted 0 (record_of m i (ops_of ks is vs)).stamp (values_read (record_of m i (ops_of ks is vs)).ops) (commit_network m i (ops_of ks is vs))

  pub commit_unshaped : shaped w ≡ false → CommitAnswered (commit i ks is vs) w w (Err NoState)
  unfolding perform
  commit_unshaped e = record { performed = unshaped (commit i ks is vs) refl w e; plain = tt; filled = tt }

  module _ (net : AtNetwork w) where
    pub commit_refused : (x : Refusal) → refusal_number x ≡ commit_number (network_in w) i ks is vs → CommitAnswered (commit i ks is vs) w w (Err x)
    unfolding perform commit_outcome
    commit_refused x e =
        record {
          performed = refused_on (commit i ks is vs) refl (λ m. commit_number m i ks is vs) commit_outcome (λ m. refl) w net (refusal_number x) e (refusal_some x);
          plain = tt;
          filled = tt;
        }

    pub commit_performed : commit_number (network_in w) i ks is vs ≡ 0 → (v : List ℕ) (r : Committed) → CommitDone w v i (ops_of ks is vs) r → CommitAnswered (commit i ks is vs) w v (Ok r)
    unfolding perform commit_outcome
    commit_performed z v r d =
        let n = network_in w in
        let os = ops_of ks is vs in
        let after = commit_network n i os in
        record {
          performed =
              accepted_on (commit i ks is vs) refl (λ m. commit_number m i ks is vs) commit_outcome (λ m. refl) w net v 0 (stamp_of r.stamp) (take r.count r.values) after z
              (ap₂ (λ (x : Stamp) (y : List ℤ). accepted 0 x y after) (sym d.stamp_is.means) (sym d.values_are))
              d.ranged
              d.network_is
              (keeps_commit n i os (well_on w net) (commit_allowed n i ks is vs z).1);
          plain = d.stamp_is.plain;
          filled = d.filled;
        }

    -- whether or not a cause from 9 on refuses it
    pub commit_tried : no_such_site (network_in w) i ≡ false → wrong_lists (length ks) (length is) (length vs) ≡ false → (v : List ℕ) (r : Result Committed Refusal)
        → CommitTried w v i (ops_of ks is vs) r → CommitAnswered (commit i ks is vs) w v r
    commit_tried a b v (Ok x) tried = commit_performed (commit_later (network_in w) i ks is vs a b ∙ sym tried.number_is) v x tried.done
    commit_tried a b v (Err x) tried =
        subst (λ (u : List ℕ). CommitAnswered (commit i ks is vs) w u (Err x)) (sym tried.kept) (commit_refused x (tried.number_is ∙ sym (commit_later (network_in w) i ks is vs a b)))
