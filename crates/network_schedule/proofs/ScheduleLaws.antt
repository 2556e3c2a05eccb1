-- Schedule: the writes of its message, and the network after it.
use mathlib.Core.Path.{◌≡◌, refl, sym, ap, ap₂, ◌∙◌}
use mathlib.Core.Bool.{Bool, true, false}
use mathlib.Core.List.{List, [], ◌∷◌, ◌++◌, append-nil}
use Prim.Native.Nat.{ℕ, ◌+◌, ◌≤◌, min}
use native.Mathlib.Omega.{arith}
use lib.ListN.{length, get_or}
use Rattle.std.specs.Prelude.{Ok, Err, IsErrAnd}
use Rattle.std.specs.declared.result.Result.{Result}
use Rattle.causes.specs.declared.Refusal.{Refusal}
use Rattle.causes.specs.declared.Refusal.TheVariants.{NoState}
use Rattle.causes.specs.Refusals.{refusal_number}
use Rattle.causes.proofs.Refusals.{refusal_some}
use Rattle.words.specs.Words.{chunks}
use Rattle.lists.specs.Lists.{keep}
use Rattle.lists.proofs.Chains.{keep_more}
use Rattle.timestamp_order.specs.Timestamp.{Stamp}
use Rattle.timestamp.specs.declared.Timestamp.{Timestamp}
use Rattle.timestamp.specs.Value.{stamp_of}
use Rattle.site_operations.specs.Operations.{Op}
use Rattle.site.specs.Site.{received}
use Rattle.site_operations.specs.InWords.{op_at, ops_in}
use Rattle.limits.specs.Limits.{ops_most, sites_most}
use Rattle.site_operations.proofs.Laws.{ops_last}
use Rattle.lines.specs.Lines.{no_line, taken_or_same}
use Rattle.messages.specs.Messages.{Message, commit, dummy}
use Rattle.lines.proofs.Boxes.{take_some}
use Rattle.protocol.specs.Network.{Network, no_stamp, no_record, site_at, line_at, line_number, with_site, with_line}
use Rattle.protocol.specs.Steps.{schedule_number, head, head_stamp, chosen, wanted_at, writes_for, schedule_network}
use Rattle.protocol.specs.Calls.{schedule, accepted, perform}
use Rattle.network_layout.specs.InWords.{network_in, shaped, SiteStep, LineStep}
use Rattle.network_layout.specs.At.{AtNetwork}
use Rattle.network_layout.specs.Promises.{Performed, ScheduleAnswered}
use Rattle.network_layout.proofs.OnNetwork.{well_on, few_on, refused_on, accepted_on, unshaped}
use Rattle.network_choice.specs.Choice.{Best, Choosing}
use Rattle.network_choice.proofs.ChoiceLaws.{well, parent_few, best_line}
use Rattle.network_layout.specs.declared.Scheduled.{Scheduled}
use Rattle.network_schedule.specs.Wanted.{Laid}
use Rattle.protocol.proofs.Chosen.{chosen_held, keeps_schedule}

-- ---- the operations that pass a test, one after another
module _ (p : Op → Bool) (ops out : List ℕ) (i count : ℕ) (so_far : Laid i count out (keep p (ops_in i ops))) where
  one_more : keep p (ops_in (i + 1) ops) ≡ keep p (ops_in i ops) ++ keep p (op_at ops i ∷ [])
  one_more = ap (keep p) (ops_last i ops) ∙ keep_more p (ops_in i ops) (op_at ops i ∷ [])

  pub laid_same : p (op_at ops i) ≡ false → Laid (i + 1) count out (keep p (ops_in (i + 1) ops))
  laid_same e = record { few = omega (arith, so_far.few); are = so_far.are ∙ sym (one_more ∙ rw e (append-nil (keep p (ops_in i ops)))) }

  pub laid_more : p (op_at ops i) ≡ true → (out' : List ℕ) → ops_in (count + 1) out' ≡ ops_in count out ++ (op_at ops i ∷ []) → Laid (i + 1) (count + 1) out' (keep p (ops_in (i + 1) ops))
  laid_more e out' f =
      record { few = omega (arith, so_far.few); are = f ∙ ap (λ (os : List Op). os ++ (op_at ops i ∷ [])) so_far.are ∙ sym (one_more ∙ rw e) }

-- ---- the message's writes
pub laid_record : (p : Op → Bool) (os : List Op) (n : ℕ) (ops : List ℕ) → (n ≡ length os) × (n ≤ ops_most) → ops_in (length os) ops ≡ os → (count : ℕ) (out : List ℕ) → Laid n count out (keep p (ops_in n ops)) → Laid ops_most count out (keep p os)
laid_record p os n ops all e count out l =
    record { few = omega (arith, l.few, all.1); are = l.are ∙ ap (keep p) (ap (λ (k : ℕ). ops_in k ops) all.0 ∙ e) }

module _ (n : Network) (j : ℕ) (m : Message) where
  pub laid_dummy : (t : Stamp) → dummy t ≡ m → (out : List ℕ) → Laid ops_most 0 out (writes_for n j m)
  unfolding chunks
  laid_dummy t e out = record { few = omega arith; are = ap (writes_for n j) e }

  pub laid_commit : (k : ℕ) → commit k ≡ m → (i : ℕ) → i ≡ k → (count : ℕ) (out : List ℕ) → Laid ops_most count out (keep (wanted_at n.items j) (get_or n.history i no_record).ops) → Laid ops_most count out (writes_for n j m)
  laid_commit k e i same count out l =
      record { few = l.few; are = l.are ∙ ap (λ (x : ℕ). keep (wanted_at n.items j) (get_or n.history x no_record).ops) same ∙ ap (writes_for n j) e }

-- a site, by the number that the code counts with, receives these writes
pub receives : (w v : List ℕ) (i j : ℕ) → i ≡ j → (count : ℕ) (out : List ℕ) (os : List Op) → Laid ops_most count out os → (t : Stamp)
    → SiteStep w v i (received (ops_in (min count ops_most) out) t) → SiteStep w v j (received os t)
receives w v i j same count out os l t s =
    let n = network_in w in
    let all : min count ops_most ≡ count = omega (arith, l.few) in
    let are : ops_in (min count ops_most) out ≡ os = ap (λ (x : ℕ). ops_in x out) all ∙ l.are in
    record { meant = s.meant ∙ ap₂ (λ (k : ℕ) (xs : List Op). with_site n k (received xs t (site_at n k))) same are; ranged = s.ranged }

-- ---- the step on words
pub schedule_unshaped : (w : List ℕ) (j : ℕ) → shaped w ≡ false → ScheduleAnswered j w w (Err NoState)
unfolding perform
schedule_unshaped w j e = record { performed = unshaped (schedule j) refl w e; plain = tt }

pub schedule_refused : (w : List ℕ) (net : AtNetwork w) (j : ℕ) (r : Result Scheduled Refusal) (x : Refusal) → IsErrAnd r (λ y. y ≡ x) → refusal_number x ≡ schedule_number (network_in w) j → ScheduleAnswered j w w r
unfolding perform
schedule_refused w net j (Ok a) x err number = absurd err
schedule_refused w net j (Err e) x err number =
    record {
      performed =
          refused_on (schedule j) refl (λ m. schedule_number m j) (λ m. accepted (chosen m j) (head_stamp m (chosen m j) j) [] (schedule_network m j)) (λ m. refl) w net (refusal_number e)
          (ap refusal_number err ∙ number)
          (refusal_some e);
      plain = tt;
    }

module _ (w : List ℕ) (j : ℕ) (free : Choosing w j) where
  abbrev net : Network
  net = network_in w

  pub schedule_done : (v u : List ℕ) (p : ℕ) (t : Timestamp) (k : ℕ) → k ≡ line_number p j → Best net j sites_most p t
      → SiteStep w v j (received (writes_for net j (head net p j)) (stamp_of t)) → LineStep v u k taken_or_same → ScheduleAnswered j w u (Ok (record { parent = p; stamp = t }))
  unfolding perform schedule_network
  schedule_done v u p t k ke b s l =
      let few = few_on w free.net in
      let c = chosen net j in
      let value = b.stamped (parent_few w j free p (best_line w j free p t b)) in
      let stamp_is : stamp_of t ≡ head_stamp net c j = value.means ∙ ap (λ (q : ℕ). head_stamp net q j) b.is in
      let new = received (writes_for net j (head net c j)) (head_stamp net c j) (site_at net j) in
      let middle : network_in v ≡ with_site net j new
      = s.meant ∙ ap₂ (λ (q : ℕ) (x : Stamp). with_site net j (received (writes_for net j (head net q j)) x (site_at net j))) b.is stamp_is in
      let at : k ≡ line_number c j = ke ∙ ap (λ (q : ℕ). line_number q j) b.is in
      let after : network_in u ≡ schedule_network net j
      = l.meant
      ∙ ap (λ (m : Network). with_line m k (taken_or_same (get_or m.lines k no_line))) middle
      ∙ ap (λ (i : ℕ). with_line (with_site net j new) i (taken_or_same (get_or net.lines i no_line))) at
      ∙ ap (with_line (with_site net j new) (line_number c j)) (take_some (line_at net c j) (chosen_held net j few (well w j free) free.none)) in
      let done = accepted_on (schedule j) refl (λ m. schedule_number m j) (λ m. accepted (chosen m j) (head_stamp m (chosen m j) j) [] (schedule_network m j)) (λ m. refl) w free.net u p (stamp_of t) [] (schedule_network net j) free.none
      (ap₂ (λ (q : ℕ) (x : Stamp). accepted q x [] (schedule_network net j)) (sym b.is) (sym stamp_is))
      l.ranged after (keeps_schedule net j few (well_on w free.net) free.none) in
      record { performed = done; plain = value.plain }
