-- A network follows what is known of it from the calls and their answers, through every call: beside it goes the whole network, of which no collect has removed anything.
use mathlib.Core.Path.{◌≡◌, refl, ap, ap₂, sym, subst, ◌∙◌}
use mathlib.Core.Bool.{Bool, true, false, cond, ◌&&◌, ◌||◌, true≢false, false≢true}
use mathlib.Core.List.{List, [], ◌∷◌, ◌++◌, map, map-append}
use mathlib.Core.Logic.{◌⊎◌, inl, inr}
use mathlib.Core.Option.{Option, some}
use Prim.Native.Nat.{ℕ, zero, suc, ◌≤◌, ◌<◌}
use native.Mathlib.Omega.{arith}
use lib.IntN.{ℤ, pos}
use lib.ListN.{length, get_or, set, length-map, length-replicate, get_or-replicate, get_or-map}
use lib.Seq.{get_or-set_same}
use lib.Dec.{eqb}
use borrow.Author.Tests.{eqb-true, eq-eqb}
use Rattle.lists.specs.Lists.{any}
use Rattle.lists.proofs.Lists.{map_set}
use Rattle.lists.proofs.Some.{none_marked}
use Rattle.timestamp_order.specs.Timestamp.{Stamp, raised, raised_or_same, with_epoch, appended, own_count}
use Rattle.timestamp_order.specs.Order.{order_by, not_later, IsEarlier, NotLater}
use Rattle.site_operations.specs.Operations.{values_read}
use Rattle.site.specs.Site.{Site, committed, dummied, at_epoch, received}
use Rattle.placement.specs.Placement.{Item, is_line}
use Rattle.lines.specs.Lines.{Line}
use Rattle.records.specs.Records.{Record}
use Rattle.protocol.specs.Network.{Network, Base, start_base, no_stamp, no_site, record_at, place_of, site_at, well_shaped}
use Rattle.protocol.specs.Steps.{items_of, start_sites, set_up_number, set_up_network, ops_of, commit_number, commit_network, record_of, dummy_number, dummy_network, epoch_number, epoch_network, deliver_number, deliver_network, count_at_most, schedule_number, schedule_network, chosen, head, head_stamp, writes_for}
use Rattle.protocol.specs.Round.{is_step, stepped, walked, round_calls, round_number, round_network}
use Rattle.protocol.specs.Questions.{Question, question_number}
use Rattle.protocol.specs.Calls.{Call, set_up, commit, dummy, epoch, deliver, schedule, collect, round, ask, Outcome, refused, accepted, judged, perform, AllPass, RoundAccepted}
use Rattle.protocol.specs.Earliest.{earliest_stamp}
use Rattle.protocol.specs.Collect.{is_past, collect_number, folded_base, collect_network}
use Rattle.protocol.specs.Book.{Book, book_stamp, with_stamp, start_stamps, noted}
use Rattle.protocol.specs.Agreement.{Known, nothing_known, is_removed, collected, book_place, is_accepted, is_set_up, calls_of, witnessed_alone, learned_alone, learned_each, learned, learned_all, Always}
use Rattle.protocol.specs.Allowed.{SetUpAllowed}
use Rattle.protocol.proofs.Allowed.{set_up_allowed, commit_allowed, dummy_allowed, epoch_allowed, deliver_allowed}
use Rattle.protocol.proofs.Alike.{AllAlike, alike_many, alike_stamp, worked_alike, all_alike_add}
use Rattle.protocol.proofs.Chosen.{chosen_line, parent_held, received_stamp}
use Rattle.protocol.proofs.Times.{times}
use Rattle.protocol.proofs.Places.{order_at, Before, UpTo}
use Rattle.protocol.proofs.Invariant.{stamp_at, table_at, Invariant, shaped}
use Rattle.protocol.proofs.Calm.{changed, Grown}
use Rattle.protocol.proofs.Quiet.{moved, moved_here, same_grown, risen, risen_before, risen_grown, epoch_grown, deliver_keeps, epoch_keeps, dummy_keeps}
use Rattle.protocol.proofs.Commit.{commit_keeps}
use Rattle.protocol.proofs.Schedule.{schedule_grown, schedule_keeps}
use Rattle.protocol.proofs.SetUp.{set_up_starts}
use Rattle.protocol.proofs.Stays.{Stays, line_stays}
use Rattle.protocol.proofs.View.{view, Removed}
use Rattle.protocol.proofs.ViewSteps.{commit_fits_view, dummy_number_view, epoch_number_view, deliver_number_view, schedule_number_view, epoch_view, deliver_view, dummy_view, commit_view, chosen_view, answer_view, schedule_view}
use Rattle.protocol.proofs.Kept.{shaped_view}
use Rattle.protocol.proofs.Walks.{judged_number, accepted_learned}
use Rattle.protocol.proofs.Rounds.{round_accepted}
use Rattle.protocol.proofs.Removals.{removed_still, removed_more}
use Rattle.protocol.proofs.Collected.{collect_view, collect_removed, collect_folded, collected_few, collected_at}

abbrev pub stamps_of : List Site → List Stamp
stamps_of ss = map (λ (s : Site). s.stamp) ss

-- the values that each commit's reads were recorded with
abbrev pub reads_of : List Record → List (List ℤ)
reads_of h = map (λ (r : Record). values_read r.ops) h

pub record Follows (k : Known) : Type 0 where
  -- what the same calls without collects would leave; its base is that of set-up
  pub full : Network
  pub base : Base
  pub state_is : k.state ≡ some (view (is_removed k.removed) base full)
  pub inv : Invariant full
  pub items_are : k.items ≡ full.items
  pub stamps_are : stamps_of full.sites ≡ k.book.stamps
  pub commits_alike : AllAlike full.history k.book.commits
  pub values_are : k.values ≡ reads_of full.history
  pub answers_are : k.answered ≡ k.booked
  pub removed : Removed full (is_removed k.removed) base
  pub folded_is : base.folded ≡ any (λ (r : Bool). r) k.removed

-- ---- what a call that is no accepted set-up leaves
-- one commit more, later than its site was
pub record Extended (k m : Known) : Type 0 where
  pub made : Record
  pub extends : m.book.commits ≡ k.book.commits ++ (made ∷ [])
  pub there : made.site < length k.book.stamps
  pub later : IsEarlier (book_place k) (book_stamp k.book made.site) made.stamp

pub record Grows (k m : Known) : Type 0 where
  pub items_same : m.items ≡ k.items
  pub many : length m.book.stamps ≡ length k.book.stamps
  -- no timestamp falls
  pub grows : (j : ℕ) → j < length k.book.stamps → NotLater (book_place k) (book_stamp k.book j) (book_stamp m.book j)
  pub commits : (m.book.commits ≡ k.book.commits) ⊎ Extended k m

pub record Stepped (k m : Known) : Type 0 where
  pub follows : Follows m
  pub grows : Grows k m

-- a call that makes no commit and removes none
pub record Moved (k m : Known) : Type 0 where
  pub follows : Follows m
  pub items_same : m.items ≡ k.items
  pub many : length m.book.stamps ≡ length k.book.stamps
  pub grows : (j : ℕ) → j < length k.book.stamps → NotLater (book_place k) (book_stamp k.book j) (book_stamp m.book j)
  pub commits_same : m.book.commits ≡ k.book.commits
  pub removed_same : m.removed ≡ k.removed

moved_stepped : (k m : Known) → Moved k m → Stepped k m
moved_stepped k m s = record { follows = s.follows; grows = record { items_same = s.items_same; many = s.many; grows = s.grows; commits = inl s.commits_same } }

moved_nothing : (k : Known) → Follows k → Moved k k
moved_nothing k f =
    let order = times (book_place k) in
    record { follows = f; items_same = refl; many = refl; grows = λ j l. order.upto_self (book_stamp k.book j); commits_same = refl; removed_same = refl }

moved_more : (k m n : Known) → Moved k m → Moved m n → Moved k n
moved_more k m n a b =
    let order = times (book_place k) in
    record {
      follows = b.follows;
      items_same = b.items_same ∙ a.items_same;
      many = b.many ∙ a.many;
      grows = λ j l.
          let next = subst (λ (xs : List Item). NotLater (place_of xs) (book_stamp m.book j) (book_stamp n.book j)) a.items_same (b.grows j (omega (arith, l, a.many))) in
          order.upto_trans (book_stamp k.book j) (book_stamp m.book j) (book_stamp n.book j) (a.grows j l) next;
      commits_same = b.commits_same ∙ a.commits_same;
      removed_same = b.removed_same ∙ a.removed_same;
    }

-- ---- a site's timestamp among those of some sites
pub stamp_at_lem : (ss : List Site) (ts : List Stamp) → stamps_of ss ≡ ts → (j : ℕ) → (get_or ss j no_site).stamp ≡ get_or ts j no_stamp
stamp_at_lem ss ts same j = sym (get_or-map (λ (s : Site). s.stamp) ss j no_site) ∙ ap (λ (us : List Stamp). get_or us j no_stamp) same

stamps_many : (ss : List Site) (ts : List Stamp) → stamps_of ss ≡ ts → length ts ≡ length ss
stamps_many ss ts same = ap length (sym same) ∙ length-map ss (λ (s : Site). s.stamp)

-- ---- set-up, whatever is known before
start_stamps_lem : (i n : ℕ) → stamps_of (start_sites i n) ≡ start_stamps i n
start_stamps_lem i zero = refl
start_stamps_lem i (suc n) = ap (λ (ts : List Stamp). record { epoch = 0; tuples = record { site = i; count = 0 } ∷ [] } ∷ ts) (start_stamps_lem (suc i) n)

set_up_follows : (k : Known) → k.answered ≡ k.booked → (sites items : ℕ) (ps ms : List ℕ) → SetUpAllowed sites items ps ms
    → Follows (witnessed_alone k (set_up sites items ps ms) (accepted 0 no_stamp [] (set_up_network sites ps ms)))
unfolding noted set_up_network
set_up_follows k same sites items ps ms z =
    let many = length (items_of ps ms) in
    record {
      full = set_up_network sites ps ms;
      base = start_base many;
      state_is = refl;
      inv = set_up_starts sites items ps ms z;
      items_are = refl;
      stamps_are = start_stamps_lem 0 sites;
      commits_alike = tt;
      values_are = refl;
      answers_are = same;
      removed = record {
        few = λ m l. refl;
        bound = λ m l. absurd (omega arith);
        lead = λ m k l. absurd (omega arith);
        base_length = length-replicate many (pos 0);
        base_is = λ x l. get_or-replicate many x (pos 0) (pos 0) l;
      };
      folded_is = refl;
    }

-- ---- the other calls
module _ (k : Known) (f : Follows k) where
  abbrev n : Network
  n = f.full

  abbrev b : Book
  b = k.book

  abbrev goes : ℕ → Bool
  goes = is_removed k.removed

  abbrev seen : Network → Network
  seen m = view goes f.base m

  -- ---- a site's timestamp in the book
  book_stamp_lem : (i : ℕ) → stamp_at n i ≡ book_stamp b i
  book_stamp_lem = stamp_at_lem n.sites b.stamps f.stamps_are

  -- replaced in both
  book_moved : (i : ℕ) (new : Site) (t : Stamp) → new.stamp ≡ t → stamps_of (set n.sites i new) ≡ (with_stamp b i t).stamps
  book_moved i new t e = map_set (λ (s : Site). s.stamp) n.sites i new ∙ ap₂ (λ (ts : List Stamp) (u : Stamp). set ts i u) f.stamps_are e

  book_has : (i : ℕ) (t : Stamp) → i < length n.sites → book_stamp (with_stamp b i t) i ≡ t
  book_has i t l = get_or-set_same b.stamps i t no_stamp (omega (arith, stamps_many n.sites b.stamps f.stamps_are))

  -- the order of sites is the network's
  book_upto : (s t : Stamp) → UpTo n s t → NotLater (book_place k) s t
  book_upto s t = subst (λ (xs : List Item). NotLater (place_of xs) s t) (sym f.items_are)

  book_before : (s t : Stamp) → Before n s t → IsEarlier (book_place k) s t
  book_before s t = subst (λ (xs : List Item). IsEarlier (place_of xs) s t) (sym f.items_are)

  book_grows : (ss : List Site) (ts : List Stamp) → Grown n ss → stamps_of ss ≡ ts → (j : ℕ) → j < length b.stamps → NotLater (book_place k) (book_stamp b j) (get_or ts j no_stamp)
  book_grows ss ts grown same j l =
      let near : j < length n.sites = omega (arith, stamps_many n.sites b.stamps f.stamps_are) in
      book_upto (book_stamp b j) (get_or ts j no_stamp) (ap₂ (λ (s t : Stamp). not_later (order_at n s t)) (sym (book_stamp_lem j)) (sym (stamp_at_lem ss ts same j)) ∙ grown.grows j near)

  book_many : (ss : List Site) (ts : List Stamp) → Grown n ss → stamps_of ss ≡ ts → length ts ≡ length b.stamps
  book_many ss ts grown same = stamps_many ss ts same ∙ grown.many ∙ sym (stamps_many n.sites b.stamps f.stamps_are)

  -- ---- a call that makes no commit: other sites and lines, other timestamps
  module _ (ss : List Site) (ls : List Line) (ts answered booked : List Stamp) where
    abbrev quiet : Network
    quiet = changed n ss ls n.history

    quiet_step : Invariant quiet → Grown n ss → stamps_of ss ≡ ts → answered ≡ booked
        → Moved k (record { state = some (seen quiet); book = record { stamps = ts; commits = b.commits }; items = k.items; values = k.values; removed = k.removed; answered = answered; booked = booked })
    quiet_step inv grown same answers =
        record {
          follows = record {
            full = quiet;
            base = f.base;
            state_is = refl;
            inv = inv;
            items_are = f.items_are;
            stamps_are = same;
            commits_alike = f.commits_alike;
            values_are = f.values_are;
            answers_are = answers;
            removed = removed_still n goes f.base f.removed ss ls grown;
            folded_is = f.folded_is;
          };
          items_same = refl;
          many = book_many ss ts grown same;
          grows = book_grows ss ts grown same;
          commits_same = refl;
          removed_same = refl;
        }

  -- nothing changes
  still_step : Moved k (record { state = some (seen n); book = b; items = k.items; values = k.values; removed = k.removed; answered = k.answered; booked = k.booked })
  still_step = quiet_step n.sites n.lines b.stamps k.answered k.booked f.inv (same_grown n) f.stamps_are f.answers_are

  refused_step : (c : Call) (m : ℕ) → eqb m 0 ≡ false → Moved k (witnessed_alone k c (refused m (some (seen n))))
  refused_step c m e = rw e still_step

  ask_step : (q : Question) → question_number (seen n) q ≡ 0 → Moved k (witnessed_alone k (ask q) (accepted 0 no_stamp [] (seen n)))
  unfolding noted
  ask_step q z = still_step

  deliver_step : (p c : ℕ) → deliver_number (seen n) p c ≡ 0 → Moved k (witnessed_alone k (deliver p c) (accepted 0 no_stamp [] (deliver_network (seen n) p c)))
  unfolding noted deliver_network
  deliver_step p c z =
      let ok = deliver_allowed n p c (sym (deliver_number_view goes f.base n p c) ∙ z) in
      subst (λ (m : Network). Moved k (witnessed_alone k (deliver p c) (accepted 0 no_stamp [] m))) (sym (deliver_view goes f.base n p c))
      (quiet_step n.sites (deliver_network n p c).lines b.stamps k.answered k.booked (deliver_keeps n f.inv p c ok) (same_grown n) f.stamps_are f.answers_are)

  epoch_step : (i e : ℕ) → epoch_number (seen n) i e ≡ 0 → Moved k (witnessed_alone k (epoch i e) (accepted 0 no_stamp [] (epoch_network (seen n) i e)))
  unfolding noted epoch_network
  epoch_step i e z =
      let ok = epoch_allowed n i e (sym (epoch_number_view goes f.base n i e) ∙ z) in
      let t = with_epoch (book_stamp b i) e in
      let new = at_epoch e (site_at n i) in
      subst (λ (m : Network). Moved k (witnessed_alone k (epoch i e) (accepted 0 no_stamp [] m))) (sym (epoch_view goes f.base n i e))
      (quiet_step (moved n f.inv i new) n.lines (with_stamp b i t).stamps k.answered k.booked (epoch_keeps n f.inv i e ok) (epoch_grown n f.inv i e ok)
      (book_moved i new t (ap (λ (s : Stamp). with_epoch s e) (book_stamp_lem i))) f.answers_are)

  -- a site's own count one higher, in the network and in the book
  book_risen : (i : ℕ) → i < length n.sites → count_at_most n i ≡ false → raised_or_same (stamp_at n i) ≡ raised (book_stamp b i)
  book_risen i there few = risen n f.inv i there few ∙ ap raised (book_stamp_lem i)

  -- one more answered is the one more booked
  one_more : (t u : Stamp) → t ≡ u → k.answered ++ (t ∷ []) ≡ k.booked ++ (u ∷ [])
  one_more t u e = ap₂ (λ (ts : List Stamp) (s : Stamp). ts ++ (s ∷ [])) f.answers_are e

  dummy_step : (i : ℕ) → dummy_number (seen n) i ≡ 0 → Moved k (witnessed_alone k (dummy i) (accepted 0 (site_at (dummy_network (seen n) i) i).stamp [] (dummy_network (seen n) i)))
  unfolding noted dummy_network
  dummy_step i z =
      let ok = dummy_allowed n i (sym (dummy_number_view goes f.base n i) ∙ z) in
      let new = dummied (site_at n i) in
      let t = raised (book_stamp b i) in
      let same : new.stamp ≡ t = book_risen i ok.there ok.count_free in
      let at = stamp_at (dummy_network n i) i in
      let has = book_stamp (with_stamp b i t) i in
      subst (λ (m : Network). Moved k (witnessed_alone k (dummy i) (accepted 0 at [] m))) (sym (dummy_view goes f.base n i))
      (quiet_step (moved n f.inv i new) (dummy_network n i).lines (with_stamp b i t).stamps (k.answered ++ (at ∷ [])) (k.booked ++ (has ∷ []))
      (dummy_keeps n f.inv i ok) (risen_grown n f.inv i ok.there ok.count_free new refl) (book_moved i new t same)
      (one_more at has (ap (λ (s : Site). s.stamp) (moved_here n f.inv i new ok.there) ∙ same ∙ sym (book_has i t ok.there))))

  commit_step : (i : ℕ) (ks is : List ℕ) (vs : List ℤ) → commit_number (seen n) i ks is vs ≡ 0
      → Stepped k (witnessed_alone k (commit i ks is vs)
      (accepted 0 (record_of n i (ops_of ks is vs)).stamp (values_read (record_of n i (ops_of ks is vs)).ops) (commit_network (seen n) i (ops_of ks is vs))))
  unfolding noted commit_network
  commit_step i ks is vs z =
      let os = ops_of ks is vs in
      let ok = commit_fits_view goes f.base n i os (commit_allowed (seen n) i ks is vs z).1 in
      let h = n.history in
      let r = record_of n i os in
      let new = committed os (site_at n i) in
      let ss = moved n f.inv i new in
      let t = raised (book_stamp b i) in
      let ts = (with_stamp b i t).stamps in
      let c : Record = record { site = i; stamp = t; ops = os } in
      let same : r.stamp ≡ t = book_risen i ok.there ok.count_free in
      let later : Before n (stamp_at n i) r.stamp = risen_before n f.inv i ok.there ok.count_free in
      let grown : Grown n ss = risen_grown n f.inv i ok.there ok.count_free new refl in
      let booked : stamps_of ss ≡ ts = book_moved i new t same in
      subst (λ (m : Network). Stepped k (witnessed_alone k (commit i ks is vs) (accepted 0 r.stamp (values_read r.ops) m)))
      (sym (commit_view goes f.base n i os (f.removed.few (length h) (omega arith))))
      (record {
        follows = record {
          full = commit_network n i os;
          base = f.base;
          state_is = refl;
          inv = commit_keeps n f.inv i os ok;
          items_are = f.items_are;
          stamps_are = booked;
          commits_alike = all_alike_add h b.commits r c f.commits_alike (record { site_same = refl; stamp_same = same; ops_alike = worked_alike (table_at n i) os });
          values_are = ap (λ (us : List (List ℤ)). us ++ (values_read r.ops ∷ [])) f.values_are ∙ sym (map-append (λ (x : Record). values_read x.ops) h (r ∷ []));
          answers_are = one_more r.stamp (book_stamp (with_stamp b i t) i) (same ∙ sym (book_has i t ok.there));
          removed = removed_more n goes f.base f.removed ss (commit_network n i os).lines grown r i ok.there later;
          folded_is = f.folded_is;
        };
        grows = record {
          items_same = refl;
          many = book_many ss ts grown booked;
          grows = book_grows ss ts grown booked;
          commits = inr (record {
            made = c;
            extends = refl;
            there = omega (arith, ok.there, stamps_many n.sites b.stamps f.stamps_are);
            later = book_before (book_stamp b i) t (ap₂ (λ (s u : Stamp). order_at n s u) (sym (book_stamp_lem i)) (sym same) ∙ later);
          });
        };
      })

  schedule_step : (j : ℕ) → schedule_number (seen n) j ≡ 0
      → Moved k (witnessed_alone k (schedule j) (accepted (chosen (seen n) j) (head_stamp (seen n) (chosen (seen n) j) j) [] (schedule_network (seen n) j)))
  unfolding noted schedule_network
  schedule_step j z =
      let ok = sym (schedule_number_view goes f.base n j) ∙ z in
      let p = chosen n j in
      let answer = head_stamp n p j in
      let t = appended answer j (own_count (book_stamp b j)) in
      let new = received (writes_for n j (head n p j)) answer (site_at n j) in
      let few = f.inv.sizes.sites in
      let whole = shaped n f.inv in
      let same : new.stamp ≡ t = received_stamp n j few whole ok ∙ ap (λ (s : Stamp). appended answer j (own_count s)) (book_stamp_lem j) in
      let stay : (q : ℕ) → is_line n.items q j ≡ true → Stays goes n.history (head n q j)
      = λ q line. line_stays n f.inv goes f.removed.bound q j line 0 (parent_held n j few whole ok q line) in
      let line = chosen_line n j few whole ok in
      let outcome : accepted (chosen (seen n) j) (head_stamp (seen n) (chosen (seen n) j) j) [] (schedule_network (seen n) j) ≡ accepted p answer [] (seen (schedule_network n j))
      = λ i. accepted (chosen_view goes f.base n j stay i) (answer_view goes f.base n j stay line i) [] (schedule_view goes f.base n j stay line i) in
      subst (λ (o : Outcome). Moved k (witnessed_alone k (schedule j) o)) (sym outcome)
      (quiet_step (moved n f.inv j new) (schedule_network n j).lines (with_stamp b j t).stamps k.answered k.booked
      (schedule_keeps n f.inv j ok) (schedule_grown n f.inv j ok) (book_moved j new t same) f.answers_are)

  -- ---- collect: the marks of the book's commits are those of the network's
  abbrev marks : List Bool
  marks = collected (book_place k) b k.removed

  commits_many : length n.history ≡ length b.commits
  commits_many = alike_many n.history b.commits f.commits_alike

  book_past : (m : ℕ) → m < length n.history → not_later (order_by (book_place k) (record_at b.commits m).stamp (earliest_stamp (book_place k) b.stamps)) ≡ is_past n m
  book_past m l i =
      let place = place_of (f.items_are i) in
      not_later (order_by place (sym (alike_stamp n.history b.commits f.commits_alike m l) i) (earliest_stamp place (sym f.stamps_are i)))

  marks_on : (m : ℕ) → m < length n.history → is_removed marks m ≡ (goes m || is_past n m)
  marks_on m l = collected_at (book_place k) b k.removed m (omega (arith, commits_many)) ∙ ap (λ (x : Bool). goes m || x) (book_past m l)

  marks_off : (m : ℕ) → length n.history ≤ m → is_removed marks m ≡ false
  marks_off m l = collected_few (book_place k) b k.removed m (omega (arith, commits_many))

  collect_step : collect_number (seen n) ≡ 0 → Stepped k (witnessed_alone k collect (accepted 0 no_stamp [] (collect_network (seen n))))
  unfolding noted
  collect_step z =
      subst (λ (m : Network). Stepped k (witnessed_alone k collect (accepted 0 no_stamp [] m))) (sym (collect_view n f.inv goes f.base f.removed (is_removed marks) marks_off marks_on))
      (record {
        follows = record {
          full = n;
          base = folded_base (seen n);
          state_is = refl;
          inv = f.inv;
          items_are = f.items_are;
          stamps_are = f.stamps_are;
          commits_alike = f.commits_alike;
          values_are = f.values_are;
          answers_are = f.answers_are;
          removed = collect_removed n f.inv goes f.base f.removed (is_removed marks) marks_off marks_on;
          folded_is = collect_folded n f.inv k.removed f.base f.removed marks marks_off marks_on f.folded_is;
        };
        grows = record {
          items_same = refl;
          many = refl;
          grows = book_grows n.sites b.stamps (same_grown n) f.stamps_are;
          commits = inl refl;
        };
      })

  -- ---- by the call's number
  judged_by : (P : Known → Type 0) (c : Call) (m : ℕ) (o : Outcome) → perform (some (seen n)) c ≡ judged m (some (seen n)) o
      → (eqb m 0 ≡ false → P (witnessed_alone k c (refused m (some (seen n))))) → (m ≡ 0 → P (witnessed_alone k c o)) → P (learned_alone k c)
  judged_by P c m o is other ok = subst (λ (x : Outcome). P (witnessed_alone k c x)) (sym (ap (λ (s : Option Network). perform s c) f.state_is ∙ is)) (go (eqb m 0) refl)
    where
      go : (t : Bool) → eqb m 0 ≡ t → P (witnessed_alone k c (cond t o (refused m (some (seen n)))))
      go true e = ok (eqb-true m 0 e)
      go false e = other e

  -- a step leaves as many commits, refused or not
  judged_move : (c : Call) (m : ℕ) (o : Outcome) → perform (some (seen n)) c ≡ judged m (some (seen n)) o → (m ≡ 0 → Moved k (witnessed_alone k c o)) → Moved k (learned_alone k c)
  judged_move c m o is = judged_by (Moved k) c m o is (refused_step c m)

  judged_step : (c : Call) (m : ℕ) (o : Outcome) → perform (some (seen n)) c ≡ judged m (some (seen n)) o → (m ≡ 0 → Stepped k (witnessed_alone k c o)) → Stepped k (learned_alone k c)
  judged_step c m o is = judged_by (Stepped k) c m o is (λ e. moved_stepped k (witnessed_alone k c (refused m (some (seen n)))) (refused_step c m e))

  step_moves : (c : Call) → is_step c ≡ true → Moved k (learned_alone k c)
  unfolding perform
  step_moves (set_up sites items ps ms) e = absurd (false≢true e)
  step_moves (commit i ks is vs) e = absurd (false≢true e)
  step_moves (dummy i) e = judged_move (dummy i) _ _ refl (dummy_step i)
  step_moves (epoch i t) e = judged_move (epoch i t) _ _ refl (epoch_step i t)
  step_moves (deliver p c) e = judged_move (deliver p c) _ _ refl (deliver_step p c)
  step_moves (schedule j) e = judged_move (schedule j) _ _ refl (schedule_step j)
  step_moves collect e = absurd (false≢true e)
  step_moves round e = absurd (false≢true e)
  step_moves (ask q) e = absurd (false≢true e)

-- ---- steps one after another
steps_move : (k : Known) → Follows k → (n : Network) (cs : List Call) → AllPass n cs → Moved k (learned_each k cs)
steps_move k f n [] a = moved_nothing k f
steps_move k f n (c ∷ cs) a =
    let one = step_moves k f c a.0.step in
    moved_more k (learned_alone k c) (learned_each (learned_alone k c) cs) one (steps_move (learned_alone k c) one.follows (stepped n c) cs a.1)

-- ---- a round
module _ (k : Known) (f : Follows k) where
  abbrev pub state : Network
  state = view (is_removed k.removed) f.base f.full

  pub state_shaped : well_shaped state ≡ true
  state_shaped = shaped_view f.full f.inv (is_removed k.removed) f.base f.removed (λ e m. none_marked k.removed m (sym f.folded_is ∙ e))

  pub round_calls_lem : round_number state ≡ 0 → AllPass state (round_calls state)
  unfolding RoundAccepted
  round_calls_lem z = round_accepted state state_shaped f.inv.sizes.sites z

  -- what is known after its calls is known after it
  pub round_moves : Moved k (learned k round)
  unfolding perform noted round_network
  round_moves =
      subst (λ (s : Option Network). Moved k (witnessed_alone (learned_each k (calls_of s round)) round (perform s round))) (sym f.state_is) (go (eqb m 0) refl)
    where
      m : ℕ
      m = round_number state

      o : Outcome
      o = accepted 0 no_stamp [] (walked state (round_calls state))

      go : (b : Bool) → eqb m 0 ≡ b → Moved k (witnessed_alone (learned_each k (cond b (round_calls state) [])) round (cond b o (refused m (some state))))
      go true e =
          let calls = round_calls_lem (eqb-true m 0 e) in
          let after = learned_each k (round_calls state) in
          subst (λ (s : Option Network). Moved k (record { state = s; book = after.book; items = after.items; values = after.values; removed = after.removed; answered = after.answered; booked = after.booked }))
          (accepted_learned k state (round_calls state) f.state_is calls).1 (steps_move k f state (round_calls state) calls)
      go false e = refused_step k f round m e

-- ---- any call
module _ (k : Known) (f : Follows k) where
  -- a set-up that is accepted is none of these
  pub call_steps : (c : Call) → (is_set_up c && is_accepted (perform k.state c)) ≡ false → Stepped k (learned k c)
  unfolding perform
  call_steps (set_up sites items ps ms) e =
      let m = set_up_number sites items ps ms in
      let o = accepted 0 no_stamp [] (set_up_network sites ps ms) in
      judged_step k f (set_up sites items ps ms) m o refl (λ z. absurd (true≢false (sym (eq-eqb (judged m k.state o).number 0 (judged_number m k.state o refl ∙ z)) ∙ e)))
  call_steps (commit i ks is vs) e = judged_step k f (commit i ks is vs) _ _ refl (commit_step k f i ks is vs)
  call_steps (dummy i) e = moved_stepped k _ (step_moves k f (dummy i) refl)
  call_steps (epoch i t) e = moved_stepped k _ (step_moves k f (epoch i t) refl)
  call_steps (deliver p c) e = moved_stepped k _ (step_moves k f (deliver p c) refl)
  call_steps (schedule j) e = moved_stepped k _ (step_moves k f (schedule j) refl)
  call_steps collect e = judged_step k f collect _ _ refl (collect_step k f)
  call_steps round e = moved_stepped k _ (round_moves k f)
  call_steps (ask q) e = moved_stepped k _ (judged_move k f (ask q) _ _ refl (ask_step k f q))

  call_follows : (c : Call) → Follows (learned k c)
  unfolding perform
  call_follows (set_up sites items ps ms) =
      let c = set_up sites items ps ms in
      let m = set_up_number sites items ps ms in
      judged_by k f Follows c m (accepted 0 no_stamp [] (set_up_network sites ps ms)) refl (λ e. (refused_step k f c m e).follows)
      (λ z. set_up_follows k f.answers_are sites items ps ms (set_up_allowed sites items ps ms z))
  call_follows (commit i ks is vs) = (call_steps (commit i ks is vs) refl).follows
  call_follows (dummy i) = (call_steps (dummy i) refl).follows
  call_follows (epoch i e) = (call_steps (epoch i e) refl).follows
  call_follows (deliver p c) = (call_steps (deliver p c) refl).follows
  call_follows (schedule j) = (call_steps (schedule j) refl).follows
  call_follows collect = (call_steps collect refl).follows
  call_follows round = (call_steps round refl).follows
  call_follows (ask q) = (call_steps (ask q) refl).follows

-- ---- all calls
pub calls_follow : (k : Known) → Follows k → (cs : List Call) → Follows (learned_all k cs)
calls_follow k f [] = f
calls_follow k f (c ∷ cs) = calls_follow (learned k c) (call_follows k f c) cs

-- what follows from that holds after every list of calls from an accepted set-up
pub always : (holds_of : Known → Type 0) → ((k : Known) → Follows k → holds_of k) → Always holds_of
unfolding perform
always holds_of g s sites items ps ms z calls =
    let c = set_up sites items ps ms in
    let m = set_up_number sites items ps ms in
    let o = accepted 0 no_stamp [] (set_up_network sites ps ms) in
    let none : m ≡ 0 = sym (judged_number m s o refl) ∙ z in
    let is : perform s c ≡ o = ap (λ (b : Bool). cond b o (refused m s)) (eq-eqb m 0 none) in
    let first : Follows (learned (nothing_known s) c) = subst (λ (x : Outcome). Follows (witnessed_alone (nothing_known s) c x)) (sym is) (set_up_follows (nothing_known s) refl sites items ps ms (set_up_allowed sites items ps ms none)) in
    g (learned_all (nothing_known s) (c ∷ calls)) (calls_follow (learned (nothing_known s) c) first calls)
