-- One-copy agreement, and the run over the commits kept.
use mathlib.Core.Path.{◌≡◌, refl, ap, sym, subst, ◌∙◌}
use mathlib.Core.Bool.{Bool, true, false, true≢false}
use mathlib.Core.List.{List, ◌++◌}
use mathlib.Core.Option.{some, some-injective}
use Prim.Native.Nat.{ℕ, ◌<◌}
use native.Mathlib.Omega.{arith}
use lib.IntN.{ℤ, pos}
use lib.ListN.{length, get_or, length-map, length-replicate}
use Rattle.lists.specs.Lists.{keep}
use Rattle.lists.proofs.Chains.{chain_split}
use Rattle.lists.proofs.Sorting.{chain_sorted}
use Rattle.lists.proofs.Some.{none_marked}
use Rattle.timestamp_order.specs.Order.{order_by, not_later, IsEarlier, NotLater}
use Rattle.site.specs.InWords.{table_size}
use Rattle.site.specs.Site.{Site}
use Rattle.placement.specs.Placement.{Item}
use Rattle.records.specs.Records.{Record}
use Rattle.protocol.specs.Network.{Network, record_at, place_of}
use Rattle.protocol.specs.Run.{Turn, numbered, comes_first, in_turn, after, start_table, shown, value_at}
use Rattle.protocol.specs.Collect.{staying}
use Rattle.protocol.specs.Agreement.{Known, is_removed, book_place, holds, removed_turns, kept_turns, Agreement, OneCopyAgreement, RunsFromBase, KeptRun}
use Rattle.protocol.proofs.Times.{times}
use Rattle.protocol.proofs.Turns.{chain_number}
use Rattle.protocol.proofs.Runs.{all_zero_lem, run_numbers, run_value, run_shows}
use Rattle.protocol.proofs.Alike.{alike_many, alike_stamp, alike_shown, alike_value, alike_numbers}
use Rattle.protocol.proofs.Places.{place_at, order_at}
use Rattle.protocol.proofs.Invariant.{stamp_at, table_at, Invariant, stamps_apart, writers_rise}
use Rattle.protocol.proofs.View.{view}
use Rattle.protocol.proofs.FromBase.{from_base}
use Rattle.protocol.proofs.Kept.{Kept, kept_of_lem}
use Rattle.protocol.proofs.Follows.{reads_of, Follows, always}

-- ---- the commits of a network without collects
module _ (n : Network) (inv : Invariant n) where
  start_reaches : (x : ℕ) → x < length n.items → x < length start_table
  start_reaches x b = omega (arith, inv.sizes.items, length-replicate table_size (pos 0))

  run_history : n.history ≡ shown (place_at n) start_table n.history
  run_history =
      run_shows (place_at n) start_table (λ x. pos 0) all_zero_lem n.history (stamps_apart n inv) (writers_rise n inv)
      (λ k l a b. start_reaches _ (inv.allowed k l a b).item) inv.read

-- ---- what follows from the calls agrees with the run
module _ (k : Known) (f : Follows k) where
  open times (book_place k) use {upto_before, later_fails, fails_later}

  abbrev n : Network
  n = f.full

  abbrev cs : List Record
  cs = k.book.commits

  abbrev goes : ℕ → Bool
  goes = is_removed k.removed

  abbrev v : Network
  v = view goes f.base n

  place_is : place_at n ≡ book_place k
  place_is = ap place_of (sym f.items_are)

  history_shown : n.history ≡ shown (book_place k) start_table cs
  history_shown =
      run_history n f.inv
      ∙ alike_shown (place_at n) n.history cs f.commits_alike
      ∙ ap (λ (place : ℕ → ℕ). shown place start_table cs) place_is

  -- the sites and items of the calls are the network's
  site_there : (i : ℕ) → i < length k.book.stamps → i < length n.sites
  site_there i l = omega (arith, ap length f.stamps_are, length-map n.sites (λ (s : Site). s.stamp))

  item_there : (x : ℕ) → x < length k.items → x < length n.items
  item_there x b = omega (arith, ap length f.items_are)

  table_reaches : (i x : ℕ) → i < length k.book.stamps → x < length k.items → x < length (table_at n i)
  table_reaches i x l b = omega (arith, item_there x b, f.inv.sizes.items, f.inv.sizes.tables i (site_there i l))

  pub copy_agrees : (i x : ℕ) → i < length k.book.stamps → x < length k.items → holds k.items i x ≡ true
      → get_or (table_at n i) x (pos 0) ≡ value_at (book_place k) start_table cs (stamp_at n i) x
  copy_agrees i x l b e =
      let item = item_there x b in
      let held : holds n.items i x ≡ true = ap (λ (xs : List Item). holds xs i x) (sym f.items_are) ∙ e in
      f.inv.copy i x (site_there i l) item held
      ∙ sym (run_value (place_at n) start_table (λ y. pos 0) all_zero_lem x (start_reaches n f.inv x item) n.history (writers_rise n f.inv x) (stamp_at n i))
      ∙ alike_value (place_at n) n.history cs f.commits_alike (stamp_at n i) x
      ∙ ap (λ (place : ℕ → ℕ). value_at place start_table cs (stamp_at n i) x) place_is

  base_is : (x : ℕ) → x < length k.items → get_or f.base.values x (pos 0) ≡ get_or (after start_table (removed_turns k)) x (pos 0)
  base_is x b =
      let item = item_there x b in
      f.removed.base_is x item
      ∙ sym (run_numbers (place_at n) start_table (λ y. pos 0) all_zero_lem x (start_reaches n f.inv x item) n.history (writers_rise n f.inv x) goes)
      ∙ ap (λ (l : List ℤ). get_or l x (pos 0)) (alike_numbers (place_at n) n.history cs f.commits_alike goes)
      ∙ ap (λ (place : ℕ → ℕ). get_or (after start_table (keep (λ (c : Turn). goes c.number) (in_turn place cs))) x (pos 0)) place_is

  -- ---- the removed come before the others
  -- one not later than one that goes goes too
  goes_before : (m j : ℕ) → m < length cs → j < length cs → NotLater (book_place k) (record_at cs m).stamp (record_at cs j).stamp → goes j ≡ true → goes m ≡ true
  goes_before m j a b e g = go (goes m) refl
    where
      go : (t : Bool) → goes m ≡ t → goes m ≡ true
      go true h = h
      go false h =
          let many = alike_many n.history cs f.commits_alike in
          let old-m : m < length n.history = omega arith in
          let old-j : j < length n.history = omega arith in
          let same = alike_stamp n.history cs f.commits_alike in
          let lead : IsEarlier (book_place k) (record_at cs j).stamp (record_at cs m).stamp = (λ i. order_by (sym place_is i) (sym (same j old-j) i) (sym (same m old-m) i)) ∙ f.removed.lead j m old-j old-m g h in
          absurd (true≢false (sym e ∙ later_fails (record_at cs m).stamp (record_at cs j).stamp lead))

  removed_first : in_turn (book_place k) cs ≡ removed_turns k ++ kept_turns k
  removed_first =
      let gone : Turn → Bool = λ c. goes c.number in
      let first = comes_first (book_place k) in
      chain_split gone (in_turn (book_place k) cs)
      (chain_sorted first (λ c d. gone d ≡ true → gone c ≡ true) (λ c d e p q g. p (q g)) (numbered 0 cs)
      (chain_number cs _
      (λ m j a b. (goes_before m j (omega arith) b, λ e. goes_before j m b (omega arith) (upto_before (record_at cs j).stamp (record_at cs m).stamp (fails_later (record_at cs m).stamp (record_at cs j).stamp e))))))

  agreement_of : Agreement k
  agreement_of =
      record {
        network = v;
        state_is = f.state_is;
        items_agree = sym f.items_are;
        values_agree = f.values_are ∙ ap reads_of history_shown;
        history_agrees = ap (staying goes) history_shown;
        removed_lead = removed_first;
        base_reaches = f.removed.base_length ∙ ap length (sym f.items_are);
        base_agrees = base_is;
        folded_agrees = f.folded_is;
        answers_agree = f.answers_are;
        stamps_agree = f.stamps_are;
        tables_reach = table_reaches;
        copies_agree = copy_agrees;
      }

  -- ---- the state that there is
  of_state : (P : Network → Type 0) → P v → (m : Network) → k.state ≡ some m → P m
  of_state P p m e = subst P (some-injective v m (sym f.state_is ∙ e)) p

  kept_view : Kept v
  kept_view = kept_of_lem n f.inv goes f.base f.removed (λ e m. none_marked k.removed m (sym f.folded_is ∙ e))

  pub kept_state : (m : Network) → k.state ≡ some m → Kept m
  kept_state = of_state Kept kept_view

  -- ---- the run over the commits kept, from the base values on
  runs_from_base : RunsFromBase v
  runs_from_base =
      let values = f.base.values in
      let start : ℕ → ℤ = λ x. get_or values x (pos 0) in
      record {
        history_shown = run_shows (place_at n) values start (λ x l. refl) v.history kept_view.apart kept_view.rise
            (λ m l a b. omega (arith, kept_view.items m l a b, f.removed.base_length)) kept_view.read;
        copies_shown = λ i x l b e.
            let up_to : Record → Bool = λ r. not_later (order_at n r.stamp (stamp_at n i)) in
            f.inv.copy i x l b e
            ∙ from_base n f.inv goes f.base f.removed up_to (λ m c g. f.removed.bound m c g i l) x b
            ∙ sym (run_value (place_at n) values start (λ y c. refl) x (omega (arith, f.removed.base_length)) v.history (kept_view.rise x) (stamp_at n i));
      }

pub one_copy_agreement : OneCopyAgreement
unfolding OneCopyAgreement
one_copy_agreement = always Agreement agreement_of

pub kept_run : KeptRun
unfolding KeptRun
kept_run = always _ (λ k f. of_state k f RunsFromBase (runs_from_base k f))
