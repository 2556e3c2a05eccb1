-- From a step's number and the network after it to what its contract promises; the placement as the code asks for it.
use mathlib.Core.Path.{◌≡◌, refl, sym, ap, ◌∙◌}
use mathlib.Core.Bool.{Bool, true, false, not, cond}
use mathlib.Core.List.{List, []}
use mathlib.Core.Option.{Option, none, some}
use Prim.Native.Nat.{ℕ, ◌≤◌, ◌<◌, min}
use native.Mathlib.Omega.{arith}
use lib.IntN.{ℤ}
use lib.ListN.{length, get_or, length-map, length-set, get_or-eq_default}
use lib.Dec.{ltb}
use borrow.Author.Tests.{eq-eqb, ne_eqb, le-leb, lt-leb, leb-false, ltb-true, ltb-false}
use mir.Val.{to_z}
use mir.Syntax.{w32}
use Rattle.words.specs.Words.{part}
use Rattle.words.proofs.Parts.{part_length}
use Rattle.words.proofs.Chunks.{chunks_length}
use Rattle.lists.proofs.Every.{and_true}
use Rattle.timestamp_order.specs.Timestamp.{Stamp}
use Rattle.site.specs.Site.{Site}
use Rattle.site.specs.InWords.{site_in, site_size}
use Rattle.placement.specs.Placement.{no_item}
use Rattle.lists.specs.Numbers.{number_if}
use Rattle.placement.specs.InWords.{items_in, item_at}
use Rattle.limits.specs.Limits.{items_most, sites_most, records_most}
use Rattle.placement.proofs.Items.{items_length, items_at_lem}
use Rattle.lines.specs.InWords.{line_in, line_size}
use Rattle.records.specs.InWords.{record_in, record_size}
use Rattle.network_layout.specs.Layout.{items_at, items_size, sites_at, sites_size, lines_at, lines_size, history_at, history_size, base_at, base_size, state_size}
use Rattle.protocol.specs.Network.{lines_most, Network, no_stamp, site_at, well_shaped}
use Rattle.protocol.specs.Steps.{no_such_site}
use Rattle.protocol.specs.Calls.{Call, Outcome, refused, judged, perform}
use Rattle.network_layout.specs.InWords.{site_words, line_words, record_words, network_in, in_range, shaped, meaning, number_in, SiteStep}
use Rattle.network_layout.specs.Promises.{Performed}
use Rattle.lists.proofs.Numbers.{none_holds}
use Rattle.network_layout.proofs.Assembled.{parts_of, range_parts}

-- ---- how many of each there are
module _ (w : List ℕ) where
  pub sites_count : length (network_in w).sites ≡ get_or w 0 0
  unfolding network_in
  sites_count = length-map (site_words w) site_in ∙ chunks_length site_size (get_or w 0 0) (part w sites_at sites_size)

  pub lines_count : length (network_in w).lines ≡ lines_most
  unfolding network_in
  lines_count = length-map (line_words w) line_in ∙ chunks_length line_size lines_most (part w lines_at lines_size)

  pub records_count : length (network_in w).history ≡ get_or w 2 0
  unfolding network_in
  records_count = length-map (record_words w) record_in ∙ chunks_length record_size (get_or w 2 0) (part w history_at history_size)

  pub records_few : in_range w ≡ true → length (network_in w).history ≤ records_most
  unfolding parts_of
  records_few e = omega (arith, records_count, (range_parts w e).few_records)

  -- the items, as the placement's functions read them
  pub items_asked : in_range w ≡ true → (n : ℕ) → n ≡ get_or w 1 0 → items_in (min n items_most) (part w items_at items_size) ≡ (network_in w).items
  unfolding network_in parts_of
  items_asked e n is =
      let m : min n items_most ≡ get_or w 1 0 = omega (arith, (range_parts w e).few_items) in
      ap (λ (k : ℕ). items_in k (part w items_at items_size)) m

  pub site_there : (i : ℕ) → ltb i (get_or w 0 0) ≡ not (no_such_site (network_in w) i)
  site_there i = go (ltb i (get_or w 0 0)) refl
    where
      go : (b : Bool) → ltb i (get_or w 0 0) ≡ b → ltb i (get_or w 0 0) ≡ not (no_such_site (network_in w) i)
      go true h = h ∙ sym (ap not (lt-leb (length (network_in w).sites) i (omega (arith, sites_count, ltb-true i (get_or w 0 0) h))))
      go false h = h ∙ sym (ap not (le-leb (length (network_in w).sites) i (omega (arith, sites_count, ltb-false i (get_or w 0 0) h))))

  -- ---- well shaped words
  pub shaped_range : shaped w ≡ true → in_range w ≡ true
  unfolding shaped
  shaped_range e = (and_true (in_range w) (well_shaped (network_in w)) e).0

  pub shaped_well : shaped w ≡ true → well_shaped (network_in w) ≡ true
  unfolding shaped
  shaped_well e = (and_true (in_range w) (well_shaped (network_in w)) e).1

  pub meaning_some : (n : Network) → in_range w ≡ true → network_in w ≡ n → well_shaped n ≡ true → meaning w ≡ some n
  unfolding meaning shaped
  meaning_some n r e s = rw (r, ap well_shaped e ∙ s) (ap {B = Option Network} some e)

  module _ (number : Network → ℕ) where
    pub number_unshaped : shaped w ≡ false → 6 ≡ number_in w number
    unfolding number_in
    number_unshaped e = sym (rw e)

    pub number_shaped : shaped w ≡ true → number_in w number ≡ number (network_in w)
    unfolding number_in
    number_shaped e = rw e

    pub number_none : number_in w number ≡ 0 → (shaped w ≡ true) × (number (network_in w) ≡ 0)
    unfolding number_in
    number_none e = go (shaped w) refl
      where
        go : (b : Bool) → shaped w ≡ b → (shaped w ≡ true) × (number (network_in w) ≡ 0)
        go true h = (h, rw h at e)
        go false h = absurd (let z : ◌≡◌ {A = ℕ} 6 0 = rw h at e in omega arith)

-- ---- a call that needs a network: its number, and its outcome where no cause holds
module _ (call : Call) (number : Network → ℕ) (outcome : Network → Outcome) (at_some : (n : Network) → perform (some n) call ≡ judged (number n) (some n) (outcome n)) (at_none : perform none call ≡ refused 6 none) where
  not_accepted : (w : List ℕ) → (number_in w number ≡ 0 → ⊥) → perform (meaning w) call ≡ refused (number_in w number) (meaning w)
  unfolding meaning number_in
  not_accepted w h = go (shaped w) refl
    where
      go : (b : Bool) → shaped w ≡ b → perform (meaning w) call ≡ refused (number_in w number) (meaning w)
      go true e =
          let no_zero : number (network_in w) ≡ 0 → ⊥ = λ z. h (number_shaped w number e ∙ z) in
          rw e (at_some (network_in w) ∙ ap (λ (b : Bool). cond b (outcome (network_in w)) (refused (number (network_in w)) (some (network_in w)))) (ne_eqb (number (network_in w)) 0 no_zero))
      go false e = rw e at_none

  pub performs_refused : (w : List ℕ) (r : ℕ) → r ≡ number_in w number → (r ≡ 0 → ⊥) → Performed call w w r 0 no_stamp []
  performs_refused w r e h =
      let o = not_accepted w (λ z. h (e ∙ z)) in
      record {
        number_is = e ∙ sym (ap (λ (x : Outcome). x.number) o);
        parent_is = sym (ap (λ (x : Outcome). x.parent) o);
        stamp_is = sym (ap (λ (x : Outcome). x.stamp) o);
        values_are = sym (ap (λ (x : Outcome). x.values) o);
        after_is = sym (ap (λ (x : Outcome). x.after) o);
        kept = λ z. refl;
      }

  pub performs_accepted : (w v : List ℕ) (p : ℕ) (t : Stamp) (vs : List ℤ) → number_in w number ≡ 0
      → 0 ≡ (outcome (network_in w)).number → p ≡ (outcome (network_in w)).parent → t ≡ (outcome (network_in w)).stamp → vs ≡ (outcome (network_in w)).values → meaning v ≡ (outcome (network_in w)).after
      → Performed call w v 0 p t vs
  unfolding meaning
  performs_accepted w v p t vs z k pe te ve ae =
      let q = number_none w number z in
      let o : perform (meaning w) call ≡ outcome (network_in w)
      = rw q.0 (at_some (network_in w) ∙ ap (λ (b : Bool). cond b (outcome (network_in w)) (refused (number (network_in w)) (some (network_in w)))) (eq-eqb (number (network_in w)) 0 q.1)) in
      record {
        number_is = k ∙ sym (ap (λ (x : Outcome). x.number) o);
        parent_is = pe ∙ sym (ap (λ (x : Outcome). x.parent) o);
        stamp_is = te ∙ sym (ap (λ (x : Outcome). x.stamp) o);
        values_are = ve ∙ sym (ap (λ (x : Outcome). x.values) o);
        after_is = ae ∙ sym (ap (λ (x : Outcome). x.after) o);
        kept = λ y. absurd (y refl);
      }

-- a site that is there has a number below 8
pub site_below : (w : List ℕ) → in_range w ≡ true → (i : ℕ) → no_such_site (network_in w) i ≡ false → (i < get_or w 0 0) × (i < sites_most)
unfolding parts_of
site_below w e i h =
    let b = leb-false (length (network_in w).sites) i h in
    (omega (arith, b, sites_count w), omega (arith, b, sites_count w, (range_parts w e).few_sites))

-- ---- the causes that come first: 6, then 7
module _ (w : List ℕ) (i : ℕ) where
  pub site_found : number_in w (λ n. number_if (no_such_site n i) 7) ≡ 0 → (shaped w ≡ true) × (no_such_site (network_in w) i ≡ false)
  site_found z = let q = number_none w (λ n. number_if (no_such_site n i) 7) z in (q.0, (none_holds (no_such_site (network_in w) i) 6 [] (rw q.1)).0)

pub few_sites : (w : List ℕ) → in_range w ≡ true → length (network_in w).sites ≤ sites_most
unfolding parts_of
few_sites w e = omega (arith, sites_count w, (range_parts w e).few_sites)

-- a step on one site leaves the number of sites
pub site_step_below : (w v : List ℕ) (i : ℕ) (step : Site → Site) → SiteStep w v i step → get_or v 0 0 ≡ get_or w 0 0
site_step_below w v i step s =
    sym (sites_count v) ∙ ap (λ (n : Network). length n.sites) s.meant ∙ length-set (network_in w).sites i (step (site_at (network_in w) i)) ∙ sites_count w

-- ---- a base value for each item
pub values_count : (w : List ℕ) → length w ≡ state_size → in_range w ≡ true → length (network_in w).base.values ≡ get_or w 1 0
unfolding network_in parts_of
values_count w size e =
    let base = part w base_at base_size in
    length-map (part base 1 (get_or w 1 0)) (to_z w32) ∙ part_length base 1 (get_or w 1 0) (omega (arith, part_length w base_at base_size (omega arith), (range_parts w e).few_items))

-- ---- one item of the placement
module _ (w : List ℕ) (k : ℕ) where
  pub items_count : length (network_in w).items ≡ get_or w 1 0
  unfolding network_in
  items_count = items_length (get_or w 1 0) (part w items_at items_size)

  pub item_read : k < get_or w 1 0 → item_at (part w items_at items_size) k ≡ get_or (network_in w).items k no_item
  unfolding network_in
  item_read h = sym (items_at_lem (get_or w 1 0) (part w items_at items_size) k h)

  pub item_none : get_or w 1 0 ≤ k → no_item ≡ get_or (network_in w).items k no_item
  item_none h = sym (get_or-eq_default (network_in w).items no_item {n = k} (omega (arith, items_count)))
