-- The items of a report put in their places one by one: the place found by halves, the items in order, and that they are those of the definition.
use mathlib.Core.Path.{◌≡◌, refl, sym, ap, ap₂, ◌∙◌}
use mathlib.Core.Bool.{Bool, true, false, cond, ◌&&◌, and-true, and-false, true≢false}
use mathlib.Core.List.{List, [], ◌∷◌, ◌++◌}
use Prim.Native.Nat.{ℕ, suc, ◌+◌, ◌-◌, ◌≤◌, ◌<◌}
use native.Mathlib.Omega.{arith}
use native.Mathlib.Numerals.{add-one}
use lib.ListN.{length, get_or, take, drop}
use lib.Seq.{length-take-le, take-suc, take_at, drop_at}
use lib.Dec.{eqb, ltb}
use borrow.Author.Tests.{lt-ltb, le-ltb, ltb-true, ltb-false, eqb-true, eqb-false}
use Rattle.std.specs.Prelude.{Ok, Err, IsErrAnd}
use Rattle.std.specs.declared.result.Result.{Result}
use Rattle.limits.specs.Limits.{items_most}
use Rattle.causes.specs.declared.Refusal.{Refusal}
use Rattle.causes.specs.Refusals.{refusal_number}
use Rattle.causes.proofs.Refusals.{refusal_some}
use Rattle.lists.specs.Lists.{padded}
use Rattle.lists.specs.Lists.{keep, up_to}
use Rattle.lists.specs.Sorting.{insert, place_in, sorted}
use Rattle.lists.proofs.Chains.{Each, Chain, each_at, each_implied, each_keep, each_up_to, chain_at, chain_keep}
use Rattle.lists.proofs.Sorting.{length_insert, each_sorted, in_order, sorted_alike}
use Rattle.lists.proofs.First.{insert_placed, place_found, place_within}
use Rattle.word_insertion.specs.Inserted.{inserted}
use Rattle.word_insertion.proofs.InsertionLaws.{free_place}
use Rattle.placement.specs.Placement.{copies}
use Rattle.protocol.specs.Network.{Network, place_of}
use Rattle.protocol.specs.Earliest.{no_later}
use Rattle.protocol.specs.Questions.{waiting, asked_site, question_number}
use Rattle.protocol.specs.Waiting.{is_waiting, earliest_write, waiting_items}
use Rattle.protocol.proofs.Earliest.{no_later_along, no_later_either}
use Rattle.network_layout.specs.Layout.{item_count}
use Rattle.network_layout.specs.declared.Report.{Report}
use Rattle.network_layout.specs.InWords.{network_in, in_range, number_in}
use Rattle.network_layout.proofs.Questions.{asked, unanswered}
use Rattle.network_layout.specs.At.{AtState}
use Rattle.network_layout.proofs.Assembled.{parts_of, range_parts}
use Rattle.network_layout.proofs.Performs.{records_count}
use Rattle.network_layout.proofs.OnNetwork.{has_record}
use Rattle.network_noting.specs.Noting.{stamp_at}
use Rattle.network_earliest_writes.specs.Noted.{EarliestAre}
use Rattle.network_waiting.specs.Report.{Reported}
use Rattle.network_waiting.specs.Places.{earliest_of, earliest_before, Written, Seeking, Between, Narrowed, PutIn}

-- ---- whether an item is waiting, by its earliest write
module _ (n : Network) (i : ℕ) (writers : List ℕ) (f : EarliestAre n i writers) (x : ℕ) (few : x < items_most) where
  by_earliest : (b : Bool) → ltb (earliest_of writers x) (length n.history) ≡ b → is_waiting n i x ≡ (copies n.items i x && b)
  unfolding is_waiting
  by_earliest b e = ap (λ (c : Bool). copies n.items i x && c) (f.found x few ∙ e)

  pub not_waiting : length n.history ≤ earliest_of writers x → false ≡ is_waiting n i x
  not_waiting h = sym (by_earliest false (le-ltb (earliest_of writers x) (length n.history) h) ∙ and-false (copies n.items i x))

  pub where_copied : earliest_of writers x < length n.history → copies n.items i x ≡ is_waiting n i x
  where_copied h = sym (by_earliest true (lt-ltb (earliest_of writers x) (length n.history) h) ∙ and-true (copies n.items i x))

  pub waiting_noted : is_waiting n i x ≡ true → earliest_of writers x < length n.history
  waiting_noted w = go (ltb (earliest_of writers x) (length n.history)) refl
    where
      go : (b : Bool) → ltb (earliest_of writers x) (length n.history) ≡ b → earliest_of writers x < length n.history
      go true e = ltb-true (earliest_of writers x) (length n.history) e
      go false e = absurd (true≢false (sym w ∙ sym (not_waiting (ltb-false (earliest_of writers x) (length n.history) e))))

-- ---- the place of an item among those in order
module _ (w writers : List ℕ) where
  abbrev before : ℕ → ℕ → Bool
  before = earliest_before w writers

  pub before_along : (j k l : ℕ) → before j k ≡ true → before k l ≡ true → before j l ≡ true
  before_along j k l = no_later_along (place_of (network_in w).items) (stamp_at (network_in w) (earliest_of writers j)) (stamp_at (network_in w) (earliest_of writers k)) (stamp_at (network_in w) (earliest_of writers l))

  pub before_either : (j k : ℕ) → before j k ≡ false → before k j ≡ true
  before_either j k = no_later_either (place_of (network_in w).items) (stamp_at (network_in w) (earliest_of writers j)) (stamp_at (network_in w) (earliest_of writers k))

  module _ (items : List ℕ) (k : ℕ) (s : Seeking items w writers k) (low high : ℕ) (b : Between items w writers k low high) where
    abbrev item : ℕ → ℕ
    item a = get_or items a 0

    module _ (m : ℕ) (from : low ≤ m) (to : m < high) where
      -- it stands before the item in the middle, and so before those above that
      pub lower_half : before k (item m) ≡ true → Narrowed items w writers k (high - low) low m
      lower_half t =
          record {
            between = record { rising = from; within = omega (arith, b.within); behind = b.behind; before = λ a h l. above a h l (eqb m a) refl };
            fewer = omega (arith, from, to);
          }
        where
          above : (a : ℕ) → m ≤ a → a < length items → (c : Bool) → eqb m a ≡ c → before k (item a) ≡ true
          above a h l true e = ap (λ (z : ℕ). before k (item z)) (sym (eqb-true m a e)) ∙ t
          above a h l false e = before_along k (item m) (item a) t (s.ordered m a (omega (arith, h, eqb-false m a e)) l)

      -- it does not, and so it stands before none below that
      pub upper_half : before k (item m) ≡ false → Narrowed items w writers k (high - low) (m + 1) high
      upper_half f =
          record {
            between = record { rising = omega arith; within = b.within; behind = λ a h. below a h (eqb a m) refl; before = b.before };
            fewer = omega (arith, from, to);
          }
        where
          not_yet : (a : ℕ) → a < m → (c : Bool) → before k (item a) ≡ c → c ≡ false
          not_yet a h true e = absurd (true≢false (sym (before_along k (item a) (item m) e (s.ordered a m h (omega (arith, b.within)))) ∙ f))
          not_yet a h false e = refl

          below : (a : ℕ) → a < m + 1 → (c : Bool) → eqb a m ≡ c → before k (item a) ≡ false
          below a h true e = ap (λ (z : ℕ). before k (item z)) (eqb-true a m e) ∙ f
          below a h false e = not_yet a (omega (arith, h, eqb-false a m e)) (before k (item a)) refl

    pub place_left : high ≤ low → low ≡ place_in before k items
    place_left h = place_found before k 0 items low (omega (arith, b.rising, b.within)) b.behind (λ l. b.before low h l)

-- ---- an item put in, or not
module _ (w writers : List ℕ) (i k count : ℕ) (items : List ℕ) where
  pub not_put : is_waiting (network_in w) i k ≡ false → PutIn w writers i k count count items items
  not_put e = record { above = omega arith; below = omega arith; items_are = sym (rw e); rest_is = refl }

  -- the words with room for one more, and what inserting leaves of them
  module _ (room : count < length items) (waits : is_waiting (network_in w) i k ≡ true) (m : ℕ) (size : m ≡ count + 1) (at : ℕ) (found : at ≡ place_in (earliest_before w writers) k (take count items)) where
    abbrev used : List ℕ
    used = take count items

    abbrev put : List ℕ
    put = insert (earliest_before w writers) k used

    with_room : take m items ≡ used ++ (get_or items count 0 ∷ [])
    with_room = ap (λ (l : ℕ). take l items) (size ∙ add-one count) ∙ take-suc items count 0 room

    inserted_is : inserted (take m items) at k ≡ put
    inserted_is =
        ap₂ (λ (l : List ℕ) (p : ℕ). inserted l p k) with_room found
        ∙ free_place used (get_or items count 0) (place_in (earliest_before w writers) k used) k (place_within (earliest_before w writers) k used)
        ∙ sym (insert_placed (earliest_before w writers) k used)

    put_length : length put ≡ count + 1
    put_length = length_insert (earliest_before w writers) k used ∙ ap suc (length-take-le count items (omega arith)) ∙ sym (add-one count)

    pub put_in : (ys : List ℕ) → ys ≡ inserted (take m items) at k → PutIn w writers i k count (count + 1) items (ys ++ drop m items)
    put_in ys e =
        let all : ys ++ drop m items ≡ put ++ drop (count + 1) items = ap₂ (λ (l : List ℕ) (n : ℕ). l ++ drop n items) (e ∙ inserted_is) size in
        record {
          above = omega arith;
          below = omega arith;
          items_are = ap (take (count + 1)) all ∙ take_at put (drop (count + 1) items) (count + 1) put_length ∙ sym (rw waits refl);
          rest_is = ap (drop (count + 1)) all ∙ drop_at put (drop (count + 1) items) (count + 1) put_length;
        }

-- ---- the items from k on that are waiting, in order
module _ (w writers : List ℕ) (i : ℕ) where
  abbrev waits : ℕ → Bool
  waits = is_waiting (network_in w) i

  abbrev pub in_place : ℕ → ℕ → List ℕ
  in_place k m = sorted (earliest_before w writers) (keep waits (up_to k m))

  abbrev put_or_not : ℕ → List ℕ → List ℕ
  put_or_not k used = cond (waits k) (insert (earliest_before w writers) k used) used

  pub placed_next : (k k' placed : ℕ) → k ≡ suc k' → k ≤ placed → (used next : List ℕ) → used ≡ in_place k (placed - k) → next ≡ put_or_not k' used → next ≡ in_place k' (placed - k')
  placed_next k k' placed at few used next e is =
      let size : suc (placed - k) ≡ placed - k' = omega arith in
      is
      ∙ ap (put_or_not k') (e ∙ ap (λ (j : ℕ). in_place j (placed - k)) at)
      ∙ go (waits k')
      ∙ ap (in_place k') size
    where
      rest : List ℕ
      rest = keep waits (up_to (suc k') (placed - k))

      go : (b : Bool) → cond b (insert (earliest_before w writers) k' (sorted (earliest_before w writers) rest)) (sorted (earliest_before w writers) rest) ≡ sorted (earliest_before w writers) (cond b (k' ∷ rest) rest)
      go true = refl
      go false = refl

module _ (w writers : List ℕ) (i : ℕ) (at : AtState w) (f : EarliestAre (network_in w) i writers) where
  -- an item that is waiting is written by a message
  pub waiting_written : (x : ℕ) → x < items_most → waits w writers i x ≡ true → Written w writers x
  waiting_written x few t =
      record {
        placed = omega (arith, few, f.sized);
        has = has_record w at (earliest_of writers x) (omega (arith, records_count w, waiting_noted (network_in w) i writers f x few t));
      }

  pub seeking : (items : List ℕ) (k m j : ℕ) → k + m ≤ items_most → items ≡ in_place w writers i k m → Written w writers j → Seeking items w writers j
  seeking items k m j few e here =
      record {
        item = here;
        written = rw e (each_at (Written w writers) (in_place w writers i k m) 0 all);
        ordered = rw e (chain_at _ (in_place w writers i k m) 0 (in_order (earliest_before w writers) (before_along w writers) (before_either w writers) (keep (waits w writers i) (up_to k m))));
      }
    where
      all : Each (Written w writers) (in_place w writers i k m)
      all =
          each_sorted (earliest_before w writers) (Written w writers) (keep (waits w writers i) (up_to k m))
          (each_keep (waits w writers i) (Written w writers) (up_to k m) (each_up_to _ k m (λ x g l t. waiting_written x (omega (arith, l, few)) t)))

  -- by the records noted as by the definition
  abbrev defined : ℕ → ℕ → Bool
  defined j k = no_later (place_of (network_in w).items) (earliest_write (network_in w) i j) (earliest_write (network_in w) i k)

  pub all_in_place : (m : ℕ) → m ≡ length (network_in w).items → m ≤ items_most → in_place w writers i 0 m ≡ waiting_items (network_in w) i
  unfolding waiting_items
  all_in_place m e few =
      sorted_alike (earliest_before w writers) defined (keep (waits w writers i) (up_to 0 m))
      (chain_keep (waits w writers i) _ (up_to 0 m) (chain_below (up_to 0 m) (each_up_to (λ x. x < items_most) 0 m (λ x g l. omega (arith, l, few)))))
      ∙ ap (λ (l : ℕ). sorted defined (keep (waits w writers i) (up_to 0 l))) e
    where
      noted_is : (x : ℕ) → x < items_most → waits w writers i x ≡ true → stamp_at (network_in w) (earliest_of writers x) ≡ earliest_write (network_in w) i x
      noted_is x l t = f.earliest x l (waiting_noted (network_in w) i writers f x l t)

      alike : (j k : ℕ) → j < items_most → k < items_most → waits w writers i j ≡ true → waits w writers i k ≡ true
          → earliest_before w writers j k ≡ defined j k
      alike j k a b s t = ap₂ {C = Bool} (no_later (place_of (network_in w).items)) (noted_is j a s) (noted_is k b t)

      chain_below : (xs : List ℕ) → Each (λ x. x < items_most) xs
          → Chain (λ j k. waits w writers i j ≡ true → waits w writers i k ≡ true → earliest_before w writers j k ≡ defined j k) xs
      chain_below [] h = tt
      chain_below (x ∷ xs) h = (each_implied (λ y. y < items_most) _ (λ y l s t. alike x y h.0 l s t) xs h.1, chain_below xs h.1)

-- there are no more items than places
pub few_placed : (w : List ℕ) → in_range w ≡ true → item_count w ≤ items_most
unfolding parts_of
few_placed w e = (range_parts w e).few_items

-- refused with its number
pub report_refused : (w : List ℕ) (i : ℕ) (r : Result Report Refusal) (e : Refusal) → IsErrAnd r (λ x. x ≡ e) → refusal_number e ≡ number_in w (λ n. asked_site n i) → Reported i w r
unfolding question_number
report_refused w i (Ok a) e is of = absurd is
report_refused w i (Err x) e is of =
    let named = ap refusal_number is ∙ of in
    let none = unanswered (waiting i) w [] (λ n. waiting_items n i) (λ z. refusal_some x (named ∙ z)) in
    record { performed = asked (waiting i) w (refusal_number x) named; count_is = ap length none; items_are = ap (padded items_most 0) none; few = omega arith }
