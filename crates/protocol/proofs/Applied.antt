-- A round in a network reached from a set-up: it counts as its calls, and every commit made before it is applied at all its copies.
use mathlib.Core.Path.{◌≡◌, refl, ap, sym, subst, ◌∙◌}
use mathlib.Core.Bool.{◌||◌, or-true, Bool, true, false, not, cond, true≢false}
use mathlib.Core.List.{List, []}
use mathlib.Core.Option.{Option, some, some-injective}
use Prim.Native.Nat.{ℕ, ◌≤◌, ◌<◌}
use native.Mathlib.Omega.{arith}
use lib.IntN.{pos}
use lib.ListN.{length, get_or, length-map}
use lib.Dec.{ltb}
use borrow.Author.Tests.{eq-eqb, ltb-true, ltb-false}
use Rattle.limits.specs.Limits.{sites_most}
use Rattle.lists.specs.Lists.{any, keep}
use Rattle.lists.proofs.Chains.{Each, each_implied, keep_all, map_none}
use Rattle.lists.proofs.Renumber.{count_all}
use Rattle.lists.proofs.KeptFrom.{each_from, kept_none as gone-all}
use Rattle.lists.proofs.Sorting.{each_sorted}
use Rattle.timestamp_order.specs.Timestamp.{Stamp}
use Rattle.timestamp_order.specs.Order.{order_by, not_later, NotLater}
use Rattle.timestamp_order.proofs.OrderLaws.{epoch_later}
use Rattle.site.specs.Site.{Site}
use Rattle.lines.specs.Lines.{Line}
use Rattle.messages.specs.Messages.{Message, commit, dummy}
use Rattle.records.specs.Records.{Record}
use Rattle.protocol.specs.Network.{Network, no_stamp, no_record, record_at, nth_record, place_of, site_at}
use Rattle.protocol.specs.Run.{Turn, numbered, comes_first, in_turn, after, start_table, value_at, is_up_to}
use Rattle.protocol.specs.Collect.{point_of, is_past, names_one, renamed, renamed_line, collect_number, collect_network, removed_by}
use Rattle.protocol.specs.Round.{next_epoch, round_calls, round_number, round_network}
use Rattle.protocol.specs.Calls.{Outcome, collect, round, refused, accepted, perform}
use Rattle.protocol.specs.Agreement.{Known, is_removed, book_place, holds, witnessed_alone, learned, CountsAs, RoundCounts, RoundIsItsCalls, Applied, RoundApplies, RoundReaches}
use Rattle.protocol.proofs.Times.{times}
use Rattle.protocol.proofs.Alike.{alike_many, alike_stamp}
use Rattle.protocol.proofs.Places.{UpTo}
use Rattle.protocol.proofs.Invariant.{stamp_at, record_site}
use Rattle.protocol.proofs.Turns.{each_number}
use Rattle.protocol.proofs.Stays.{Stays, each_stays}
use Rattle.protocol.proofs.Kept.{stay_each}
use Rattle.protocol.specs.Earliest.{earliest_stamp}
use Rattle.protocol.proofs.Earliest.{earliest_one}
use Rattle.protocol.proofs.Point.{point_one}
use Rattle.protocol.proofs.Collected.{collect_accepted, collected_at}
use Rattle.protocol.proofs.Walks.{judged_number, accepted_learned}
use Rattle.protocol.proofs.Rounds.{below_new, round_late}
use Rattle.protocol.proofs.Follows.{Follows, Moved, state, state_shaped, round_calls_lem, round_moves, stamp_at_lem, always}
use Rattle.protocol.proofs.Theorem.{copy_agrees}

-- ---- epochs and the order
-- one not later is of no later epoch
upto_epoch : (place : ℕ → ℕ) (s t : Stamp) → NotLater place s t → s.epoch ≤ t.epoch
upto_epoch place s t e = go (ltb t.epoch s.epoch) refl
  where
    go : (b : Bool) → ltb t.epoch s.epoch ≡ b → s.epoch ≤ t.epoch
    go true f =
        let order = times place in
        absurd (true≢false (sym e ∙ order.later_fails s t (epoch_later place t s (ltb-true t.epoch s.epoch f))))
    go false f = ltb-false t.epoch s.epoch f

-- ---- what is known, and a round that is accepted
module _ (k : Known) (f : Follows k) where
  abbrev v : Network
  v = state k f

  abbrev v_is : k.state ≡ some v
  v_is = f.state_is

  counts_of : (n : Network) → k.state ≡ some n → round_number n ≡ 0 → CountsAs k n
  unfolding round_network
  counts_of n is z =
      let same : v ≡ n = some-injective v n (sym v_is ∙ is) in
      let calls = subst (λ (m : Network). round_number m ≡ 0 → CountsAs k m) same
      (λ y. let a = accepted_learned k v (round_calls v) v_is (round_calls_lem k f y) in record { each_accepted = a.0; leaves = a.1 }) in
      calls z

  -- ---- where it is accepted
  module _ (z : round_number v ≡ 0) where
    abbrev m : Known
    m = learned k round

    abbrev moves : Moved k m
    moves = round_moves k f

    abbrev g : Follows m
    g = moves.follows

    -- the network without collects after it
    abbrev n : Network
    n = g.full

    -- the state after it
    abbrev s : Network
    s = state m g

    few : length v.sites ≤ sites_most
    few = f.inv.sizes.sites

    left_is : s ≡ round_network v
    unfolding perform
    left_is =
        let after : m.state ≡ some (round_network v)
        = ap (λ (x : Option Network). (perform x round).after) v_is ∙ ap (λ (b : Bool). (cond b (accepted 0 no_stamp [] (round_network v)) (refused (round_number v) (some v))).after) (eq-eqb (round_number v) 0 z) in
        some-injective s (round_network v) (sym g.state_is ∙ after)

    -- every site is in the new epoch
    site_late : (i : ℕ) → i < length n.sites → next_epoch v ≤ (stamp_at n i).epoch
    site_late =
        subst (λ (x : Network). (i : ℕ) → i < length x.sites → next_epoch v ≤ (site_at x i).stamp.epoch) (sym left_is)
        (round_late v (state_shaped k f) few z (length-map f.full.lines (renamed_line (is_removed k.removed)) ∙ f.inv.sizes.lines))

    -- a commit made before it is of an earlier one
    old_below : (c : ℕ) → c < length f.full.history → (nth_record f.full c).stamp.epoch < next_epoch v
    old_below c l =
        let old = f.full in
        let site = (nth_record old c).site in
        omega (arith, upto_epoch (place_of old.items) (nth_record old c).stamp (stamp_at old site) (f.inv.past c l), below_new v (state_shaped k f) few z site)

    many : length k.book.commits ≡ length f.full.history
    many = sym (alike_many f.full.history k.book.commits f.commits_alike)

    book_below : (c : ℕ) → c < length k.book.commits → (record_at k.book.commits c).stamp.epoch < next_epoch v
    book_below c l =
        let there : c < length f.full.history = omega (arith, l, many) in
        omega (arith, old_below c there, ap (λ (t : Stamp). t.epoch) (alike_stamp f.full.history k.book.commits f.commits_alike c there))

    -- so none of them is later than any site
    past : (c i : ℕ) → c < length k.book.commits → i < length n.sites → (place : ℕ → ℕ) → NotLater place (record_at k.book.commits c).stamp (stamp_at n i)
    past c i l b place =
        let order = times place in
        let t = (record_at k.book.commits c).stamp in
        order.upto_before t (stamp_at n i) (epoch_later place t (stamp_at n i) (omega (arith, book_below c l, site_late i b)))

    kept_many : length n.history ≡ length k.book.commits
    kept_many = alike_many n.history m.book.commits g.commits_alike ∙ ap length moves.commits_same

    settled : (c : ℕ) → c < length n.history → (i : ℕ) → i < length n.sites → UpTo n (nth_record n c).stamp (stamp_at n i)
    settled c l i b =
        let same : (nth_record n c).stamp ≡ (record_at k.book.commits c).stamp = alike_stamp n.history m.book.commits g.commits_alike c l ∙ ap (λ (cs : List Record). (record_at cs c).stamp) moves.commits_same in
        subst (λ (t : Stamp). UpTo n t (stamp_at n i)) (sym same) (past c i (omega (arith, l, kept_many)) b (place_of n.items))

    -- ---- the tables: nothing is left out of the run
    all_turns : (place : ℕ → ℕ) (i : ℕ) → i < length n.sites → keep (is_up_to place (stamp_at n i)) (in_turn place k.book.commits) ≡ in_turn place k.book.commits
    all_turns place i b =
        keep_all (is_up_to place (stamp_at n i)) (in_turn place k.book.commits)
        (each_sorted (comes_first place) (λ (c : Turn). is_up_to place (stamp_at n i) c ≡ true) (numbered 0 k.book.commits)
        (each_number k.book.commits (λ c. is_up_to place (stamp_at n i) c ≡ true) (λ c l. past c i l b place)))

    sites_many : length m.book.stamps ≡ length n.sites
    sites_many = ap length (sym g.stamps_are) ∙ length-map n.sites (λ (x : Site). x.stamp)

    whole : (i x : ℕ) → i < length m.book.stamps → x < length m.items → holds m.items i x ≡ true
        → get_or (site_at s i).table x (pos 0) ≡ get_or (after start_table (in_turn (book_place m) k.book.commits)) x (pos 0)
    unfolding value_at
    whole i x l b h =
        let place = book_place m in
        copy_agrees m g i x l b h
        ∙ ap (λ (cs : List Record). get_or (after start_table (keep (is_up_to place (stamp_at n i)) (in_turn place cs))) x (pos 0)) moves.commits_same
        ∙ ap (λ (cs : List Turn). get_or (after start_table cs) x (pos 0)) (all_turns place i (omega (arith, l, sites_many)))

    -- ---- the lines
    bare : any (λ (l : Line). any (names_one (λ c. true)) l.messages) s.lines ≡ false
    bare =
        let goes = is_removed m.removed in
        map_none (renamed_line goes) (λ l. any (names_one (λ c. true)) l.messages) n.lines
        (each_implied (λ (l : Line). Each (Stays (λ c. true) n.history) l.messages) _
        (λ l h. map_none (renamed goes) (names_one (λ c. true)) l.messages (each_implied (Stays (λ c. true) n.history) _ unnamed l.messages h)) n.lines
        (each_stays n g.inv (λ c. true) (λ c l e. settled c l)))
      where
        unnamed : (x : Message) → Stays (λ c. true) n.history x → names_one (λ c. true) (renamed (is_removed m.removed) x) ≡ false
        unnamed (commit c) h = h.1
        unnamed (dummy t) h = refl

    -- ---- a collect straight after it
    free : collect_number s ≡ 0
    free = collect_accepted n g.inv (is_removed m.removed) g.base g.removed

    all_past : (c : ℕ) → c < length s.history → is_past s c ≡ true
    all_past = stay_each n g.inv (is_removed m.removed) g.base g.removed (λ r. NotLater (place_of n.items) r.stamp (point_of n))
        (λ c l e. point_one n (λ t. UpTo n (nth_record n c).stamp t) (omega (arith, record_site n g.inv c l)) (settled c l))

    collects : perform m.state collect ≡ accepted 0 no_stamp [] (collect_network s)
    unfolding perform
    collects =
        ap (λ (x : Option Network). perform x collect) g.state_is
        ∙ ap (λ (b : Bool). cond b (accepted 0 no_stamp [] (collect_network s)) (refused (collect_number s) (some s))) (eq-eqb (collect_number s) 0 free)

    none_kept : (collect_network s).history ≡ []
    unfolding collect_network
    none_kept = gone-all (λ c. not (is_past s c)) 0 s.history (each_from (λ c r. not (is_past s c) ≡ false) s.history no_record (λ c l. ap not (all_past c l)))

    -- the book marks each
    marked : (c : ℕ) → c < length k.book.commits → is_removed (learned m collect).removed c ≡ true
    marked c l =
        let place = book_place m in
        let b = m.book in
        let t = (record_at k.book.commits c).stamp in
        let point = earliest_stamp place b.stamps in
        let sites : 0 < length b.stamps = omega (arith, sites_many, record_site n g.inv c (omega (arith, l, kept_many))) in
        let upto : NotLater place t point
        = earliest_one place b.stamps (NotLater place t) sites (λ i h. subst (NotLater place t) (stamp_at_lem n.sites b.stamps g.stamps_are i) (past c i l (omega (arith, h, sites_many)) place)) in
        let test : not_later (order_by place (record_at b.commits c).stamp point) ≡ true = ap (λ (cs : List Record). not_later (order_by place (record_at cs c).stamp point)) moves.commits_same ∙ upto in
        ap (λ (o : Outcome). is_removed (witnessed_alone m collect o).removed c) collects
        ∙ collected_at place b m.removed c (omega (arith, l, ap length moves.commits_same))
        ∙ ap (λ (x : Bool). is_removed m.removed c || x) test
        ∙ or-true (is_removed m.removed c)

    applied : Applied k m
    unfolding removed_by
    applied =
        record {
          network = s;
          state_is = g.state_is;
          commits_same = moves.commits_same;
          removed_same = moves.removed_same;
          sites_past = λ c i l b. past c i l (omega (arith, b, sites_many)) (book_place m);
          copies_whole = whole;
          lines_bare = bare;
          collect_accepted = ap (λ (o : Outcome). o.number) collects;
          removes_all = ap removed_by g.state_is ∙ rw free (count_all (is_past s) (length s.history) all_past);
          leaves_none = λ x e. subst (λ (y : Network). y.history ≡ []) (some-injective (collect_network s) x (sym (ap (λ (o : Outcome). o.after) collects) ∙ e)) none_kept;
          all_removed = marked;
        }

applies : (k : Known) → Follows k → RoundApplies k
unfolding perform
applies k f e =
    let n = round_number (state k f) in
    let z : n ≡ 0 = sym (judged_number n (some (state k f)) (accepted 0 no_stamp [] (round_network (state k f))) refl) ∙ sym (ap (λ (x : Option Network). (perform x round).number) f.state_is) ∙ e in
    applied k f z

pub round_is_its_calls : RoundIsItsCalls
unfolding RoundIsItsCalls
round_is_its_calls = always RoundCounts counts_of

pub round_reaches : RoundReaches
unfolding RoundReaches
round_reaches = always RoundApplies applies
