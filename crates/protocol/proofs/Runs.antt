-- The one-copy run, from any table, against the order made: where the writers of an item were made by rising timestamp, the run's values are those
-- of the commits in the order made; and where besides every read was recorded with what the operations before it leave of that value, the
-- run shows what was recorded.
use mathlib.Core.Path.{◌≡◌, refl, ap, ap₂, sym, ◌∙◌}
use mathlib.Core.Bool.{Bool, true, false, cond, ◌||◌, false≢true}
use mathlib.Core.List.{List, [], ◌∷◌, map}
use Prim.Native.Nat.{ℕ, suc, ◌+◌, ◌<◌}
use native.Mathlib.Omega.{arith}
use lib.IntN.{ℤ, pos}
use lib.ListN.{length, get_or, take, length-replicate, get_or-replicate}
use lib.Dec.{eqb}
use Rattle.timestamp_order.specs.Timestamp.{Stamp}
use Rattle.timestamp_order.specs.Order.{order_by, not_later, is_earlier, IsEarlier}
use Rattle.site_operations.specs.Operations.{worked, no_op, touches}
use Rattle.site.specs.InWords.{table_size}
use Rattle.site_operations.proofs.Works.{wrote, untouched, worked_length, get_d_worked, ReadsFrom, worked_same}
use Rattle.records.specs.Records.{Record}
use Rattle.lists.specs.Lists.{keep, keep_from, up_to}
use Rattle.lists.specs.Sorting.{sorted}
use Rattle.protocol.specs.Run.{Turn, numbered, comes_first, in_turn, after, run, start_table, find, shown, value_at}
use Rattle.protocol.specs.Network.{record_at}
use Rattle.protocol.proofs.Times.{times}
use Rattle.protocol.proofs.Values.{last_from}
use Rattle.lists.proofs.Chains.{Chain, each_implied, chain_keep, keep_none, keep_turn, map_keep}
use Rattle.lists.proofs.Sorting.{chain_sorted, sorted_same, keep_sorted, InOrder}
use Rattle.protocol.proofs.Turns.{turns_along, turns_either, has, chain_number, commits_numbered, kept_numbered, each_found, has_turn, find_turn}

-- ---- the value of an item after some turns
abbrev pub commits : List Turn → List Record
commits cs = map (λ (c : Turn). c.commit) cs

pub after_value : (table : List ℤ) (cs : List Turn) (x : ℕ) → x < length table → get_or (after table cs) x (pos 0) ≡ last_from x (get_or table x (pos 0)) (commits cs)
after_value table [] x h = refl
after_value table (c ∷ cs) x h =
    after_value (worked table c.commit.ops).table cs x (omega (arith, worked_length table c.commit.ops))
    ∙ ap (λ (v : ℤ). last_from x v (commits cs)) (get_d_worked table c.commit.ops x h)

pub after_length : (table : List ℤ) (cs : List Turn) → length (after table cs) ≡ length table
after_length table [] = refl
after_length table (c ∷ cs) = after_length (worked table c.commit.ops).table cs ∙ worked_length table c.commit.ops

-- only those that write it matter
module _ (x : ℕ) where
  abbrev writer : Record → Bool
  writer r = touches x r.ops

  last_writers : (v : ℤ) (rs : List Record) → last_from x v rs ≡ last_from x v (keep writer rs)
  last_writers v [] = refl
  last_writers v (r ∷ rs) = go (writer r) refl (λ u. last_writers u rs)
    where
      go : (b : Bool) → writer r ≡ b → ((u : ℤ) → last_from x u rs ≡ last_from x u (keep writer rs)) → last_from x (wrote x v r.ops) rs ≡ last_from x v (cond b (r ∷ keep writer rs) (keep writer rs))
      go true e rest = rest (wrote x v r.ops)
      go false e rest = ap (λ (u : ℤ). last_from x u rs) (untouched x v r.ops e) ∙ rest v

  last_turns : (v : ℤ) (cs : List Turn) → last_from x v (commits cs) ≡ last_from x v (commits (keep (λ c. writer c.commit) cs))
  last_turns v cs = last_writers v (commits cs) ∙ ap (last_from x v) (sym (map_keep (λ c. c.commit) writer cs))

-- ---- the writers of an item were made by rising timestamp
-- the run takes the commits sorted by the places given
in_turn_is : (place : ℕ → ℕ) (h : List Record) → in_turn place h ≡ sorted (comes_first place) (numbered 0 h)
in_turn_is place h = refl

abbrev pub WritersRise : (ℕ → ℕ) → ℕ → List Record → Type 0
WritersRise place x h =
    (k m : ℕ) → k < m → m < length h → touches x (record_at h k).ops ≡ true → touches x (record_at h m).ops ≡ true → IsEarlier place (record_at h k).stamp (record_at h m).stamp

-- ---- the table that the run starts from
abbrev pub StartsAt : List ℤ → (ℕ → ℤ) → Type 0
StartsAt table start = (x : ℕ) → x < length table → get_or table x (pos 0) ≡ start x

pub all_zero_lem : StartsAt start_table (λ x. pos 0)
all_zero_lem x l = get_or-replicate table_size x (pos 0) (pos 0) (omega (arith, length-replicate table_size (pos 0)))

module _ (place : ℕ → ℕ) (table : List ℤ) (start : ℕ → ℤ) (starts : StartsAt table start) (x : ℕ) (near : x < length table) (h : List Record) (rise : WritersRise place x h) where
  abbrev writes : Turn → Bool
  writes c = writer x c.commit

  -- so in turn they stand in the order made
  writers_turn : (q : Turn → Bool) → keep writes (keep q (in_turn place h)) ≡ keep writes (keep q (numbered 0 h))
  writers_turn q =
      let first = comes_first place in
      let rising = chain_number h (λ c d. writes c ≡ true → writes d ≡ true → InOrder first c d) (λ k m a b e f. ap not_later (rise k m a b e f)) in
      keep_turn writes q (in_turn place h)
      ∙ ap (keep q)
      (ap (keep writes) (in_turn_is place h)
      ∙ keep_sorted first (turns_along place) (turns_either place) writes (numbered 0 h)
      ∙ sorted_same first (keep writes (numbered 0 h)) (chain_keep writes (InOrder first) (numbered 0 h) rising))
      ∙ keep_turn q writes (numbered 0 h)

  -- the run's value after the turns that pass a test is that of those in the order made
  run_turns : (q : Turn → Bool) → get_or (after table (keep q (in_turn place h))) x (pos 0) ≡ last_from x (start x) (commits (keep q (numbered 0 h)))
  run_turns q =
      after_value table (keep q (in_turn place h)) x near
      ∙ ap (λ (v : ℤ). last_from x v (commits (keep q (in_turn place h)))) (starts x near)
      ∙ last_turns x (start x) (keep q (in_turn place h))
      ∙ ap (λ (cs : List Turn). last_from x (start x) (commits cs)) (writers_turn q)
      ∙ sym (last_turns x (start x) (keep q (numbered 0 h)))

  -- by a test of the commits, and by one of their numbers
  pub run_last : (q : Record → Bool) → get_or (after table (keep (λ (c : Turn). q c.commit) (in_turn place h))) x (pos 0) ≡ last_from x (start x) (keep q h)
  run_last q = run_turns (λ c. q c.commit) ∙ ap (last_from x (start x)) (map_keep (λ c. c.commit) q (numbered 0 h) ∙ ap (keep q) (commits_numbered 0 h))

  pub run_numbers : (p : ℕ → Bool) → get_or (after table (keep (λ (c : Turn). p c.number) (in_turn place h))) x (pos 0) ≡ last_from x (start x) (keep_from p 0 h)
  run_numbers p = run_turns (λ c. p c.number) ∙ ap (last_from x (start x)) (kept_numbered p 0 h)

  pub run_value : (t : Stamp) → value_at place table h t x ≡ last_from x (start x) (keep (λ (r : Record). not_later (order_by place r.stamp t)) h)
  unfolding value_at
  run_value t = run_last (λ r. not_later (order_by place r.stamp t))

-- a commit with the values that its reads get
abbrev seen_record : List ℤ → Record → Record
seen_record table r = record { site = r.site; stamp = r.stamp; ops = (worked table r.ops).ops }

by_number_lem : (f : ℕ → Record) (j : ℕ) (h : List Record) → ((k : ℕ) → k < length h → record_at h k ≡ f (j + k)) → h ≡ map f (up_to j (length h))
by_number_lem f j [] g = refl
by_number_lem f j (r ∷ h) g =
    let first : j + 0 ≡ j = omega arith in
    let next : (k : ℕ) → j + suc k ≡ suc j + k = λ k. omega arith in
    ap₂ {C = List Record} (λ p ps. p ∷ ps) (g 0 (omega arith) ∙ ap f first) (by_number_lem f (suc j) h (λ k l. g (suc k) (omega arith) ∙ ap f (next k)))

module _ (place : ℕ → ℕ) where
  open times place use {upto_self, upto_before, upto_other, before_trans, fails_later, test_fails}

  -- ---- what each turn sees, where no two turns have one timestamp
  abbrev Before : Turn → Turn → Type 0
  Before c d = IsEarlier place c.commit.stamp d.commit.stamp

  abbrev earlier_than : Record → Turn → Bool
  earlier_than r c = is_earlier (order_by place c.commit.stamp r.stamp)

  not_itself : (c : Turn) → earlier_than c.commit c ≡ false
  not_itself c = test_fails c.commit.stamp c.commit.stamp (upto_self c.commit.stamp)

  not_those_after : (c d : Turn) → Before c d → earlier_than c.commit d ≡ false
  not_those_after c d e = test_fails d.commit.stamp c.commit.stamp (upto_before c.commit.stamp d.commit.stamp e)

  -- the table that the turns earlier than it leave
  run_sees : (table : List ℤ) (cs : List Turn) (k : ℕ) → Chain Before cs → has k cs ≡ true
      → find (run table cs) k ≡ seen_record (after table (keep (earlier_than (find cs k)) cs)) (find cs k)
  run_sees table [] k h e = absurd (false≢true e)
  run_sees table (c ∷ cs) k h e = go (eqb c.number k) e (run_sees (worked table c.commit.ops).table cs k h.1)
    where
      go : (b : Bool) → (b || has k cs) ≡ true
          → (has k cs ≡ true → find (run (worked table c.commit.ops).table cs) k
          ≡ seen_record (after (worked table c.commit.ops).table (keep (earlier_than (find cs k)) cs)) (find cs k))
          → cond b (seen_record table c.commit) (find (run (worked table c.commit.ops).table cs) k)
          ≡ seen_record (after table (keep (earlier_than (cond b c.commit (find cs k))) (c ∷ cs))) (cond b c.commit (find cs k))
      go true f rest =
          let none = keep_none (earlier_than c.commit) (c ∷ cs) (not_itself c, each_implied (Before c) (λ d. earlier_than c.commit d ≡ false) (not_those_after c) cs h.0) in
          ap (λ (ds : List Turn). seen_record (after table ds) c.commit) (sym none)
      go false f rest =
          let first : earlier_than (find cs k) c ≡ true = ap is_earlier (each_found (λ r. IsEarlier place c.commit.stamp r.stamp) cs k h.0 f) in
          rest f ∙ sym (rw first)

  -- ---- what the run shows
  -- two commits that do not have one timestamp, by the test that sorts them
  abbrev Sorted : Record → Record → Type 0
  Sorted r s =
      (not_later (order_by place r.stamp s.stamp) ≡ true → IsEarlier place r.stamp s.stamp)
      × (not_later (order_by place r.stamp s.stamp) ≡ false → IsEarlier place s.stamp r.stamp)

  pub run_shows : (table : List ℤ) (start : ℕ → ℤ) → StartsAt table start → (h : List Record)
      → ((k m : ℕ) → k < m → m < length h → (record_at h k).stamp ≡ (record_at h m).stamp → ⊥)
      → ((x : ℕ) → WritersRise place x h)
      → ((k : ℕ) → k < length h → (a : ℕ) → a < length (record_at h k).ops → (get_or (record_at h k).ops a no_op).item < length table)
      → ((k : ℕ) → k < length h → ReadsFrom (λ x. last_from x (start x) (keep (λ (r : Record). is_earlier (order_by place r.stamp (record_at h k).stamp)) h)) (record_at h k).ops)
      → h ≡ shown place table h
  unfolding shown
  run_shows table start starts h differ rise low right = by_number_lem (find (run table (in_turn place h))) 0 h each
    where
      strict : Chain Before (in_turn place h)
      strict =
          let sorted : (r s : Record) → (r.stamp ≡ s.stamp → ⊥) → Sorted r s = λ r s n. (λ e. upto_other r.stamp s.stamp e n, fails_later r.stamp s.stamp) in
          chain_sorted (comes_first place) Before (λ c d e. before_trans c.commit.stamp d.commit.stamp e.commit.stamp) (numbered 0 h)
          (chain_number h (λ c d. Sorted c.commit d.commit) (λ k m a b. sorted (record_at h k) (record_at h m) (differ k m a b)))

      each : (k : ℕ) → k < length h → record_at h k ≡ find (run table (in_turn place h)) (0 + k)
      each k l =
          let r = record_at h k in
          let before : List ℤ = after table (keep (earlier_than r) (in_turn place h)) in
          let same : k ≡ 0 + k = omega arith in
          let kept : r.ops ≡ (worked before r.ops).ops
          = worked_same before r.ops
          (λ a b e. omega (arith, low k l a b, after_length table (keep (earlier_than r) (in_turn place h))))
          (λ a b e.
          let x = (get_or r.ops a no_op).item in
          right k l a b e ∙ ap (λ (v : ℤ). wrote x v (take a r.ops)) (sym (run_last place table start starts x (low k l a b) h (rise x) (λ s. is_earlier (order_by place s.stamp r.stamp))))) in
          (λ i. record { site = r.site; stamp = r.stamp; ops = kept i })
          ∙ ap (λ (s : Record). seen_record (after table (keep (earlier_than s) (in_turn place h))) s) (sym (find_turn place h k))
          ∙ sym (run_sees table (in_turn place h) k strict (has_turn place h k l))
          ∙ ap (find (run table (in_turn place h))) same
