-- Turns in order, and a turn found by its number.
use mathlib.Core.Path.{◌≡◌, refl, ap, sym, subst, subst₂, ◌∙◌}
use mathlib.Core.Bool.{Bool, true, false, cond, ◌||◌, false≢true}
use mathlib.Core.List.{List, [], ◌∷◌, map}
use Prim.Native.Nat.{ℕ, zero, suc, ◌+◌, ◌<◌}
use native.Mathlib.Omega.{arith}
use lib.ListN.{length, get_or}
use lib.Dec.{eqb}
use borrow.Author.Tests.{eqb-true, eq-eqb, ne_eqb}
use Rattle.timestamp_order.specs.Order.{order_by, not_later}
use Rattle.timestamp_order.proofs.Comparisons.{not_later_trans, later_turned}
use Rattle.timestamp_order.proofs.OrderLaws.{order_laws}
use Rattle.lists.specs.Lists.{any, keep, keep_from}
use Rattle.records.specs.Records.{Record}
use Rattle.lists.specs.Sorting.{sorted, insert}
use Rattle.lists.proofs.Chains.{Each, Chain, each_by, chain_by}
use Rattle.lists.proofs.Sorting.{each_sorted, any_sorted}
use Rattle.protocol.specs.Run.{Turn, numbered, comes_first, in_turn, find}
use Rattle.protocol.specs.Network.{no_record, record_at}

-- ---- by rising timestamp, equal ones in the order made
module _ (place : ℕ → ℕ) where
  pub turns_along : (c d e : Turn) → comes_first place c d ≡ true → comes_first place d e ≡ true → comes_first place c e ≡ true
  turns_along c d e = not_later_trans (order_by place) (order_laws place) c.commit.stamp d.commit.stamp e.commit.stamp

  pub turns_either : (c d : Turn) → comes_first place c d ≡ false → comes_first place d c ≡ true
  turns_either c d h = ap not_later (later_turned (order_by place) (order_laws place) c.commit.stamp d.commit.stamp h)

-- the turn of a number
abbrev turn_of : ℕ → Record → Turn
turn_of k r = record { number = k; commit = r }

-- ---- a turn found by its number
abbrev pub has : ℕ → List Turn → Bool
has k cs = any (λ (c : Turn). eqb c.number k) cs

pub each_found : (P : Record → Type 0) (cs : List Turn) (k : ℕ) → Each (λ c. P c.commit) cs → has k cs ≡ true → P (find cs k)
each_found P [] k h e = absurd (false≢true e)
each_found P (c ∷ cs) k h e = go (eqb c.number k) e (each_found P cs k h.1)
  where
    go : (b : Bool) → (b || has k cs) ≡ true → (has k cs ≡ true → P (find cs k)) → P (cond b c.commit (find cs k))
    go true f r = h.0
    go false f r = r f

-- sorted by any test
module _ (first : Turn → Turn → Bool) (k : ℕ) where
  -- one that shares its number with none
  find_insert : (c : Turn) (ds : List Turn) → Each (λ d. c.number < d.number) ds → find (insert first c ds) k ≡ find (c ∷ ds) k
  find_insert c [] h = refl
  find_insert c (d ∷ ds) h = go (first c d) (find_insert c ds h.1)
    where
      turn : (a b : Bool) → eqb c.number k ≡ a → eqb d.number k ≡ b
          → cond b d.commit (cond a c.commit (find ds k)) ≡ cond a c.commit (cond b d.commit (find ds k))
      turn true true e f =
          let apart : c.number < d.number = h.0 in
          absurd (omega (arith, eqb-true c.number k e, eqb-true d.number k f))
      turn true false e f = refl
      turn false b e f = refl

      go : (b : Bool) → find (insert first c ds) k ≡ find (c ∷ ds) k → find (cond b (c ∷ (d ∷ ds)) (d ∷ insert first c ds)) k ≡ find (c ∷ (d ∷ ds)) k
      go true r = refl
      go false r = ap (λ (x : Record). cond (eqb d.number k) d.commit x) r ∙ turn (eqb c.number k) (eqb d.number k) refl refl

  find_sorted : (cs : List Turn) → Chain (λ c d. c.number < d.number) cs → find (sorted first cs) k ≡ find cs k
  find_sorted [] h = refl
  find_sorted (c ∷ cs) h =
      find_insert c (sorted first cs) (each_sorted first (λ d. c.number < d.number) cs h.0)
      ∙ ap (λ (x : Record). cond (eqb c.number k) c.commit x) (find_sorted cs h.1)

-- ---- the commits numbered in the order made
pub commits_numbered : (j : ℕ) (h : List Record) → map (λ (c : Turn). c.commit) (numbered j h) ≡ h
commits_numbered j [] = refl
commits_numbered j (r ∷ h) = ap {B = List Record} (λ l. r ∷ l) (commits_numbered (suc j) h)

pub kept_numbered : (p : ℕ → Bool) (j : ℕ) (h : List Record) → map (λ (c : Turn). c.commit) (keep (λ (c : Turn). p c.number) (numbered j h)) ≡ keep_from p j h
kept_numbered p j [] = refl
kept_numbered p j (r ∷ h) = go (p j) (kept_numbered p (suc j) h)
  where
    rest : List Turn
    rest = keep (λ (c : Turn). p c.number) (numbered (suc j) h)

    go : (b : Bool) → map (λ (c : Turn). c.commit) rest ≡ keep_from p (suc j) h
        → map (λ (c : Turn). c.commit) (cond b (turn_of j r ∷ rest) rest) ≡ cond b (r ∷ keep_from p (suc j) h) (keep_from p (suc j) h)
    go true e = ap {B = List Record} (λ l. r ∷ l) e
    go false e = e

-- each by its number
numbered_length : (j : ℕ) (h : List Record) → length (numbered j h) ≡ length h
numbered_length j [] = refl
numbered_length j (r ∷ h) = ap suc (numbered_length (suc j) h)

numbered_at : (j k : ℕ) (h : List Record) (d : Turn) → k < length h → get_or (numbered j h) k d ≡ turn_of (j + k) (record_at h k)
numbered_at j k [] d l = absurd (omega arith)
numbered_at j zero (r ∷ h) d l = let first : j ≡ j + 0 = omega arith in ap (λ (m : ℕ). turn_of m r) first
numbered_at j (suc k) (r ∷ h) d l =
    let next : suc j + k ≡ j + suc k = omega arith in
    numbered_at (suc j) k h d (omega arith) ∙ ap (λ (m : ℕ). turn_of m (record_at h k)) next

-- what holds of each, and of each two
module _ (h : List Record) where
  abbrev nth : ℕ → Turn
  nth k = turn_of k (record_at h k)

  number_at : (k : ℕ) → k < length (numbered 0 h) → get_or (numbered 0 h) k (turn_of 0 no_record) ≡ nth k
  number_at k l =
      let same : 0 + k ≡ k = omega arith in
      numbered_at 0 k h (turn_of 0 no_record) (omega (arith, numbered_length 0 h)) ∙ ap (λ (m : ℕ). turn_of m (record_at h k)) same

  pub each_number : (P : Turn → Type 0) → ((k : ℕ) → k < length h → P (nth k)) → Each P (numbered 0 h)
  each_number P f = each_by P (numbered 0 h) (turn_of 0 no_record) (λ k l. subst P (sym (number_at k l)) (f k (omega (arith, numbered_length 0 h))))

  pub chain_number : (R : Turn → Turn → Type 0) → ((k m : ℕ) → k < m → m < length h → R (nth k) (nth m)) → Chain R (numbered 0 h)
  chain_number R f =
      chain_by R (numbered 0 h) (turn_of 0 no_record)
      (λ k m a b. subst₂ R (sym (number_at k (omega arith))) (sym (number_at m b)) (f k m a (omega (arith, numbered_length 0 h))))

each_numbered : (j n : ℕ) (h : List Record) → j < n → Each (λ (c : Turn). j < c.number) (numbered n h)
each_numbered j n [] l = tt
each_numbered j n (r ∷ h) l = (l, each_numbered j (suc n) h (omega arith))

pub chain_numbered : (j : ℕ) (h : List Record) → Chain (λ (c d : Turn). c.number < d.number) (numbered j h)
chain_numbered j [] = tt
chain_numbered j (r ∷ h) = (each_numbered j (suc j) h (omega arith), chain_numbered (suc j) h)

find_numbered : (j k : ℕ) (h : List Record) → find (numbered j h) (j + k) ≡ record_at h k
find_numbered j k [] = refl
find_numbered j zero (r ∷ h) = rw (eq-eqb j (j + 0) (omega arith))
find_numbered j (suc k) (r ∷ h) =
    let next : j + suc k ≡ suc j + k = omega arith in
    rw (ne_eqb j (j + suc k) (λ e. omega arith)) (ap (find (numbered (suc j) h)) next ∙ find_numbered (suc j) k h)

has_numbered : (j k : ℕ) (h : List Record) → k < length h → has (j + k) (numbered j h) ≡ true
has_numbered j k [] l = absurd (omega arith)
has_numbered j zero (r ∷ h) l = rw (eq-eqb j (j + 0) (omega arith))
has_numbered j (suc k) (r ∷ h) l =
    let next : j + suc k ≡ suc j + k = omega arith in
    rw (ne_eqb j (j + suc k) (λ e. omega arith)) (ap (λ (m : ℕ). has m (numbered (suc j) h)) next ∙ has_numbered (suc j) k h (omega arith))

-- ---- and in turn: every number is there, with its commit
module _ (place : ℕ → ℕ) (h : List Record) (k : ℕ) where
  pub has_turn : k < length h → has k (in_turn place h) ≡ true
  has_turn l =
      let same : k ≡ 0 + k = omega arith in
      any_sorted _ (λ (c : Turn). eqb c.number k) (numbered 0 h) ∙ ap (λ (m : ℕ). has m (numbered 0 h)) same ∙ has_numbered 0 k h l

  pub find_turn : find (in_turn place h) k ≡ record_at h k
  find_turn =
      let same : k ≡ 0 + k = omega arith in
      find_sorted _ k (numbered 0 h) (chain_numbered 0 h) ∙ ap (find (numbered 0 h)) same ∙ find_numbered 0 k h
