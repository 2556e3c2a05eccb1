-- On every history the origin of a read is its own commit after a write of the item there, else the last writer before it, and nothing else is.
use mathlib.Core.Path.{◌≡◌, refl, ap, sym, subst, ◌∙◌}
use mathlib.Core.Bool.{Bool, true, false, cond, not, true≢false, ◌&&◌, ◌||◌}
use mathlib.Core.List.{List, []}
use mathlib.Core.Logic.{◌⊎◌, inl, inr}
use mathlib.Core.Option.{Option, none, some, map}
use Prim.Native.Nat.{ℕ, ◌<◌}
use lib.ListN.{length}
use lib.Dec.{eqb, leb}
use borrow.Author.Tests.{leb-false, not-false}
use Rattle.lists.proofs.Every.{and_true}
use Rattle.lists.proofs.Numbers.{none_holds, or_false}
use Rattle.lists.specs.Lists.{last_of}
use Rattle.lists.proofs.Chains.{Each, Chain, each_implied}
use Rattle.lists.proofs.Last.{OfSome, last_each, Last, last_is, each_before, chain_before}
use Rattle.site_operations.specs.Operations.{reads, touches}
use Rattle.records.specs.Records.{Record}
use Rattle.protocol.specs.Network.{Network, nth_record, place_of}
use Rattle.protocol.specs.Run.{Turn, in_turn}
use Rattle.protocol.specs.Questions.{origin, nth_op, no_such_read, question_number}
use Rattle.protocol.proofs.Turns.{has}
use Rattle.origins.specs.Origin.{turns_before, last_writer, own_write, origin_of}
use Rattle.origins.specs.Statements.{turn_at, precedes, writes_before, FoundBelow, FoundFor, OriginLast}
use Rattle.origins.proofs.Found.{found_alone}
use Rattle.origins.proofs.Turns.{Of, each_at, turns_of, turns_chain, before_precedes_it, all_before}

-- ---- of turns of a history in order, among them all that pass `passes`, the last that passes `test` where the two tell the same of them
module _ (place : ℕ → ℕ) (h : List Record) (test passes : Turn → Bool) (cs : List Turn) where
  abbrev Precedes : Turn → Turn → Type 0
  Precedes c d = precedes place c d ≡ true

  abbrev Forth : Type 0
  Forth = (i : ℕ) → i < length h → passes (turn_at h i) ≡ true → (has i cs ≡ true) × (test (turn_at h i) ≡ true)

  abbrev Found : Option ℕ → Type 0
  Found = FoundBelow place h (λ i. passes (turn_at h i)) (length h)

  by_number_lem : (c : Turn) → Of h c → (i : ℕ) → (turn_at h i ≡ c) ⊎ Precedes (turn_at h i) c → (i ≡ c.number) ⊎ Precedes (turn_at h i) (turn_at h c.number)
  by_number_lem c of i (inl e) = inl (ap (λ (d : Turn). d.number) e)
  by_number_lem c of i (inr p) = inr (subst (Precedes (turn_at h i)) of.is p)

  found_of : Each (Of h) cs → Forth → (o : Option Turn) → Last test Precedes cs o → OfSome (Of h) o → OfSome (λ c. test c ≡ true → passes c ≡ true) o → Found (map (λ (c : Turn). c.number) o)
  found_of each forth none last of back = λ i low e. let both = forth i low e in true≢false (sym both.1 ∙ each_at h (λ c. test c ≡ false) i cs each last both.0)
  found_of each forth (some c) last of back =
      record {
        low = of.low;
        is_one = subst (λ (d : Turn). passes d ≡ true) of.is (back last.0);
        last = λ i low e. let both = forth i low e in by_number_lem c of i (each_at h (λ d. test d ≡ true → (d ≡ c) ⊎ Precedes d c) i cs each last.1 both.0 both.1);
      }

  pub turn_found : Each (Of h) cs → Chain Precedes cs → Each (λ c. test c ≡ true → passes c ≡ true) cs → Forth → Found (map (λ (c : Turn). c.number) (last_of test cs))
  turn_found each chain back forth = found_of each forth (last_of test cs) (last_is test Precedes cs chain) (last_each test (Of h) cs each) (last_each test _ cs back)

-- ---- the last of the turns before commit k that write item x
module _ (place : ℕ → ℕ) (h : List Record) (k x : ℕ) (there : k < length h) where
  abbrev writes : Turn → Bool
  writes c = touches x c.commit.ops

  abbrev comes_before : Turn → Bool
  comes_before c = precedes place c (turn_at h k)

  abbrev is_it : Turn → Bool
  is_it c = eqb c.number k

  writer_found : FoundBelow place h (writes_before place h k x) (length h) (map (λ (c : Turn). c.number) (last_writer place h k x))
  writer_found =
      turn_found place h writes (λ c. writes c && comes_before c) (turns_before place h k)
      (each_before is_it (Of h) (in_turn place h) (turns_of place h))
      (chain_before is_it _ (in_turn place h) (turns_chain place h))
      (each_implied (λ c. comes_before c ≡ true) _ (λ c e w. rw (w, e)) (turns_before place h k) (before_precedes_it place h k there))
      (λ i low w. let both = and_true (writes (turn_at h i)) (comes_before (turn_at h i)) w in (all_before place h k i low both.1, both.0))

-- ---- a question that is not refused asks of a read
pub record IsRead (n : Network) (k a : ℕ) : Type 0 where
  pub commit : k < length n.history
  pub operation : a < length (nth_record n k).ops
  pub reading : reads (nth_op n k a) ≡ true

pub read_there : (n : Network) (k a : ℕ) → question_number n (origin k a) ≡ 0 → IsRead n k a
unfolding question_number
read_there n k a z =
    let ops = (nth_record n k).ops in
    let none = (none_holds (no_such_read n k a) 25 [] (rw z)).0 in
    let first = or_false (leb (length n.history) k) (leb (length ops) a || not (reads (nth_op n k a))) none in
    let rest = or_false (leb (length ops) a) (not (reads (nth_op n k a))) first.1 in
    record { commit = leb-false (length n.history) k first.0; operation = leb-false (length ops) a rest.0; reading = not-false (reads (nth_op n k a)) rest.1 }

-- ---- its origin
module _ (n : Network) (k a : ℕ) (there : k < length n.history) where
  abbrev x : ℕ
  x = (nth_op n k a).item

  -- the last writer before its commit
  abbrev writer : Option ℕ
  writer = map (λ (c : Turn). c.number) (last_writer (place_of n.items) n.history k x)

  abbrev before : ℕ → Bool
  before = writes_before (place_of n.items) n.history k x

  last_found : FoundBelow (place_of n.items) n.history before (length n.history) writer
  last_found = writer_found (place_of n.items) n.history k x there

  origin_by : (b : Bool) → own_write n k a ≡ b → origin_of n k a ≡ cond b (some k) writer
  unfolding origin_of
  origin_by b e = ap (λ (c : Bool). cond c (some k) writer) e

  origin_found : FoundFor n k a (origin_of n k a)
  origin_found = record { own = origin_by true; other = λ e. subst (FoundBelow (place_of n.items) n.history before (length n.history)) (sym (origin_by false e)) last_found }

  origin_alone : (o : Option ℕ) → FoundFor n k a o → o ≡ origin_of n k a
  origin_alone o f = go (own_write n k a) refl
    where
      go : (b : Bool) → own_write n k a ≡ b → o ≡ origin_of n k a
      go true e = f.own e ∙ sym (origin_by true e)
      go false e = found_alone (place_of n.items) n.history before (length n.history) o writer (f.other e) last_found ∙ sym (origin_by false e)

pub origin_last : OriginLast
unfolding OriginLast
origin_last n k a z = let there = (read_there n k a z).commit in record { found = origin_found n k a there; alone = origin_alone n k a there }
