-- The commits in timestamp order: each comes before those after it, and those before a commit are all that come before it.
use mathlib.Core.Path.{◌≡◌, refl, ap, sym, subst, ◌∙◌}
use mathlib.Core.Bool.{Bool, true, false, cond, ◌||◌, false≢true}
use mathlib.Core.List.{List, [], ◌∷◌}
use Prim.Native.Nat.{ℕ, ◌<◌}
use lib.ListN.{length}
use lib.Dec.{eqb}
use borrow.Author.Tests.{eqb-true}
use Rattle.lists.specs.Lists.{before_first}
use Rattle.records.specs.Records.{Record}
use Rattle.lists.proofs.Chains.{Each, Chain}
use Rattle.lists.proofs.Sorting.{each_sorted}
use Rattle.protocol.specs.Run.{Turn, numbered, comes_first, in_turn}
use Rattle.protocol.proofs.Turns.{has, each_number, chain_numbered, has_turn}
use Rattle.origins.specs.Origin.{turns_before}
use Rattle.origins.specs.Statements.{turn_at, precedes}
use Rattle.protocol.proofs.Precedes.{number_of, stamp_of, precedes_one_way, sorted_precede}

-- ---- every turn is a commit of the history, with its number
pub record Of (h : List Record) (c : Turn) : Type 0 where
  pub low : c.number < length h
  pub is : c ≡ turn_at h c.number

-- what holds of each turn holds of the commit of each number among them
pub each_at : (h : List Record) (P : Turn → Type 0) (i : ℕ) (cs : List Turn) → Each (Of h) cs → Each P cs → has i cs ≡ true → P (turn_at h i)
each_at h P i [] q f e = absurd (false≢true e)
each_at h P i (c ∷ cs) q f e = go (eqb c.number i) refl e (each_at h P i cs q.1 f.1)
  where
    go : (b : Bool) → eqb c.number i ≡ b → (b || has i cs) ≡ true → (has i cs ≡ true → P (turn_at h i)) → P (turn_at h i)
    go true s e rest = subst (λ (m : ℕ). P (turn_at h m)) (eqb-true c.number i s) (subst P q.0.is f.0)
    go false s e rest = rest e

module _ (place : ℕ → ℕ) (h : List Record) where
  abbrev Precedes : Turn → Turn → Type 0
  Precedes c d = precedes place c d ≡ true

  pub turns_of : Each (Of h) (in_turn place h)
  turns_of = each_sorted (comes_first place) (Of h) (numbered 0 h) (each_number h (Of h) (λ k l. record { low = l; is = refl }))

  pub turns_chain : Chain Precedes (in_turn place h)
  turns_chain = sorted_precede place number_of stamp_of (numbered 0 h) (chain_numbered 0 h)

  -- ---- those before commit k
  module _ (k : ℕ) where
    abbrev is_it : Turn → Bool
    is_it c = eqb c.number k

    each_precedes : (cs : List Turn) → Each (Of h) cs → Chain Precedes cs → has k cs ≡ true → Each (λ c. Precedes c (turn_at h k)) (before_first is_it cs)
    each_precedes [] q f e = absurd (false≢true e)
    each_precedes (c ∷ cs) q f e = go (is_it c) e (each_precedes cs q.1 f.1)
      where
        go : (b : Bool) → (b || has k cs) ≡ true → (has k cs ≡ true → Each (λ d. Precedes d (turn_at h k)) (before_first is_it cs)) → Each (λ d. Precedes d (turn_at h k)) (cond b [] (c ∷ before_first is_it cs))
        go true e rest = tt
        go false e rest = (each_at h (Precedes c) k cs q.1 f.0 e, rest e)

    none_left_out : (i : ℕ) → Precedes (turn_at h i) (turn_at h k) → (cs : List Turn) → Each (Of h) cs → Chain Precedes cs → has i cs ≡ true → has i (before_first is_it cs) ≡ true
    none_left_out i p [] q f e = absurd (false≢true e)
    none_left_out i p (c ∷ cs) q f e = go (is_it c) refl (none_left_out i p cs q.1 f.1)
      where
        -- the reader: what comes before it is not it, and not after it
        at_reader : c.number ≡ k → (b : Bool) → eqb c.number i ≡ b → (b || has i cs) ≡ true → ⊥
        at_reader s true t e =
            let same : i ≡ k = sym (eqb-true c.number i t) ∙ s in
            let self : Precedes (turn_at h k) (turn_at h k) = subst (λ (m : ℕ). Precedes (turn_at h m) (turn_at h k)) same p in
            precedes_one_way place number_of stamp_of (turn_at h k) (turn_at h k) self self
        at_reader s false t e =
            let is : c ≡ turn_at h k = q.0.is ∙ ap (turn_at h) s in
            precedes_one_way place number_of stamp_of (turn_at h i) (turn_at h k) p (each_at h (Precedes (turn_at h k)) i cs q.1 (subst (λ (d : Turn). Each (Precedes d) cs) is f.0) e)

        keeps : (b : Bool) → (b || has i cs) ≡ true → (has i cs ≡ true → has i (before_first is_it cs) ≡ true) → (b || has i (before_first is_it cs)) ≡ true
        keeps true e rest = refl
        keeps false e rest = rest e

        go : (b : Bool) → is_it c ≡ b → (has i cs ≡ true → has i (before_first is_it cs) ≡ true) → has i (cond b [] (c ∷ before_first is_it cs)) ≡ true
        go true s rest = absurd (at_reader (eqb-true c.number k s) (eqb c.number i) refl e)
        go false s rest = keeps (eqb c.number i) e rest

    pub before_precedes_it : k < length h → Each (λ c. Precedes c (turn_at h k)) (turns_before place h k)
    before_precedes_it l = each_precedes (in_turn place h) turns_of turns_chain (has_turn place h k l)

    pub all_before : (i : ℕ) → i < length h → Precedes (turn_at h i) (turn_at h k) → has i (turns_before place h k) ≡ true
    all_before i l p = none_left_out i p (in_turn place h) turns_of turns_chain (has_turn place h i l)
