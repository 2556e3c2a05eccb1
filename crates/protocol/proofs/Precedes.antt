-- The laws of 'comes before' of elements with a number and a timestamp: by timestamp, equal ones by number.
use mathlib.Core.Path.{◌≡◌, refl, sym, ◌∙◌}
use mathlib.Core.Bool.{Bool, true, false, cond}
use mathlib.Core.List.{List}
use mathlib.Core.Logic.{◌⊎◌, inl, inr}
use Prim.Native.Nat.{ℕ, ◌<◌}
use native.Mathlib.Omega.{arith}
use lib.Dec.{ltb}
use borrow.Author.Tests.{ltb-true, lt-ltb}
use Rattle.timestamp_order.specs.Timestamp.{Stamp}
use Rattle.timestamp_order.specs.Order.{order_by, not_later, is_earlier, IsEarlier, NotLater}
use Rattle.lists.specs.Sorting.{sorted}
use Rattle.lists.proofs.Chains.{Chain, chain_implied}
use Rattle.lists.proofs.Sorting.{chain_sorted}
use Rattle.protocol.specs.Precedes.{precedes_by}
use Rattle.protocol.specs.Run.{Turn}
use Rattle.protocol.proofs.Times.{times}

module _ (place : ℕ → ℕ) {A : Type 0} (number : A → ℕ) (stamp : A → Stamp) where
  open times place use {upto_before, upto_trans, before_upto, upto_then, never_before, fails_later, before_test, test_before}

  abbrev precedes : A → A → Bool
  precedes c d = precedes_by place (number c) (stamp c) (number d) (stamp d)

  abbrev Before : A → A → Type 0
  Before c d = IsEarlier place (stamp c) (stamp d)

  abbrev UpTo : A → A → Type 0
  UpTo c d = NotLater place (stamp c) (stamp d)

  -- ---- from timestamps
  -- of two the one with the lower number comes before the other unless it is later
  pub lower_is : (c d : A) → number c < number d → precedes c d ≡ not_later (order_by place (stamp c) (stamp d))
  lower_is c d l = rw (lt-ltb (number c) (number d) l) refl

  pub lower_precedes : (c d : A) → number c < number d → UpTo c d → precedes c d ≡ true
  lower_precedes c d l e = lower_is c d l ∙ e

  pub before_precedes : (c d : A) → Before c d → precedes c d ≡ true
  before_precedes c d e = go (ltb (number c) (number d))
    where
      go : (b : Bool) → cond b (not_later (order_by place (stamp c) (stamp d))) (is_earlier (order_by place (stamp c) (stamp d))) ≡ true
      go true = upto_before (stamp c) (stamp d) e
      go false = before_test (stamp c) (stamp d) e

  -- ---- and to them
  -- earlier, or lower and not later
  abbrev Cases : A → A → Type 0
  Cases c d = (Before c d) ⊎ ((number c < number d) × UpTo c d)

  cases : (c d : A) → precedes c d ≡ true → Cases c d
  cases c d = go (ltb (number c) (number d)) refl
    where
      go : (b : Bool) → ltb (number c) (number d) ≡ b → cond b (not_later (order_by place (stamp c) (stamp d))) (is_earlier (order_by place (stamp c) (stamp d))) ≡ true → Cases c d
      go true l e = inr (ltb-true (number c) (number d) l, e)
      go false l e = inl (test_before (stamp c) (stamp d) e)

  case_upto : (c d : A) → Cases c d → UpTo c d
  case_upto c d (inl s) = upto_before (stamp c) (stamp d) s
  case_upto c d (inr l) = l.1

  pub precedes_upto : (c d : A) → precedes c d ≡ true → UpTo c d
  precedes_upto c d p = case_upto c d (cases c d p)

  -- ---- a strict order
  pub precedes_trans : (c d e : A) → precedes c d ≡ true → precedes d e ≡ true → precedes c e ≡ true
  precedes_trans c d e p q = go (cases c d p) (cases d e q)
    where
      go : Cases c d → Cases d e → precedes c e ≡ true
      go (inl s) r = before_precedes c e (before_upto (stamp c) (stamp d) (stamp e) s (case_upto d e r))
      go (inr l) (inl t) = before_precedes c e (upto_then (stamp c) (stamp d) (stamp e) l.1 t)
      go (inr l) (inr m) = lower_precedes c e (omega (arith, l.0, m.0)) (upto_trans (stamp c) (stamp d) (stamp e) l.1 m.1)

  pub precedes_one_way : (c d : A) → precedes c d ≡ true → precedes d c ≡ true → ⊥
  precedes_one_way c d p q = go (cases c d p) (cases d c q)
    where
      go : Cases c d → Cases d c → ⊥
      go (inl s) r = never_before (stamp c) (before_upto (stamp c) (stamp d) (stamp c) s (case_upto d c r))
      go (inr l) (inl t) = never_before (stamp d) (before_upto (stamp d) (stamp c) (stamp d) t l.1)
      go (inr l) (inr m) = omega (arith, l.0, m.0)

  -- of two one comes before the other
  pub precedes_turned : (c d : A) → number c < number d → precedes c d ≡ false → precedes d c ≡ true
  precedes_turned c d l e = before_precedes d c (fails_later (stamp c) (stamp d) (sym (lower_is c d l) ∙ e))

  -- ---- elements with rising numbers, sorted by timestamp
  pub sorted_precede : (cs : List A) → Chain (λ c d. number c < number d) cs → Chain (λ c d. precedes c d ≡ true) (sorted (λ c d. not_later (order_by place (stamp c) (stamp d))) cs)
  sorted_precede cs rise =
      chain_sorted _ (λ c d. precedes c d ≡ true) precedes_trans cs
      (chain_implied (λ c d. number c < number d) _ (λ c d l. (lower_precedes c d l, λ e. precedes_turned c d l (lower_is c d l ∙ e))) cs rise)

-- ---- of turns
abbrev pub number_of : Turn → ℕ
number_of c = c.number

abbrev pub stamp_of : Turn → Stamp
stamp_of c = c.commit.stamp
