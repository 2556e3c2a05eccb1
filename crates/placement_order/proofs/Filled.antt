-- A table whose open sites get places by their numbers, one site after another.
use mathlib.Core.Path.{◌≡◌, sym, ap, ap₂, ◌∙◌}
use mathlib.Core.Bool.{Bool, cond}
use mathlib.Core.List.{List, ◌∷◌, ◌++◌, append-nil}
use Prim.Native.Nat.{ℕ, suc, ◌≤◌, ◌<◌}
use native.Mathlib.Omega.{arith}
use lib.ListN.{length, get_or, set, take, drop, drop_of_length-le}
use lib.Seq.{take_all, take-suc, take-suc-set, drop-set-lt, drop-cons, append_snoc}
use lib.Dec.{eqb}
use borrow.Author.Tests.{eq-eqb, ne_eqb}
use Rattle.limits.specs.Limits.{sites_most}
use Rattle.placement_order.specs.Tables.{filled}

-- the first k are done
abbrev pub filled_from : ℕ → List ℕ → ℕ → List ℕ
filled_from k table count = take k table ++ filled count (drop k table)

module _ (table : List ℕ) (count k : ℕ) where
  here : k < length table → (b : Bool) → eqb (get_or table k 0) sites_most ≡ b
      → filled_from k table count ≡ take k table ++ cond b (count ∷ filled (suc count) (drop (suc k) table)) (get_or table k 0 ∷ filled count (drop (suc k) table))
  here h b e = ap (λ (l : List ℕ). take k table ++ filled count l) (drop-cons table k 0 h) ∙ ap (λ (a : Bool). take k table ++ cond a (count ∷ filled (suc count) (drop (suc k) table)) (get_or table k 0 ∷ filled count (drop (suc k) table))) e

  pub filled_open : k < length table → get_or table k 0 ≡ sites_most → filled_from k table count ≡ filled_from (suc k) (set table k count) (suc count)
  filled_open h free =
      let rest = filled (suc count) (drop (suc k) table) in
      here h _ (eq-eqb (get_or table k 0) sites_most free)
      ∙ sym (append_snoc (take k table) count rest)
      ∙ sym (ap₂ (λ (xs ys : List ℕ). xs ++ filled (suc count) ys) (take-suc-set table k count h) (drop-set-lt (suc k) table k count (omega arith)))

  pub filled_placed : k < length table → (get_or table k 0 ≡ sites_most → ⊥) → filled_from k table count ≡ filled_from (suc k) table count
  filled_placed h placed =
      let rest = filled count (drop (suc k) table) in
      here h _ (ne_eqb (get_or table k 0) sites_most placed) ∙ sym (append_snoc (take k table) (get_or table k 0) rest) ∙ ap (λ (l : List ℕ). l ++ rest) (sym (take-suc table k 0 h))

  pub filled_all : length table ≤ k → filled_from k table count ≡ table
  filled_all h = ap₂ (λ (xs ys : List ℕ). xs ++ filled count ys) (take_all k table h) (drop_of_length-le table {i = k} h) ∙ append-nil table
