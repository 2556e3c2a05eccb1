-- How far operations are worked: those from i on, done to the table as it is, give what all of them give, and the i before them are laid.
use mathlib.Core.Path.{◌≡◌, refl, sym, ap, ◌∙◌}
use mathlib.Core.List.{List, [], ◌∷◌, ◌++◌, append_assoc, append-nil}
use Prim.Native.Nat.{ℕ, ◌+◌, ◌≤◌, ◌<◌}
use lib.IntN.{ℤ}
use lib.ListN.{drop, replicate}
use Rattle.limits.specs.Limits.{ops_most}
use Rattle.words.specs.Words.{chunks}
use Rattle.site_operations.specs.Operations.{Op, recorded, written, worked}
use Rattle.site_operations.specs.InWords.{ops_size, op_at, ops_in, OpsLaid, Put}
use Rattle.site_operations.proofs.Laws.{none_laid, next_laid, ops_drop, ops_done}

-- the table t after the first i of operations on the table b
abbrev pub TableLeft : List ℤ → List Op → List ℤ → ℕ → Type 0
TableLeft b os t i = (worked b os).table ≡ (worked t (drop i os)).table

-- and those i in words, as the history keeps them
pub record Progress (b : List ℤ) (os : List Op) (t : List ℤ) (out : List ℕ) (i : ℕ) : Type 0 where
  pub table_left : TableLeft b os t i
  pub ops_left : (worked b os).ops ≡ ops_in i out ++ (worked t (drop i os)).ops
  pub laid : OpsLaid i (ops_in i out) out

module _ (b : List ℤ) (n : ℕ) (ops : List ℕ) where
  pub none_worked : Progress b (ops_in n ops) b (replicate ops_size 0) 0
  unfolding chunks
  none_worked = record { table_left = refl; ops_left = refl; laid = none_laid }

  module _ (t : List ℤ) (i : ℕ) where
    -- operation i is next
    module _ (more : i < n) (t' : List ℤ) (done : t' ≡ written t (op_at ops i)) where
      pub table_next : TableLeft b (ops_in n ops) t i → TableLeft b (ops_in n ops) t' (i + 1)
      unfolding worked
      table_next left =
          left
          ∙ ap (λ (os : List Op). (worked t os).table) (ops_drop n ops i more)
          ∙ ap (λ (s : List ℤ). (worked s (drop (i + 1) (ops_in n ops))).table) (sym done)

      pub next_worked : (out out' : List ℕ) → i < ops_most → Put out out' i (recorded t (op_at ops i)) → Progress b (ops_in n ops) t out i → Progress b (ops_in n ops) t' out' (i + 1)
      unfolding worked
      next_worked out out' few put so_far =
          let o = recorded t (op_at ops i) in
          let rest = (worked t' (drop (i + 1) (ops_in n ops))).ops in
          let laid : OpsLaid (i + 1) (ops_in i out ++ (o ∷ [])) out' = next_laid i (ops_in i out) out out' o so_far.laid few put in
          record {
            table_left = table_next so_far.table_left;
            ops_left =
                so_far.ops_left
                ∙ ap (λ (os : List Op). ops_in i out ++ (worked t os).ops) (ops_drop n ops i more)
                ∙ ap (λ (s : List ℤ). ops_in i out ++ (o ∷ (worked s (drop (i + 1) (ops_in n ops))).ops)) (sym done)
                ∙ sym (append_assoc (ops_in i out) (o ∷ []) rest)
                ∙ ap (λ (os : List Op). os ++ rest) (sym laid.ops_are);
            laid = record { ops_are = refl; filled = laid.filled };
          }

    -- none is left
    module _ (all : n ≤ i) where
      pub table_done : TableLeft b (ops_in n ops) t i → (worked b (ops_in n ops)).table ≡ t
      unfolding worked
      table_done left = left ∙ ap (λ (os : List Op). (worked t os).table) (ops_done n ops i all)

      pub ops_laid : (out : List ℕ) → Progress b (ops_in n ops) t out i → OpsLaid i (worked b (ops_in n ops)).ops out
      unfolding worked
      ops_laid out so_far =
          record {
            ops_are = sym (so_far.ops_left ∙ ap (λ (os : List Op). ops_in i out ++ (worked t os).ops) (ops_done n ops i all) ∙ append-nil (ops_in i out));
            filled = so_far.laid.filled;
          }
