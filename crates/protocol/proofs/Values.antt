-- The value that commits, in the order made, leave of one item.
use mathlib.Core.Path.{◌≡◌, refl, ap, sym, ◌∙◌}
use mathlib.Core.Bool.{Bool, true, false, cond}
use mathlib.Core.List.{List, [], ◌∷◌, ◌++◌}
use Prim.Native.Nat.{ℕ, zero, suc, ◌<◌}
use native.Mathlib.Omega.{arith}
use lib.IntN.{ℤ, pos}
use lib.ListN.{length}
use Rattle.site_operations.specs.Operations.{touches}
use Rattle.site_operations.proofs.Works.{wrote, untouched}
use Rattle.lists.specs.Lists.{keep}
use Rattle.records.specs.Records.{Record}
use Rattle.protocol.specs.Network.{record_at}

-- the item's value after commits
abbrev pub last_from : ℕ → ℤ → List Record → ℤ
last_from x v [] = v
last_from x v (r ∷ rs) = last_from x (wrote x v r.ops) rs

-- starting at 0
abbrev pub last_value : ℕ → List Record → ℤ
last_value x rs = last_from x (pos 0) rs

pub from_more : (x : ℕ) (v : ℤ) (rs ss : List Record) → last_from x v (rs ++ ss) ≡ last_from x (last_from x v rs) ss
from_more x v [] ss = refl
from_more x v (r ∷ rs) ss = from_more x (wrote x v r.ops) rs ss

-- one commit, kept or not
keep_first : (x : ℕ) (v : ℤ) (p : Record → Bool) (r : Record) (rs : List Record) → last_from x v (keep p (r ∷ rs)) ≡ last_from x (cond (p r) (wrote x v r.ops) v) (keep p rs)
keep_first x v p r rs = go (p r)
  where
    go : (b : Bool) → last_from x v (cond b (r ∷ keep p rs) (keep p rs)) ≡ last_from x (cond b (wrote x v r.ops) v) (keep p rs)
    go true = refl
    go false = refl

same_cond : {A : Type 0} (b : Bool) (a c : A) → a ≡ c → cond b a c ≡ c
same_cond true a c e = e
same_cond false a c e = refl

-- ---- two tests that tell the same of every commit that writes the item leave the same value of it
module _ (x : ℕ) (p q : Record → Bool) where
  abbrev Tells : Record → Type 0
  Tells r = touches x r.ops ≡ true → p r ≡ q r

  tells_value : (v : ℤ) (r : Record) → Tells r → cond (p r) (wrote x v r.ops) v ≡ cond (q r) (wrote x v r.ops) v
  tells_value v r f = go (touches x r.ops) refl
    where
      go : (b : Bool) → touches x r.ops ≡ b → cond (p r) (wrote x v r.ops) v ≡ cond (q r) (wrote x v r.ops) v
      go true e = ap (λ (b : Bool). cond b (wrote x v r.ops) v) (f e)
      go false e =
          let same = untouched x v r.ops e in
          same_cond (p r) (wrote x v r.ops) v same ∙ sym (same_cond (q r) (wrote x v r.ops) v same)

  pub agree : (v : ℤ) (h : List Record) → ((k : ℕ) → k < length h → Tells (record_at h k)) → last_from x v (keep p h) ≡ last_from x v (keep q h)
  agree v [] f = refl
  agree v (r ∷ rs) f =
      keep_first x v p r rs
      ∙ ap (λ (w : ℤ). last_from x w (keep p rs)) (tells_value v r (f zero (omega arith)))
      ∙ agree (cond (q r) (wrote x v r.ops) v) rs (λ k l. f (suc k) (omega arith))
      ∙ sym (keep_first x v q r rs)

-- no commit that writes the item passes
pub none_kept : (x : ℕ) (p : Record → Bool) (v : ℤ) (h : List Record) → ((k : ℕ) → k < length h → touches x (record_at h k).ops ≡ true → p (record_at h k) ≡ false) → last_from x v (keep p h) ≡ v
none_kept x p v h f = agree x p (λ r. false) v h f ∙ ap (last_from x v) (nothing h)
  where
    nothing : (rs : List Record) → keep (λ (r : Record). false) rs ≡ []
    nothing [] = refl
    nothing (r ∷ rs) = nothing rs

-- ---- the second test leaves out commit k alone, and no later one that writes what it writes passes the first: its writes come last
module _ (x : ℕ) (p q : Record → Bool) where
  pub joined_commit : (v : ℤ) (h : List Record) (k : ℕ) → k < length h
      → ((i : ℕ) → i < length h → (i ≡ k → ⊥) → Tells x p q (record_at h i))
      → p (record_at h k) ≡ true → q (record_at h k) ≡ false
      → (touches x (record_at h k).ops ≡ true → (i : ℕ) → k < i → i < length h → touches x (record_at h i).ops ≡ true → p (record_at h i) ≡ false)
      → last_from x v (keep p h) ≡ wrote x (last_from x v (keep q h)) (record_at h k).ops
  joined_commit v [] k l f passes fails late = absurd (omega arith)
  joined_commit v (r ∷ rs) (suc k) l f passes fails late =
      keep_first x v p r rs
      ∙ ap (λ (w : ℤ). last_from x w (keep p rs)) (tells_value x p q v r (f zero (omega arith) (λ e. omega arith)))
      ∙ joined_commit (cond (q r) (wrote x v r.ops) v) rs k (omega arith) (λ i m ne. f (suc i) (omega arith) (λ e. ne (omega arith))) passes fails (λ t i a b. late t (suc i) (omega arith) (omega arith))
      ∙ sym (ap (λ (w : ℤ). wrote x w (record_at rs k).ops) (keep_first x v q r rs))
  joined_commit v (r ∷ rs) zero l f passes fails late =
      keep_first x v p r rs
      ∙ ap (λ (b : Bool). last_from x (cond b (wrote x v r.ops) v) (keep p rs)) passes
      ∙ go (touches x r.ops) refl
      ∙ sym (ap (λ (w : ℤ). wrote x w r.ops) (keep_first x v q r rs ∙ ap (λ (b : Bool). last_from x (cond b (wrote x v r.ops) v) (keep q rs)) fails))
    where
      rest : (i : ℕ) → i < length rs → Tells x p q (record_at rs i)
      rest i m = f (suc i) (omega arith) (λ e. omega arith)

      go : (b : Bool) → touches x r.ops ≡ b → last_from x (wrote x v r.ops) (keep p rs) ≡ wrote x (last_from x v (keep q rs)) r.ops
      go false e =
          ap (λ (w : ℤ). last_from x w (keep p rs)) (untouched x v r.ops e)
          ∙ agree x p q v rs rest
          ∙ sym (untouched x (last_from x v (keep q rs)) r.ops e)
      go true e =
          let none : (i : ℕ) → i < length rs → touches x (record_at rs i).ops ≡ true → p (record_at rs i) ≡ false = λ i m. late e (suc i) (omega arith) (omega arith) in
          none_kept x p (wrote x v r.ops) rs none
          ∙ ap (λ (w : ℤ). wrote x w r.ops) (sym (sym (agree x p q v rs rest) ∙ none_kept x p v rs none))
