-- Laws of operations in words, and of the table that they write.
use mathlib.Core.Path.{◌≡◌, refl, sym, ap, ap₂, ◌∙◌}
use mathlib.Core.List.{List, [], ◌∷◌, ◌++◌, map, map-append}
use Prim.Native.Nat.{ℕ, ◌+◌, ◌*◌, ◌-◌, ◌≤◌, ◌<◌}
use native.Mathlib.Omega.{arith}
use native.Mathlib.Numerals.{add-one}
use lib.IntN.{ℤ, pos}
use lib.ListN.{length, get_or, set, drop, replicate, length-map, drop_of_length-le, get_or-map, get_or-eq_default}
use lib.Seq.{drop-cons}
use mathlib.Core.Bool.{Bool, true, false, cond}
use borrow.Author.Tests.{eq-eqb, ne_eqb}
use mir.Val.{to_z}
use mir.Syntax.{w32}
use Rattle.words.specs.Words.{part, put, chunks, laid}
use Rattle.words.proofs.Parts.{part_get_d, put_here, put_past, put_length}
use Rattle.words.proofs.Chunks.{chunks_length, chunks_at, chunks_last, chunks_below}
use Rattle.words.proofs.Walks.{laid_in}
use Rattle.lists.proofs.Lists.{map_set}
use Rattle.lists.proofs.Filled.{filled_more}
use Rattle.site_operations.specs.Operations.{Op, reads, recorded, written}
use Rattle.site_operations.specs.InWords.{op_of, op_in, op_words, op_at, ops_in, ops_size, op_size, table_in, OpsLaid, Put}
use Rattle.limits.specs.Limits.{ops_most}

-- ---- one operation, word by word
pub op_word : (ops : List ℕ) (i p n : ℕ) → p ≡ op_size * i + n → n < op_size → get_or ops p 0 ≡ get_or (op_words ops i) n 0
op_word ops i p n e h = let f : p ≡ i * op_size + n = omega arith in ap (λ (q : ℕ). get_or ops q 0) f ∙ sym (part_get_d ops (i * op_size) op_size n h)

module _ (o : Op) where
  -- what is not a write leaves the table
  pub write_none : (table : List ℤ) (kind : ℕ) → kind ≡ o.kind → (kind ≡ 1 → ⊥) → table ≡ written table o
  write_none table kind k z = sym (rw (ne_eqb o.kind 1 (λ f. z (k ∙ f))))

  -- a write is done to the table
  pub write_done : (table : List ℕ) (kind item v : ℕ) → kind ≡ o.kind → kind ≡ 1 → item ≡ o.item → to_z w32 v ≡ o.value → table_in (set table item v) ≡ written (table_in table) o
  write_done table kind item v k z j e = map_set (to_z w32) table item v ∙ ap₂ (set (table_in table)) j e ∙ sym (rw (eq-eqb o.kind 1 (sym k ∙ z)))

  -- a read is kept with the value of the table, another operation with its own
  pub kept_read : (table : List ℕ) (kind item v : ℕ) → kind ≡ o.kind → kind ≡ 0 → item ≡ o.item → v ≡ get_or table item 0 → to_z w32 v ≡ (recorded (table_in table) o).value
  kept_read table kind item v k z j e =
      ap (to_z w32) e
      ∙ sym (get_or-map (to_z w32) table item 0)
      ∙ ap (λ (n : ℕ). get_or (table_in table) n (pos 0)) j
      ∙ sym (rw (eq-eqb o.kind 0 (sym k ∙ z)))

  pub kept_other : (b : List ℤ) (kind v : ℕ) → kind ≡ o.kind → (kind ≡ 0 → ⊥) → to_z w32 v ≡ o.value → to_z w32 v ≡ (recorded b o).value
  kept_other b kind v k z e = e ∙ sym (rw (ne_eqb o.kind 0 (λ f. z (k ∙ f))))

  -- kind and item are kept as they are
  pub kept_op : (b : List ℤ) (kind item v : ℕ) → kind ≡ o.kind → item ≡ o.item → to_z w32 v ≡ (recorded b o).value → op_of kind item v ≡ recorded b o
  kept_op b kind item v k j e = (λ t. record { kind = k t; item = j t; value = e t }) ∙ same (reads o) (get_or b o.item (pos 0))
    where
      same : (r : Bool) (x : ℤ) → record { kind = o.kind; item = o.item; value = (cond r (record { kind = o.kind; item = o.item; value = x }) o).value } ≡ cond r (record { kind = o.kind; item = o.item; value = x }) o
      same true x = refl
      same false x = refl

-- operation i laid after the i before it
pub laid_op : (out out' : List ℕ) (i kind item v : ℕ) (o : Op) → length out ≡ ops_size → i < ops_most
    → out' ≡ laid out (op_size * i) (kind ∷ (item ∷ (v ∷ []))) → op_of kind item v ≡ o → ops_in (i + 1) out' ≡ ops_in i out ++ (o ∷ [])
laid_op out out' i kind item v o size h e f =
    let ys : List ℕ = kind ∷ (item ∷ (v ∷ [])) in
    let at : op_size * i ≡ i * op_size = omega arith in
    let new : List ℕ = put out (i * op_size) op_size ys in
    ap₂ ops_in (add-one i) (e ∙ laid_in out (op_size * i) ys (omega arith) ∙ ap (λ (p : ℕ). put out p op_size ys) at)
    ∙ ap (map op_in) (chunks_last op_size i new)
    ∙ map-append op_in (chunks op_size i new) (part new (i * op_size) op_size ∷ [])
    ∙ ap₂ {C = List Op} (λ (x : List (List ℕ)) (y : List ℕ). map op_in x ++ (op_in y ∷ []))
    (chunks_below op_size i out (i * op_size) op_size ys (omega arith) (omega arith) refl)
    (put_here out (i * op_size) op_size ys (omega arith) refl)
    ∙ ap {B = List Op} (λ x. ops_in i out ++ (x ∷ [])) f

-- and the words behind it stay
module _ (out out' ys : List ℕ) (i : ℕ) (three : length ys ≡ op_size) (size : length out ≡ ops_size) (h : i < ops_most) (e : out' ≡ laid out (op_size * i) ys) where
  is_put : out' ≡ put out (op_size * i) (length ys) ys
  is_put = e ∙ laid_in out (op_size * i) ys (omega arith)

  pub laid_behind : drop ((i + 1) * op_size) out' ≡ drop ((i + 1) * op_size) out
  laid_behind =
      let end : (i + 1) * op_size ≡ op_size * i + length ys = omega arith in
      rw end (ap (drop (op_size * i + length ys)) is_put ∙ put_past out (op_size * i) (length ys) ys (omega arith) refl)

  pub laid_size : length out' ≡ length out
  laid_size = ap length is_put ∙ put_length out (op_size * i) (length ys) ys (omega arith) refl

-- ---- operations at eight places, 0 past the last
pub none_laid : OpsLaid 0 [] (replicate ops_size 0)
unfolding chunks
none_laid = record { ops_are = refl; filled = record { fits = omega arith; sized = refl; rest_is = refl } }

pub put_as : {entry exit : List ℕ} {i : ℕ} {o o' : Op} → o ≡ o' → Put entry exit i o → Put entry exit i o'
put_as {entry} {exit} {i} e p = record { laid = λ h. p.laid h ∙ ap {B = List Op} (λ x. ops_in i entry ++ (x ∷ [])) e; behind = p.behind; kept = p.kept; size = p.size }

pub next_laid : (i : ℕ) (os : List Op) (out out' : List ℕ) (o : Op) → OpsLaid i os out → i < ops_most → Put out out' i o → OpsLaid (i + 1) (os ++ (o ∷ [])) out'
next_laid i os out out' o l h p =
    record {
      ops_are = p.laid h ∙ ap (λ (x : List Op). x ++ (o ∷ [])) l.ops_are;
      filled = filled_more 0 ops_size (i * op_size) ((i + 1) * op_size) out out' l.filled (omega arith) (omega arith) p.size (p.behind h);
    }

-- ---- all operations
pub ops_length : (n : ℕ) (w : List ℕ) → length (ops_in n w) ≡ n
ops_length n w = length-map (chunks op_size n w) op_in ∙ chunks_length op_size n w

pub ops_at : (n : ℕ) (w : List ℕ) (i : ℕ) → i < n → get_or (ops_in n w) i (op_in []) ≡ op_at w i
ops_at n w i h = get_or-map op_in (chunks op_size n w) i [] ∙ ap op_in (chunks_at op_size n w i h)

-- those from i on: operation i and those after it; none past the last
pub ops_drop : (n : ℕ) (w : List ℕ) (i : ℕ) → i < n → drop i (ops_in n w) ≡ op_at w i ∷ drop (i + 1) (ops_in n w)
ops_drop n w i h =
    drop-cons (ops_in n w) i (op_in []) (omega (arith, ops_length n w))
    ∙ ap₂ {C = List Op} (λ (o : Op) (k : ℕ). o ∷ drop k (ops_in n w)) (ops_at n w i h) (sym (add-one i))

pub ops_done : (n : ℕ) (w : List ℕ) (i : ℕ) → n ≤ i → drop i (ops_in n w) ≡ []
ops_done n w i h = drop_of_length-le (ops_in n w) {i = i} (omega (arith, ops_length n w))

pub ops_last : (n : ℕ) (w : List ℕ) → ops_in (n + 1) w ≡ ops_in n w ++ (op_at w n ∷ [])
ops_last n w = ap (λ (k : ℕ). ops_in k w) (add-one n) ∙ ap (map op_in) (chunks_last op_size n w) ∙ map-append op_in (chunks op_size n w) (part w (n * op_size) op_size ∷ [])
