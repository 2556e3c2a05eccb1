-- Laws of what is printed with a bound on its length, one thing behind another.
use mathlib.Core.Path.{◌≡◌, refl, sym, ap, ◌∙◌}
use mathlib.Core.Bool.{Bool, true, false, cond}
use mathlib.Core.List.{List, [], ◌∷◌, ◌++◌, append_assoc, append-nil}
use Prim.Native.Nat.{ℕ, zero, suc, ◌+◌, ◌≤◌, ◌<◌}
use native.Mathlib.Omega.{arith}
use native.Mathlib.Numerals.{add-one}
use lib.ListN.{length, get_or, take, set, length-append}
use lib.Seq.{take-suc}
use lib.Dec.{eqb, eqb-suc-zero}
use Rattle.decimal.specs.Decimal.{digits}
use Rattle.decimal.proofs.Printing.{printed_none, printed_then, printed_as, printed_byte, printed_length}
use borrow.Author.Tests.{eq-eqb, ne_eqb, eqb-true, eqb-false}
use Rattle.timestamp_order.specs.Timestamp.{Pair, no_pair}
use Rattle.protocol.specs.Calls.{Call, set_up, commit, dummy, epoch, deliver, schedule, collect, round, ask, Outcome}
use Rattle.script_notation.specs.Fields.{space}
use Rattle.script_notation.specs.Print.{tuple_text, tuples_text, spaced, accepted_text, print, fields_of, Put}

pub put_none : (w : List ℕ) (a : ℕ) → Put 0 w w a a []
put_none w a = record { printed = printed_none w a; small = omega arith }

pub put_byte : (w : List ℕ) (a v : ℕ) → a < length w → Put 1 w (set w a v) a (a + 1) (v ∷ [])
put_byte w a v h = record { printed = printed_byte w a v h; small = omega arith }

pub put_then : {m n : ℕ} {w x y : List ℕ} {a b c : ℕ} {xs ys : List ℕ} → a + m ≤ length w → Put m w x a b xs → Put n x y b c ys → Put (m + n) w y a c (xs ++ ys)
put_then {m} {n} {w} {x} {y} {a} {b} {c} {xs} {ys} h p q =
    record {
      printed = printed_then (omega (arith, p.small)) p.printed q.printed;
      small = omega (arith, p.small, q.small, length-append xs ys);
    }

pub put_as : {m n : ℕ} {w x : List ℕ} {a b : ℕ} {xs ys : List ℕ} → m ≤ n → xs ≡ ys → Put m w x a b xs → Put n w x a b ys
put_as {m} {n} {w} {x} {a} {b} {xs} {ys} h e p = record { printed = printed_as e p.printed; small = omega (arith, p.small, ap length e) }

pub put_end : {m : ℕ} {w x : List ℕ} {a b : ℕ} {xs : List ℕ} → Put m w x a b xs → b ≤ a + m
put_end p = omega (arith, p.printed.end_is, p.small)

pub put_length : {m : ℕ} {w x : List ℕ} {a b : ℕ} {xs : List ℕ} → a + m ≤ length w → Put m w x a b xs → length x ≡ length w
put_length {m} {w} {x} {a} {b} {xs} h p = printed_length (omega (arith, p.small)) p.printed

-- ---- one tuple more, one value more
-- the byte before the tuple at a place
abbrev pub separator_of : ℕ → ℕ
separator_of i = cond (eqb i 0) space 44

last_byte : ℕ → List Pair → ℕ
last_byte b [] = b
last_byte b (t ∷ ts) = 44

tuples_snoc : (b : ℕ) (ts : List Pair) (t : Pair) → tuples_text b (ts ++ (t ∷ [])) ≡ tuples_text b ts ++ (last_byte b ts ∷ tuple_text t)
unfolding tuples_text last_byte
tuples_snoc b [] t = ap (λ (l : List ℕ). b ∷ l) (append-nil (tuple_text t))
tuples_snoc b (u ∷ []) t = ap (λ (l : List ℕ). b ∷ (tuple_text u ++ l)) (tuples_snoc 44 [] t) ∙ ap (λ (l : List ℕ). b ∷ l) (sym (append_assoc (tuple_text u) (tuples_text 44 []) (44 ∷ tuple_text t)))
tuples_snoc b (u ∷ (v ∷ ts)) t =
    ap (λ (l : List ℕ). b ∷ (tuple_text u ++ l)) (tuples_snoc 44 (v ∷ ts) t)
    ∙ ap (λ (l : List ℕ). b ∷ l) (sym (append_assoc (tuple_text u) (tuples_text 44 (v ∷ ts)) (44 ∷ tuple_text t)))

last_byte_lem : (ts : List Pair) (i : ℕ) → i < length ts → last_byte space (take i ts) ≡ separator_of i
unfolding last_byte
last_byte_lem ts zero h = refl
last_byte_lem [] (suc i) h = absurd (omega arith)
last_byte_lem (t ∷ ts) (suc i) h = rw (eqb-suc-zero i)

pub tuples_next : (ts : List Pair) (i : ℕ) → i < length ts → tuples_text space (take i ts) ++ (separator_of i ∷ tuple_text (get_or ts i no_pair)) ≡ tuples_text space (take (i + 1) ts)
tuples_next ts i h =
    ap (λ (b : ℕ). tuples_text space (take i ts) ++ (b ∷ tuple_text (get_or ts i no_pair))) (sym (last_byte_lem ts i h))
    ∙ sym (tuples_snoc space (take i ts) (get_or ts i no_pair))
    ∙ ap (tuples_text space) (sym (take-suc ts i no_pair h))
    ∙ ap (λ (k : ℕ). tuples_text space (take k ts)) (sym (add-one i))

module _ {A : Type 0} (text : A → List ℕ) where
  spaced_snoc : (xs : List A) (x : A) → spaced text (xs ++ (x ∷ [])) ≡ spaced text xs ++ (space ∷ text x)
  unfolding spaced
  spaced_snoc [] x = ap (λ (l : List ℕ). space ∷ l) (append-nil (text x))
  spaced_snoc (y ∷ xs) x =
      ap (λ (l : List ℕ). space ∷ (text y ++ l)) (spaced_snoc xs x) ∙ ap (λ (l : List ℕ). space ∷ l) (sym (append_assoc (text y) (spaced text xs) (space ∷ text x)))

  pub spaced_next : (xs ys : List A) (x : A) → ys ≡ xs ++ (x ∷ []) → spaced text xs ++ (space ∷ text x) ≡ spaced text ys
  spaced_next xs ys x e = sym (spaced_snoc xs x) ∙ ap (spaced text) (sym e)

-- ---- an answer's number, and what stands behind it
pub print_refused : (call : Call) (o : Outcome) → (o.number ≡ 0 → ⊥) → digits o.number ≡ print call o
unfolding print
print_refused call o n = rw (ne_eqb o.number 0 n) (sym (append-nil (digits o.number)))

pub print_accepted : (call : Call) (o : Outcome) → o.number ≡ 0 → digits o.number ++ accepted_text call o ≡ print call o
unfolding print
print_accepted call o e = rw (eq-eqb o.number 0 e)

-- a call that prints its number alone
pub print_number : (call : Call) (o : Outcome) → accepted_text call o ≡ [] → digits o.number ≡ print call o
print_number call o e = go (eqb o.number 0) refl
  where
    go : (b : Bool) → eqb o.number 0 ≡ b → digits o.number ≡ print call o
    go true f = sym (append-nil (digits o.number)) ∙ ap (λ (l : List ℕ). digits o.number ++ l) (sym e) ∙ print_accepted call o (eqb-true o.number 0 f)
    go false f = print_refused call o (eqb-false o.number 0 f)

-- the state after plays no part
pub print_fields : (call : Call) (o : Outcome) → print call (fields_of o.number o.parent o.stamp o.values) ≡ print call o
unfolding print
print_fields (set_up sites items ps ms) o = refl
print_fields (commit i ks is vs) o = refl
print_fields (dummy i) o = refl
print_fields (epoch i e) o = refl
print_fields (deliver p c) o = refl
print_fields (schedule j) o = refl
print_fields collect o = refl
print_fields round o = refl
print_fields (ask q) o = refl
