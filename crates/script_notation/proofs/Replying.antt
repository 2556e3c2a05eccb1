-- From a call's promise and what was printed to the promise of its line; and the calls that numbers and fields stand for.
use mathlib.Core.Path.{◌≡◌, refl, sym, ap, subst, ◌∙◌}
use mathlib.Core.Bool.{Bool, true, false, cond, not, ◌&&◌}
use mathlib.Core.List.{List, [], ◌∷◌, map}
use mathlib.Core.Option.{Option, none, some}
use Prim.Native.Nat.{ℕ, ◌+◌, ◌-◌, ◌≤◌, ◌<◌}
use native.Mathlib.Omega.{arith}
use lib.IntN.{ℤ}
use lib.ListN.{length, get_or, take, drop}
use lib.Seq.{length-take-le}
use borrow.Author.Tests.{not-true, not-false, eqb-true, eqb-false, ne_eqb, le-leb, lt-leb, leb-true, leb-false}
use lib.Dec.{eqb, leb}
use Rattle.lists.proofs.Every.{and_true}
use Rattle.decimal.specs.Decimal.{natural, digits}
use Rattle.timestamp_order.specs.Timestamp.{Stamp}
use Rattle.site_operations.specs.Operations.{Op}
use Rattle.placement.specs.Placement.{Item}
use Rattle.protocol.specs.Network.{no_stamp}
use Rattle.protocol.specs.Calls.{Call, set_up, commit, Outcome, refused, perform}
use Rattle.network_layout.specs.InWords.{shaped, meaning}
use Rattle.network_layout.specs.Promises.{Performed}
use Rattle.network_layout.proofs.OnNetwork.{unshaped}
use Rattle.script_notation.specs.declared.Reply.{Reply}
use Rattle.script_notation.specs.Fields.{space, position, fields, fields_from}
use Rattle.script_notation.specs.Parse.{on, set_up_with, set_up_of, commit_with, commit_of, called, by_letter, longest, parse, all, operation, placed, first_operations, first_items}
use Rattle.script_notation.specs.Print.{print, fields_of, answer_most, Put}
use Rattle.script_notation.specs.Answers.{replied, RepliedAt, Answered, Said}
use Rattle.script_notation.proofs.Places.{place_within, field_next, fields_end}
use Rattle.script_notation.proofs.Putting.{put_as, print_fields, print_refused, print_number}
use Rattle.script_notation.proofs.Shapes.{shape_stays, shape_set_up}
use Rattle.script_notation.proofs.Parsing.{kinds_of, items_of_lem, values_of, primaries_of, masks_of}

-- ---- no call, and a call
pub replied_as : {entry exit out₀ out : List ℕ} {at end : ℕ} {a b : Option Call} → a ≡ b → RepliedAt a entry exit out₀ out at end → RepliedAt b entry exit out₀ out at end
replied_as {entry} {exit} {out₀} {out} {at} {end} e p = subst (λ (o : Option Call). RepliedAt o entry exit out₀ out at end) e p

pub answered_as : {entry exit out₀ out : List ℕ} {at : ℕ} {r : Reply} {a b : Option Call} → a ≡ b → Answered a entry exit out₀ out at r → Answered b entry exit out₀ out at r
answered_as e p = record { replied_at = replied_as e p.replied_at; formed_is = p.formed_is }

pub answered_none : {out₀ out : List ℕ} {at : ℕ} {formed : Bool} {r : Reply} (call : Option Call) (w : List ℕ) → none ≡ call → formed ≡ shaped w → Said (63 ∷ []) formed out₀ out at r → Answered call w w out₀ out at r
answered_none call w e f p =
    record {
      replied_at =
          record {
            printed = put_as (omega arith) (ap (λ (o : Option Call). (replied (meaning w) o).bytes) e) p.printed;
            after_is = ap (λ (o : Option Call). (replied (meaning w) o).after) e;
            kept = λ h. refl;
          };
      formed_is = p.formed_is ∙ f;
    }

pub replied_some : {entry exit out₀ out : List ℕ} {at end number parent : ℕ} {stamp : Stamp} {values : List ℤ} (call : Call) → Performed call entry exit number parent stamp values
    → Put answer_most out₀ out at end (print call (fields_of number parent stamp values)) → RepliedAt (some call) entry exit out₀ out at end
replied_some {entry} {exit} {out₀} {out} {at} {end} {number} {parent} {stamp} {values} call p q =
    record {
      printed =
          put_as
          (omega arith)
          (ap (λ (k : ℕ). print call (fields_of k parent stamp values)) p.number_is
          ∙ ap (λ (k : ℕ). print call (fields_of o.number k stamp values)) p.parent_is
          ∙ ap (λ (t : Stamp). print call (fields_of o.number o.parent t values)) p.stamp_is
          ∙ ap (λ (vs : List ℤ). print call (fields_of o.number o.parent o.stamp vs)) p.values_are
          ∙ print_fields call o) q;
      after_is = p.after_is;
      kept = λ h. p.kept (λ z. eqb-false o.number 0 h (sym p.number_is ∙ z));
    }
  where
    o : Outcome
    o = perform (meaning entry) call

-- a call that needs a network, on the words of none
pub answered_unformed : {out₀ out : List ℕ} {at : ℕ} {formed : Bool} {r : Reply} (call : Call) (w : List ℕ) → perform none call ≡ refused 6 none → formed ≡ shaped w → not formed ≡ true
    → Said (digits 6) formed out₀ out at r → Answered (some call) w w out₀ out at r
answered_unformed call w n f h p =
    record {
      replied_at =
          replied_some call (unshaped call n w (sym f ∙ not-true _ h))
          (put_as (omega arith) (print_refused call (fields_of 6 0 no_stamp []) (λ z. omega (arith, z))) p.printed);
      formed_is = p.formed_is ∙ f;
    }

-- one that has it
pub answered_formed : {entry exit out₀ out : List ℕ} {at end : ℕ} {formed : Bool} (call : Call) → formed ≡ shaped entry → not formed ≡ false → RepliedAt (some call) entry exit out₀ out at end
    → Answered (some call) entry exit out₀ out at (record { end = end; formed = formed })
answered_formed {entry} {exit} {formed = formed} call f h p = record { replied_at = p; formed_is = not-false formed h ∙ sym (shape_stays entry exit call (sym f ∙ not-false formed h) p.after_is) }

-- a set-up, which needs none
pub answered_set_up : {entry exit out₀ out : List ℕ} {at end number : ℕ} {formed after : Bool} (sites items : ℕ) (ps ms : List ℕ) → formed ≡ shaped entry → after ≡ cond (eqb number 0) true formed
    → Performed (set_up sites items ps ms) entry exit number 0 no_stamp [] → Put answer_most out₀ out at end (digits number)
    → Answered (some (set_up sites items ps ms)) entry exit out₀ out at (record { end = end; formed = after })
answered_set_up {number = number} sites items ps ms f g p q =
    record {
      replied_at = replied_some (set_up sites items ps ms) p (put_as (omega arith) (print_number (set_up sites items ps ms) (fields_of number 0 no_stamp []) refl) q);
      formed_is = g ∙ shape_set_up sites items ps ms f p;
    }

-- ---- the call that a list of numbers stands for
module _ {A B : Type 0} {o : Option A} (g : A → Option B) where
  pub on_none : none ≡ o → none ≡ on o g
  on_none e = ap (λ (z : Option A). on z g) e

  pub on_is : (x : A) → some x ≡ o → g x ≡ on o g
  on_is x e = ap (λ (z : Option A). on z g) e

-- ---- set-up
pub few_numbers : (l : List ℕ) → length l < 2 → none ≡ set_up_of l
few_numbers [] h = refl
few_numbers (a ∷ []) h = refl
few_numbers (a ∷ (b ∷ l)) h = absurd (omega arith)

pub set_up_of_lem : (l : List ℕ) → 2 ≤ length l → on (placed (drop 2 l)) (λ is. some (set_up_with (get_or l 0 0) (get_or l 1 0) is)) ≡ set_up_of l
set_up_of_lem [] h = absurd (omega arith)
set_up_of_lem (a ∷ []) h = absurd (omega arith)
set_up_of_lem (a ∷ (b ∷ l)) h = refl

pub set_up_with_lem : (sites items n : ℕ) (ps ms : List ℕ) → length (take n ms) ≡ length (take n ps) → some (set_up sites items (take n ps) (take n ms)) ≡ some (set_up_with sites items (first_items n ps ms))
set_up_with_lem sites items n ps ms e =
    ap (λ (l : List ℕ). some (set_up sites items l (take n ms))) (sym (primaries_of (take n ps) (take n ms) e))
    ∙ ap (λ (l : List ℕ). some (set_up sites items (map (λ (i : Item). i.primary) (first_items n ps ms)) l)) (sym (masks_of (take n ps) (take n ms) e))

-- ---- commit
pub commit_with_lem : (site n : ℕ) (ks is : List ℕ) (vs : List ℤ) → length (take n is) ≡ length (take n ks) → length (take n vs) ≡ length (take n ks)
    → some (commit site (take n ks) (take n is) (take n vs)) ≡ some (commit_with site (first_operations n ks is vs))
commit_with_lem site n ks is vs e f =
    let os = first_operations n ks is vs in
    ap (λ (l : List ℕ). some (commit site l (take n is) (take n vs))) (sym (kinds_of (take n ks) (take n is) (take n vs) e f))
    ∙ ap (λ (l : List ℕ). some (commit site (map (λ (o : Op). o.kind) os) l (take n vs))) (sym (items_of_lem (take n ks) (take n is) (take n vs) e f))
    ∙ ap (λ (l : List ℤ). some (commit site (map (λ (o : Op). o.kind) os) (map (λ (o : Op). o.item) os) l)) (sym (values_of (take n ks) (take n is) (take n vs) e f))

abbrev pub committing : List (List ℕ) → ℕ → Option Call
committing fs site = on (all operation fs) (λ os. some (commit_with site os))

module _ (text : List ℕ) where
  pub no_site_lem : length text < 2 → none ≡ commit_of (fields_from text 2)
  no_site_lem h = ap commit_of (sym (fields_end text 2 h))

  module _ (h : 2 ≤ length text) (end : ℕ) (e : end ≡ 2 + position space (drop 2 text)) where
    pub site_first : on (natural (take (end - 2) (drop 2 text))) (committing (fields_from text (end + 1))) ≡ commit_of (fields_from text 2)
    site_first = ap commit_of (sym (field_next text 2 end e h))

-- ---- by the letter
pub no_letter : (b : ℕ) (fs : List (List ℕ)) → (b ≡ 112 → ⊥) → (b ≡ 99 → ⊥) → (b ≡ 100 → ⊥) → (b ≡ 101 → ⊥) → (b ≡ 108 → ⊥) → (b ≡ 115 → ⊥) → none ≡ called b fs
unfolding called
no_letter b fs p c d e l s = rw (ne_eqb b 112 p, ne_eqb b 99 c, ne_eqb b 100 d, ne_eqb b 101 e, ne_eqb b 108 l, ne_eqb b 115 s)

letter_long : (f : List ℕ) (fs : List (List ℕ)) → (length f ≡ 1 → ⊥) → none ≡ by_letter (f ∷ fs)
letter_long [] fs n = refl
letter_long (b ∷ []) fs n = absurd (n refl)
letter_long (b ∷ (x ∷ xs)) fs n = refl

letter_one : (l : List ℕ) (fs : List (List ℕ)) → 1 ≤ length l → called (get_or l 0 0) fs ≡ by_letter (take 1 l ∷ fs)
letter_one [] fs h = absurd (omega arith)
letter_one (b ∷ l) fs h = refl

module _ (text : List ℕ) where
  too_long : longest < length text → none ≡ parse text
  unfolding parse
  too_long h = rw (lt-leb (length text) longest h)

  module _ (h : length text ≤ longest) (end : ℕ) (e : end ≡ 0 + position space text) where
    opened : by_letter (take end text ∷ fields_from text (end + 1)) ≡ parse text
    unfolding parse
    opened =
        let z : end - 0 ≡ end = omega arith in
        sym
        (ap (λ (b : Bool). cond b (by_letter (fields text)) none) (le-leb (length text) longest h)
        ∙ ap by_letter (sym zero_on ∙ field_next text 0 end e (omega arith))
        ∙ ap (λ (k : ℕ). by_letter (take k text ∷ fields_from text (end + 1))) z)
      where
        zero_on : fields_from text 0 ≡ fields text
        zero_on = ap (λ (b : Bool). cond b (fields text) []) (le-leb 0 (length text) (omega arith))

    other_letter : end ≤ length text → (end ≡ 1 → ⊥) → none ≡ parse text
    other_letter g n = letter_long (take end text) (fields_from text (end + 1)) (λ z. n (sym (length-take-le end text g) ∙ z)) ∙ opened

    one_letter : end ≤ length text → end ≡ 1 → called (get_or text 0 0) (fields_from text 2) ≡ parse text
    one_letter g z =
        letter_one text (fields_from text 2) (omega arith)
        ∙ ap (λ (k : ℕ). by_letter (take k text ∷ fields_from text (k + 1))) (sym z)
        ∙ opened

  -- a line that is not too long and begins with one byte alone is the call of that byte, any other is none
  abbrev lettered : Bool → Bool
  lettered short = short && eqb (position space text) 1

  pub unlettered_none : lettered (leb (length text) longest) ≡ false → none ≡ parse text
  unlettered_none = go (leb (length text) longest) refl
    where
      go : (t : Bool) → leb (length text) longest ≡ t → lettered t ≡ false → none ≡ parse text
      go true e f = other_letter (leb-true (length text) longest e) (position space text) (omega arith) (place_within space text) (eqb-false (position space text) 1 f)
      go false e f = too_long (leb-false (length text) longest e)

  pub record Letter : Type 0 where
    pub short : length text ≤ longest
    pub some : 1 ≤ length text
    pub called_is : called (get_or text 0 0) (fields_from text 2) ≡ parse text

  pub lettered_called : lettered (leb (length text) longest) ≡ true → Letter
  lettered_called e =
      let both = and_true (leb (length text) longest) (eqb (position space text) 1) e in
      let h = leb-true (length text) longest both.0 in
      let one = eqb-true (position space text) 1 both.1 in
      record { short = h; some = omega (arith, place_within space text); called_is = one_letter h (position space text) (omega arith) (place_within space text) one }
