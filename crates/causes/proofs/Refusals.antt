-- A refusal's number is not 0: an answer of number 0 is that of an accepted call.
use Rattle.std.proofs.Common.{◌≡◌, ◌∙◌, refl, sym, ap, ℕ, List, [], ◌∷◌, arith}
use Prim.Native.Nat.{zero, suc}
use borrow.Author.Tests.{ne_eqb}
use Rattle.std.specs.Prelude.{Ok, Err, IsErrAnd, is_ok, eqb}
use Rattle.std.specs.declared.result.Result.{Result}
use Rattle.lists.specs.Numbers.{first_number}
use Rattle.lists.proofs.Numbers.{first_some, first_none}
use Rattle.causes.specs.declared.Refusal.{Refusal}
use Rattle.causes.specs.declared.Refusal.TheVariants.{WrongSites, WrongItems, NoSuchPrimary, WrongMask, Cycle, NoState, NoSuchSite, WrongOperations, UnknownOperation, NoCopy, NotPrimary, HistoryFull, LineFull, CountFull, HasParents, EpochNotAbove, NoSuchLine, NothingOnTheWay, NoParents, ParentSilent, NoFile, WrongDistance, InvalidFile, NoSuchRecord, BufferTooShort, NoSuchRead}
use Rattle.causes.specs.Refusals.{refusal_number, number_of}

pub refusal_some : (r : Refusal) → refusal_number r ≡ 0 → ⊥
refusal_some WrongSites z = omega arith
refusal_some WrongItems z = omega arith
refusal_some NoSuchPrimary z = omega arith
refusal_some WrongMask z = omega arith
refusal_some Cycle z = omega arith
refusal_some NoState z = omega arith
refusal_some NoSuchSite z = omega arith
refusal_some WrongOperations z = omega arith
refusal_some UnknownOperation z = omega arith
refusal_some NoCopy z = omega arith
refusal_some NotPrimary z = omega arith
refusal_some HistoryFull z = omega arith
refusal_some LineFull z = omega arith
refusal_some CountFull z = omega arith
refusal_some HasParents z = omega arith
refusal_some EpochNotAbove z = omega arith
refusal_some NoSuchLine z = omega arith
refusal_some NothingOnTheWay z = omega arith
refusal_some NoParents z = omega arith
refusal_some ParentSilent z = omega arith
refusal_some NoFile z = omega arith
refusal_some WrongDistance z = omega arith
refusal_some InvalidFile z = omega arith
refusal_some NoSuchRecord z = omega arith
refusal_some BufferTooShort z = omega arith
refusal_some NoSuchRead z = omega arith

-- a refusal that `?` passes on keeps its number
pub passed_on : {A : Type 0} (r : Result A Refusal) (e : Refusal) → IsErrAnd r (λ x. x ≡ e) → number_of r ≡ refusal_number e
passed_on (Ok a) e is = absurd is
passed_on (Err x) e is = ap refusal_number is

-- ---- causes asked one after another
pub refused_first : {A : Type 0} (r : Result A Refusal) (e : Refusal) (n : ℕ) (ns : List ℕ)
    → IsErrAnd r (λ x. x ≡ e) → refusal_number e ≡ n → number_of r ≡ first_number (n ∷ ns)
refused_first r e n ns is of = passed_on r e is ∙ of ∙ sym (first_some n ns (λ z. refusal_some e (of ∙ z)))

pub asked_next : (k n : ℕ) (ns : List ℕ) → 0 ≡ n → k ≡ first_number ns → k ≡ first_number (n ∷ ns)
asked_next k n ns none is = is ∙ sym (first_none n ns (sym none))

pub asked_last : (k n : ℕ) → k ≡ n → k ≡ first_number (n ∷ [])
asked_last k zero is = is
asked_last k (suc n) is = is ∙ sym (first_some (suc n) [] (λ z. omega arith))

-- a call is accepted where its number is 0
pub accepted : {A : Type 0} (r : Result A Refusal) → is_ok r ≡ eqb (number_of r) 0
accepted (Ok a) = refl
accepted (Err e) = sym (ne_eqb (refusal_number e) 0 (refusal_some e))
