-- Laws of a comparison that answers Earlier, Equal or Later, whatever it compares; and that two of them, one after the other, keep the laws.
use mathlib.Core.Path.{◌≡◌, refl, sym, ap, ◌∙◌}
use mathlib.Core.Bool.{true, false, false≢true}
use mathlib.Core.Logic.{◌⊎◌, inl, inr}
use Prim.Native.Nat.{ℕ}
use native.Mathlib.Omega.{arith}
use Rattle.timestamp_order.specs.declared.Order.{Order}
use Rattle.timestamp_order.specs.declared.Order.TheVariants.{Earlier, Equal, Later}
use Rattle.timestamp_order.specs.Order.{then_by, not_later}

abbrev pub turned : Order → Order
turned Earlier = Later
turned Equal = Equal
turned Later = Earlier

pub record Laws (A : Type 0) (cmp : A → A → Order) : Type 0 where
  pub same : (x y : A) → cmp x y ≡ Equal → x ≡ y
  pub self : (x : A) → cmp x x ≡ Equal
  pub turn : (x y : A) → cmp y x ≡ turned (cmp x y)
  pub trans : (x y z : A) → cmp x y ≡ Earlier → cmp y z ≡ Earlier → cmp x z ≡ Earlier

-- ---- the three answers differ
pub later≢earlier : Later ≡ Earlier → ⊥
later≢earlier e = let z : ◌≡◌ {A = ℕ} 0 1 = cc in omega arith

pub equal≢earlier : Equal ≡ Earlier → ⊥
equal≢earlier e = let z : ◌≡◌ {A = ℕ} 0 1 = cc in omega arith

pub later≢equal : Later ≡ Equal → ⊥
later≢equal e = let z : ◌≡◌ {A = ℕ} 0 1 = cc in omega arith

-- ---- what follows from the laws: a strict total order, and what is not later
module _ {A : Type 0} (cmp : A → A → Order) (L : Laws A cmp) where
  pub irreflexive : (x : A) → cmp x x ≡ Earlier → ⊥
  irreflexive x e = equal≢earlier (sym (L.self x) ∙ e)

  pub asymmetric : (x y : A) → cmp x y ≡ Earlier → cmp y x ≡ Earlier → ⊥
  asymmetric x y p q = irreflexive x (L.trans x y x p q)

  pub total : (x y : A) → (cmp x y ≡ Earlier) ⊎ ((x ≡ y) ⊎ (cmp y x ≡ Earlier))
  total x y = go (cmp x y) refl
    where
      go : (r : Order) → cmp x y ≡ r → (cmp x y ≡ Earlier) ⊎ ((x ≡ y) ⊎ (cmp y x ≡ Earlier))
      go Earlier e = inl e
      go Equal e = inr (inl (L.same x y e))
      go Later e = inr (inr (L.turn x y ∙ ap turned e))

  -- ---- not later
  pub same_not_later : (x y : A) → x ≡ y → not_later (cmp x y) ≡ true
  same_not_later x y e = ap (λ v. not_later (cmp x v)) (sym e) ∙ ap not_later (L.self x)

  pub earlier_not_later : (x y : A) → cmp x y ≡ Earlier → not_later (cmp x y) ≡ true
  earlier_not_later x y e = ap not_later e

  pub not_later_cases : (x y : A) → not_later (cmp x y) ≡ true → (cmp x y ≡ Earlier) ⊎ (x ≡ y)
  not_later_cases x y h = go (cmp x y) refl
    where
      go : (r : Order) → cmp x y ≡ r → (cmp x y ≡ Earlier) ⊎ (x ≡ y)
      go Earlier e = inl e
      go Equal e = inr (L.same x y e)
      go Later e = absurd (false≢true (ap not_later (sym e) ∙ h))

  -- one is not later than the other exactly where the other is not earlier
  pub not_later_turned : (x y : A) → (cmp y x ≡ Earlier → ⊥) → not_later (cmp x y) ≡ true
  not_later_turned x y h = go (cmp x y) refl
    where
      go : (r : Order) → cmp x y ≡ r → not_later (cmp x y) ≡ true
      go Earlier e = ap not_later e
      go Equal e = ap not_later e
      go Later e = absurd (h (L.turn x y ∙ ap turned e))

  pub not_later_not_turned : (x y : A) → not_later (cmp x y) ≡ true → cmp y x ≡ Earlier → ⊥
  not_later_not_turned x y h e = false≢true (ap not_later (sym (L.turn y x ∙ ap turned e)) ∙ h)

  pub later_turned : (x y : A) → not_later (cmp x y) ≡ false → cmp y x ≡ Earlier
  later_turned x y h = go (cmp x y) refl
    where
      go : (r : Order) → cmp x y ≡ r → cmp y x ≡ Earlier
      go Earlier e = absurd (false≢true (sym h ∙ ap not_later e))
      go Equal e = absurd (false≢true (sym h ∙ ap not_later e))
      go Later e = L.turn x y ∙ ap turned e

  pub earlier_then_not_later : (x y z : A) → cmp x y ≡ Earlier → not_later (cmp y z) ≡ true → cmp x z ≡ Earlier
  earlier_then_not_later x y z p q = go (not_later_cases y z q)
    where
      go : (cmp y z ≡ Earlier) ⊎ (y ≡ z) → cmp x z ≡ Earlier
      go (inl e) = L.trans x y z p e
      go (inr e) = ap (cmp x) (sym e) ∙ p

  pub not_later_then_earlier : (x y z : A) → not_later (cmp x y) ≡ true → cmp y z ≡ Earlier → cmp x z ≡ Earlier
  not_later_then_earlier x y z p q = go (not_later_cases x y p)
    where
      go : (cmp x y ≡ Earlier) ⊎ (x ≡ y) → cmp x z ≡ Earlier
      go (inl e) = L.trans x y z e q
      go (inr e) = ap (λ v. cmp v z) e ∙ q

  pub not_later_trans : (x y z : A) → not_later (cmp x y) ≡ true → not_later (cmp y z) ≡ true → not_later (cmp x z) ≡ true
  not_later_trans x y z p q = go (not_later_cases x y p)
    where
      go : (cmp x y ≡ Earlier) ⊎ (x ≡ y) → not_later (cmp x z) ≡ true
      go (inl e) = ap not_later (earlier_then_not_later x y z e q)
      go (inr e) = ap (λ v. not_later (cmp v z)) e ∙ q

  pub not_later_both : (x y : A) → not_later (cmp x y) ≡ true → not_later (cmp y x) ≡ true → x ≡ y
  not_later_both x y p q = go (not_later_cases x y p)
    where
      go : (cmp x y ≡ Earlier) ⊎ (x ≡ y) → x ≡ y
      go (inl e) = absurd (not_later_not_turned y x q e)
      go (inr e) = e

-- ---- one comparison after another
pub split_same : (p q : Order) → then_by p q ≡ Equal → (p ≡ Equal) × (q ≡ Equal)
split_same Earlier q e = absurd (equal≢earlier (sym e))
split_same Equal q e = (refl, e)
split_same Later q e = absurd (later≢equal e)

pub turn_then : (p q : Order) → turned (then_by p q) ≡ then_by (turned p) (turned q)
turn_then Earlier q = refl
turn_then Equal q = refl
turn_then Later q = refl

-- how the comparisons p of x y, q of y z and r of x z hang together
pub record Linked (p q r : Order) : Type 0 where
  pub both : p ≡ Earlier → q ≡ Earlier → r ≡ Earlier
  pub first : p ≡ Equal → r ≡ q
  pub last : q ≡ Equal → r ≡ p

pub linked : {A : Type 0} (cmp : A → A → Order) → Laws A cmp → (x y z : A) → Linked (cmp x y) (cmp y z) (cmp x z)
linked cmp L x y z =
    record {
      both = L.trans x y z;
      first = λ h. ap (λ v. cmp v z) (L.same x y h);
      last = λ h. ap (cmp x) (sym (L.same y z h));
    }

pub then_trans : (p q r s t u : Order) → Linked p q r → then_by p s ≡ Earlier → then_by q t ≡ Earlier → (s ≡ Earlier → t ≡ Earlier → u ≡ Earlier) → then_by r u ≡ Earlier
then_trans Earlier Earlier r s t u l e f n = rw (l.both refl refl)
then_trans Earlier Equal r s t u l e f n = rw (l.last refl)
then_trans Earlier Later r s t u l e f n = absurd (later≢earlier f)
then_trans Equal Earlier r s t u l e f n = rw (l.first refl)
then_trans Equal Equal r s t u l e f n = rw (l.first refl) (n e f)
then_trans Equal Later r s t u l e f n = absurd (later≢earlier f)
then_trans Later q r s t u l e f n = absurd (later≢earlier e)

-- by one feature, then by another
module _ (A B C : Type 0) (f : A → B) (g : A → C) (first : B → B → Order) (second : C → C → Order) (L : Laws B first) (M : Laws C second) (whole : (x y : A) → f x ≡ f y → g x ≡ g y → x ≡ y) where
  pub both_laws : Laws A (λ x y. then_by (first (f x) (f y)) (second (g x) (g y)))
  both_laws =
      record {
        same = λ x y e. let s = split_same (first (f x) (f y)) (second (g x) (g y)) e in whole x y (L.same (f x) (f y) s.0) (M.same (g x) (g y) s.1);
        self = λ x. rw (L.self (f x)) (M.self (g x));
        turn = λ x y. rw (L.turn (f x) (f y), M.turn (g x) (g y)) (sym (turn_then (first (f x) (f y)) (second (g x) (g y))));
        trans = λ x y z e k.
            then_trans (first (f x) (f y)) (first (f y) (f z)) (first (f x) (f z)) (second (g x) (g y)) (second (g y) (g z)) (second (g x) (g z)) (linked first L (f x) (f y) (f z)) e k (M.trans (g x) (g y) (g z));
      }
