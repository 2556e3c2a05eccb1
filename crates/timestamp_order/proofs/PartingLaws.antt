-- Where two timestamps part: what is before it is the same, what is behind it differs, and it decides the order.
use mathlib.Core.Path.{◌≡◌, refl, sym, ap, subst, ◌∙◌}
use mathlib.Core.Bool.{Bool, true, false, false≢true, cond}
use mathlib.Core.List.{List, [], ◌∷◌}
use mathlib.Core.Option.{Option, none, some}
use Prim.Native.Nat.{ℕ, suc, ◌+◌, ◌≤◌, ◌<◌}
use native.Mathlib.Omega.{arith}
use lib.ListN.{length, get_or, take, drop, drop_of_length-le}
use lib.Seq.{drop-cons, get_or-take}
use lib.Dec.{eqb, ltb}
use borrow.Author.Tests.{ltb-true, ltb-false, eqb-true, eqb-false, eq-eqb, ne_eqb}
use Rattle.lists.proofs.Every.{and_true}
use Rattle.timestamp_order.specs.declared.Order.{Order}
use Rattle.timestamp_order.specs.declared.Order.TheVariants.{Earlier, Equal, Later}
use Rattle.timestamp_order.specs.declared.Parting.{Parting}
use Rattle.timestamp_order.specs.declared.Parting.TheVariants.{Epochs, After}
use Rattle.timestamp_order.specs.declared.Compared.{Compared}
use Rattle.timestamp_order.specs.Timestamp.{Pair, Stamp, no_pair}
use Rattle.timestamp_order.specs.Order.{then_by, number_order, pair_order, tuples_order, order_by}
use Rattle.timestamp_order.specs.Parting.{same_pair, shared, parting, shared_of, Compares, PartsAfter, PartsAt, PartThere, EqualShareAll, order_there, DecidedThere}
use Rattle.timestamp_order.proofs.OrderLaws.{number_laws, pair_laws, order_laws, same_epoch}

-- ---- two tuples
same_is : (x y : Pair) → same_pair x y ≡ true → x ≡ y
same_is x y e =
    let both = and_true (eqb x.site y.site) (eqb x.count y.count) e in
    λ i. record { site = eqb-true x.site y.site both.0 i; count = eqb-true x.count y.count both.1 i }

same_self : (x : Pair) → same_pair x x ≡ true
same_self x = rw (eq-eqb x.site x.site refl) (eq-eqb x.count x.count refl)

other_differs : (x y : Pair) → same_pair x y ≡ false → x ≡ y → ⊥
other_differs x y e f = false≢true (sym e ∙ ap (λ (z : Pair). same_pair x z) (sym f) ∙ same_self x)

-- ---- two lists of tuples
parts_at_once : (xs ys : List Pair) → ((0 < length xs) → (0 < length ys) → get_or xs 0 no_pair ≡ get_or ys 0 no_pair → ⊥) → PartsAfter xs ys 0
parts_at_once xs ys d = record { first_has = omega arith; second_has = omega arith; same = refl; differ = d }

parts_later : (x y : Pair) (xs ys : List Pair) (n : ℕ) → x ≡ y → PartsAfter xs ys n → PartsAfter (x ∷ xs) (y ∷ ys) (suc n)
parts_later x y xs ys n e p =
    record {
      first_has = omega (arith, p.first_has);
      second_has = omega (arith, p.second_has);
      same = λ i. e i ∷ p.same i;
      differ = λ l m f. p.differ (omega arith) (omega arith) f;
    }

shared_parts : (xs ys : List Pair) → PartsAfter xs ys (shared xs ys)
unfolding shared
shared_parts [] ys = parts_at_once [] ys (λ l m e. absurd (omega arith))
shared_parts (x ∷ xs) [] = parts_at_once (x ∷ xs) [] (λ l m e. absurd (omega arith))
shared_parts (x ∷ xs) (y ∷ ys) = go (same_pair x y) refl (shared_parts xs ys)
  where
    go : (b : Bool) → same_pair x y ≡ b → PartsAfter xs ys (shared xs ys) → PartsAfter (x ∷ xs) (y ∷ ys) (cond b (suc (shared xs ys)) 0)
    go true e p = parts_later x y xs ys (shared xs ys) (same_is x y e) p
    go false e p = parts_at_once (x ∷ xs) (y ∷ ys) (λ l m f. other_differs x y e f)

-- no list parts from another in two places
not_before : (xs ys : List Pair) (m n : ℕ) → PartsAfter xs ys m → PartsAfter xs ys n → m < n → ⊥
not_before xs ys m n p q l =
    let first : m < length xs = omega (arith, q.first_has) in
    let second : m < length ys = omega (arith, q.second_has) in
    p.differ first second (sym (get_or-take n xs m no_pair l) ∙ ap (λ (zs : List Pair). get_or zs m no_pair) q.same ∙ get_or-take n ys m no_pair l)

parts_once : (xs ys : List Pair) (m n : ℕ) → PartsAfter xs ys m → PartsAfter xs ys n → m ≡ n
parts_once xs ys m n p q = go (ltb m n) refl (ltb n m) refl
  where
    go : (b : Bool) → ltb m n ≡ b → (c : Bool) → ltb n m ≡ c → m ≡ n
    go true e c f = absurd (not_before xs ys m n p q (ltb-true m n e))
    go false e true f = absurd (not_before xs ys n m q p (ltb-true n m f))
    go false e false f = omega (arith, ltb-false m n e, ltb-false n m f)

shared_self : (xs : List Pair) → shared xs xs ≡ length xs
unfolding shared
shared_self [] = refl
shared_self (x ∷ xs) = rw (same_self x) (ap suc (shared_self xs))

-- ---- two timestamps
module _ (a b : Stamp) where
  pub epochs_part : (a.epoch ≡ b.epoch → ⊥) → parting a b ≡ none
  unfolding parting
  epochs_part d = rw (ne_eqb a.epoch b.epoch d)

  pub tuples_part : a.epoch ≡ b.epoch → parting a b ≡ some (shared a.tuples b.tuples)
  unfolding parting
  tuples_part e = rw (eq-eqb a.epoch b.epoch e)

  part : (e : Bool) → eqb a.epoch b.epoch ≡ e → PartsAt a b (parting a b) × ((p : Option ℕ) → PartsAt a b p → p ≡ parting a b)
  part true e =
      let same = eqb-true a.epoch b.epoch e in
      let is = tuples_part same in
      (subst (PartsAt a b) (sym is) (same, shared_parts a.tuples b.tuples), λ p. only p is)
    where
      only : (p : Option ℕ) → parting a b ≡ some (shared a.tuples b.tuples) → PartsAt a b p → p ≡ parting a b
      only none is d = absurd (d (eqb-true a.epoch b.epoch e))
      only (some n) is q = ap some (parts_once a.tuples b.tuples n (shared a.tuples b.tuples) q.1 (shared_parts a.tuples b.tuples)) ∙ sym is
  part false e =
      let other = eqb-false a.epoch b.epoch e in
      let is = epochs_part other in
      (subst (PartsAt a b) (sym is) other, λ p. only p is)
    where
      only : (p : Option ℕ) → parting a b ≡ none → PartsAt a b p → p ≡ parting a b
      only none is d = sym is
      only (some n) is q = absurd (eqb-false a.epoch b.epoch e q.0)

pub part_there : PartThere
part_there a b = part a b (eqb a.epoch b.epoch) refl

pub shared_within : (a b : Stamp) (n : ℕ) → parting a b ≡ some n → n ≤ length a.tuples
shared_within a b n e = (subst (PartsAt a b) e (part_there a b).0).1.first_has

pub equal_share_all : EqualShareAll
equal_share_all place a b e =
    let same : a ≡ b = (order_laws place).same a b e in
    let all = tuples_part a b (ap (λ (s : Stamp). s.epoch) same) in (
      all ∙ ap (λ (s : Stamp). some (shared a.tuples s.tuples)) (sym same) ∙ ap some (shared_self a.tuples),
      all ∙ ap (λ (s : Stamp). some (shared s.tuples b.tuples)) same ∙ ap some (shared_self b.tuples),
    )

-- ---- it decides the order
decides : (r s : Order) → (r ≡ Equal → ⊥) → then_by r s ≡ r
decides Earlier s d = refl
decides Equal s d = absurd (d refl)
decides Later s d = refl

alone : (r : Order) → then_by r Equal ≡ r
alone Earlier = refl
alone Equal = refl
alone Later = refl

module _ (place : ℕ → ℕ) where
  -- what stands right behind the shared tuples
  tuples_decide : (xs ys : List Pair) → let n = shared xs ys in tuples_order place xs ys ≡ tuples_order place (take 1 (drop n xs)) (take 1 (drop n ys))
  unfolding shared tuples_order
  tuples_decide [] [] = refl
  tuples_decide [] (y ∷ ys) = refl
  tuples_decide (x ∷ xs) [] = refl
  tuples_decide (x ∷ xs) (y ∷ ys) = go (same_pair x y) refl (tuples_decide xs ys)
    where
      go : (b : Bool) → same_pair x y ≡ b
          → let n = shared xs ys in tuples_order place xs ys ≡ tuples_order place (take 1 (drop n xs)) (take 1 (drop n ys))
          → let n = cond b (suc (shared xs ys)) 0 in then_by (pair_order place x y) (tuples_order place xs ys) ≡ tuples_order place (take 1 (drop n (x ∷ xs))) (take 1 (drop n (y ∷ ys)))
      go true e behind = rw (ap (pair_order place x) (sym (same_is x y e)) ∙ (pair_laws place).self x) behind
      go false e behind =
          decides (pair_order place x y) (tuples_order place xs ys) (λ f. other_differs x y e ((pair_laws place).same x y f)) ∙ sym (alone (pair_order place x y))

pub decided_there : DecidedThere
unfolding order_by
decided_there place a b = go (eqb a.epoch b.epoch) refl
  where
    go : (e : Bool) → eqb a.epoch b.epoch ≡ e → then_by (number_order a.epoch b.epoch) (tuples_order place a.tuples b.tuples) ≡ order_there place a b (parting a b)
    go true e =
        let same = eqb-true a.epoch b.epoch e in
        same_epoch place a b same ∙ tuples_decide place a.tuples b.tuples ∙ ap (order_there place a b) (sym (tuples_part a b same))
    go false e =
        let other = eqb-false a.epoch b.epoch e in
        decides (number_order a.epoch b.epoch) (tuples_order place a.tuples b.tuples) (λ f. other (number_laws.same a.epoch b.epoch f))
        ∙ ap (order_there place a b) (sym (epochs_part a b other))

-- ---- what the comparison of two timestamps answers, by the spot
module _ (place : ℕ → ℕ) (a b : Stamp) where
  answered : (p : Parting) (r : Order) → shared_of p ≡ parting a b → r ≡ order_there place a b (shared_of p) → Compares place a b (record { order = r; parting = p })
  answered p r s o = record { order_is = o ∙ ap (order_there place a b) s ∙ sym (decided_there place a b); parting_is = s }

  pub other_epochs : (a.epoch ≡ b.epoch → ⊥) → Compares place a b (record { order = number_order a.epoch b.epoch; parting = Epochs })
  other_epochs d = answered Epochs _ (sym (epochs_part a b d)) refl

  -- the tuples looked at one after another: those before i are shared
  module _ (same : a.epoch ≡ b.epoch) (i : ℕ) (so_far : shared a.tuples b.tuples ≡ i + shared (drop i a.tuples) (drop i b.tuples)) where
    abbrev xs : List Pair
    xs = a.tuples

    abbrev ys : List Pair
    ys = b.tuples

    abbrev pub Answers : Order → Type 0
    Answers r = Compares place a b (record { order = r; parting = After i })

    answers : shared xs ys ≡ i → (r : Order) → tuples_order place (take 1 (drop i xs)) (take 1 (drop i ys)) ≡ r → Answers r
    answers e r o = answered (After i) r (ap some (sym e) ∙ sym (tuples_part a b same)) (sym o)

    met : i < length xs → i < length ys → (e : Bool) → same_pair (get_or xs i no_pair) (get_or ys i no_pair) ≡ e → shared xs ys ≡ i + cond e (suc (shared (drop (suc i) xs) (drop (suc i) ys))) 0
    unfolding shared
    met p q e f = so_far ∙ rw (drop-cons xs i no_pair p, drop-cons ys i no_pair q, f)

    pub goes_on : i < length xs → i < length ys → same_pair (get_or xs i no_pair) (get_or ys i no_pair) ≡ true → shared xs ys ≡ suc i + shared (drop (suc i) xs) (drop (suc i) ys)
    goes_on p q e = met p q true e ∙ omega arith

    pub they_differ : i < length xs → i < length ys → same_pair (get_or xs i no_pair) (get_or ys i no_pair) ≡ false → (r : Order) → r ≡ pair_order place (get_or xs i no_pair) (get_or ys i no_pair) → Answers r
    unfolding tuples_order
    they_differ p q e r o = answers (met p q false e ∙ omega arith) r (rw (drop-cons xs i no_pair p, drop-cons ys i no_pair q) (alone (pair_order place (get_or xs i no_pair) (get_or ys i no_pair)) ∙ sym o))

    nothing_behind : (zs : List Pair) → i + shared zs [] ≡ i
    unfolding shared
    nothing_behind [] = omega arith
    nothing_behind (z ∷ zs) = omega arith

    pub second_ends : i < length xs → length ys ≤ i → Answers Later
    unfolding tuples_order
    second_ends p q =
        let end = drop_of_length-le ys {i = i} q in
        answers (so_far ∙ rw end (nothing_behind (drop i xs))) Later (rw (drop-cons xs i no_pair p, end))

    pub first_ends : length xs ≤ i → i < length ys → Answers Earlier
    unfolding shared tuples_order
    first_ends p q =
        let end = drop_of_length-le xs {i = i} p in
        answers (so_far ∙ rw end (omega arith)) Earlier (rw (end, drop-cons ys i no_pair q))

    pub both_end : length xs ≤ i → length ys ≤ i → Answers Equal
    unfolding shared tuples_order
    both_end p q =
        let end = drop_of_length-le xs {i = i} p in
        answers (so_far ∙ rw end (omega arith)) Equal (rw (end, drop_of_length-le ys {i = i} q))

-- the same answer, of timestamps said another way
pub compares_as : {place : ℕ → ℕ} {a b s t : Stamp} {r : Compared} → a ≡ s → b ≡ t → Compares place a b r → Compares place s t r
compares_as {place = place} {b = b} {s = s} {r = r} e f p = subst (λ (y : Stamp). Compares place s y r) f (subst (λ (x : Stamp). Compares place x b r) e p)
