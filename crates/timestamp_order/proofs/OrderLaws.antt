-- The laws of the order of timestamps, whatever the places of the sites.
use mathlib.Core.Path.{◌≡◌, refl, sym, ap, ◌∙◌}
use mathlib.Core.Bool.{Bool, true, false}
use mathlib.Core.List.{List, [], ◌∷◌, ◌++◌}
use Prim.Native.Nat.{ℕ, ◌+◌, ◌≤◌, ◌<◌}
use native.Mathlib.Omega.{arith}
use lib.ListN.{length}
use lib.Dec.{ltb}
use borrow.Author.Tests.{ltb-true, ltb-false}
use Rattle.timestamp_order.specs.declared.Order.{Order}
use Rattle.timestamp_order.specs.declared.Order.TheVariants.{Earlier, Equal, Later}
use Rattle.timestamp_order.specs.Timestamp.{Pair, Stamp, appended, last_pair, raised_last, raised}
use Rattle.timestamp_order.specs.Order.{then_by, number_order, place_order, pair_order, tuples_order, order_by, PlacesTell, not_later, IsEarlier, NotLater, Below}
use Rattle.timestamp_order.proofs.Numbers.{number_earlier, number_later, number_equal}
use Rattle.timestamp_order.proofs.Comparisons.{Laws, turned, later≢earlier, equal≢earlier, later≢equal, both_laws, split_same, turn_then, linked, then_trans}
use Rattle.timestamp_order.proofs.Timestamp.{last_snoc, raised_snoc}

-- ---- numbers
module _ (a b : ℕ) where
  is_earlier_lem : number_order a b ≡ Earlier → a < b
  unfolding number_order
  is_earlier_lem e = go (ltb a b) refl (ltb b a) refl
    where
      go : (p : Bool) → ltb a b ≡ p → (q : Bool) → ltb b a ≡ q → a < b
      go true h q g = ltb-true a b h
      go false h true g = absurd (later≢earlier (simp (h, g) at e))
      go false h false g = absurd (equal≢earlier (simp (h, g) at e))

  is_equal : number_order a b ≡ Equal → a ≡ b
  unfolding number_order
  is_equal e = go (ltb a b) refl (ltb b a) refl
    where
      go : (p : Bool) → ltb a b ≡ p → (q : Bool) → ltb b a ≡ q → a ≡ b
      go true h q g = absurd (equal≢earlier (sym (simp h at e)))
      go false h true g = absurd (later≢equal (simp (h, g) at e))
      go false h false g = omega (arith, ltb-false a b h, ltb-false b a g)

  turn_number : number_order b a ≡ turned (number_order a b)
  unfolding number_order
  turn_number = go (ltb a b) refl (ltb b a) refl
    where
      go : (p : Bool) → ltb a b ≡ p → (q : Bool) → ltb b a ≡ q → number_order b a ≡ turned (number_order a b)
      go true h true g = absurd (omega (arith, ltb-true a b h, ltb-true b a g))
      go true h false g = simp (h, g)
      go false h true g = simp (h, g)
      go false h false g = simp (h, g)

pub number_laws : Laws ℕ number_order
number_laws =
    record {
      same = is_equal;
      self = λ x. number_equal x x (omega arith) (omega arith);
      turn = turn_number;
      trans = λ x y z p q. number_earlier x z (omega (arith, is_earlier_lem x y p, is_earlier_lem y z q));
    }

-- ---- a strict total order
-- the higher number first
higher_laws : Laws ℕ (λ a b. number_order b a)
higher_laws =
    record {
      same = λ a b e. sym (is_equal b a e);
      self = number_laws.self;
      turn = λ a b. turn_number b a;
      trans = λ a b c p q. number_laws.trans c b a q p;
    }

pub places_tell : PlacesTell
unfolding place_order
places_tell place apart i j = go (number_order (place j) (place i)) refl
  where
    go : (r : Order) → number_order (place j) (place i) ≡ r → then_by (number_order (place j) (place i)) (number_order j i) ≡ number_order (place j) (place i)
    go Earlier e = rw e refl
    go Later e = rw e refl
    go Equal e = let same : j ≡ i = apart j i (is_equal (place j) (place i) e) in rw e (ap (λ (k : ℕ). number_order j k) (sym same) ∙ number_laws.self j)

module _ (place : ℕ → ℕ) where
  place_laws : Laws ℕ (place_order place)
  unfolding place_order
  place_laws = both_laws ℕ ℕ ℕ place (λ a. a) (λ a b. number_order b a) (λ a b. number_order b a) higher_laws higher_laws (λ a b p q. q)

  pub pair_laws : Laws Pair (pair_order place)
  unfolding pair_order
  pair_laws = both_laws Pair ℕ ℕ (λ x. x.site) (λ x. x.count) (place_order place) number_order place_laws number_laws (λ x y p q i. record { site = p i; count = q i })

  same_tuples : (xs ys : List Pair) → tuples_order place xs ys ≡ Equal → xs ≡ ys
  unfolding tuples_order
  same_tuples [] [] e = refl
  same_tuples [] (y ∷ ys) e = absurd (equal≢earlier (sym e))
  same_tuples (x ∷ xs) [] e = absurd (later≢equal e)
  same_tuples (x ∷ xs) (y ∷ ys) e = let s = split_same (pair_order place x y) (tuples_order place xs ys) e in λ i. pair_laws.same x y s.0 i ∷ same_tuples xs ys s.1 i

  self_tuples : (xs : List Pair) → tuples_order place xs xs ≡ Equal
  unfolding tuples_order
  self_tuples [] = refl
  self_tuples (x ∷ xs) = rw (pair_laws.self x) (self_tuples xs)

  turn_tuples : (xs ys : List Pair) → tuples_order place ys xs ≡ turned (tuples_order place xs ys)
  unfolding tuples_order
  turn_tuples [] [] = refl
  turn_tuples [] (y ∷ ys) = refl
  turn_tuples (x ∷ xs) [] = refl
  turn_tuples (x ∷ xs) (y ∷ ys) = rw (pair_laws.turn x y, turn_tuples xs ys) (sym (turn_then (pair_order place x y) (tuples_order place xs ys)))

  trans_tuples : (xs ys zs : List Pair) → tuples_order place xs ys ≡ Earlier → tuples_order place ys zs ≡ Earlier → tuples_order place xs zs ≡ Earlier
  unfolding tuples_order
  trans_tuples [] [] zs e f = absurd (equal≢earlier e)
  trans_tuples [] (y ∷ ys) [] e f = absurd (later≢earlier f)
  trans_tuples [] (y ∷ ys) (z ∷ zs) e f = refl
  trans_tuples (x ∷ xs) [] zs e f = absurd (later≢earlier e)
  trans_tuples (x ∷ xs) (y ∷ ys) [] e f = absurd (later≢earlier f)
  trans_tuples (x ∷ xs) (y ∷ ys) (z ∷ zs) e f =
      then_trans (pair_order place x y) (pair_order place y z) (pair_order place x z) (tuples_order place xs ys) (tuples_order place ys zs) (tuples_order place xs zs)
      (linked (pair_order place) pair_laws x y z) e f (trans_tuples xs ys zs)

  pub tuples_laws : Laws (List Pair) (tuples_order place)
  tuples_laws = record { same = same_tuples; self = self_tuples; turn = turn_tuples; trans = trans_tuples }

  -- the order of timestamps: what follows from it is in Comparisons
  pub order_laws : Laws Stamp (order_by place)
  unfolding order_by
  order_laws = both_laws Stamp ℕ (List Pair) (λ s. s.epoch) (λ s. s.tuples) number_order (tuples_order place) number_laws tuples_laws (λ x y p q i. record { epoch = p i; tuples = q i })

-- ---- what makes a timestamp later
module _ (place : ℕ → ℕ) where
  self_pair : (x : Pair) → pair_order place x x ≡ Equal
  self_pair = (pair_laws place).self

  more_tuples : (xs : List Pair) (y : Pair) (ys : List Pair) → tuples_order place xs (xs ++ (y ∷ ys)) ≡ Earlier
  unfolding tuples_order
  more_tuples [] y ys = refl
  more_tuples (x ∷ xs) y ys = rw (self_pair x) (more_tuples xs y ys)

  higher_count : (xs : List Pair) (j c d : ℕ) → c < d → tuples_order place (xs ++ (record { site = j; count = c } ∷ [])) (xs ++ (record { site = j; count = d } ∷ [])) ≡ Earlier
  unfolding tuples_order pair_order
  higher_count [] j c d h = rw ((place_laws place).self j, number_earlier c d h)
  higher_count (x ∷ xs) j c d h = rw (self_pair x) (higher_count xs j c d h)

  pub same_epoch : (s t : Stamp) → s.epoch ≡ t.epoch → order_by place s t ≡ tuples_order place s.tuples t.tuples
  unfolding order_by
  same_epoch s t e = rw (number_equal s.epoch t.epoch (omega arith) (omega arith))

  -- a higher epoch, whatever the tuples
  pub epoch_later : (s t : Stamp) → s.epoch < t.epoch → IsEarlier place s t
  unfolding order_by
  epoch_later s t h = rw (number_earlier s.epoch t.epoch h)

  -- a tuple more
  pub append_later : (s : Stamp) (j c : ℕ) → IsEarlier place s (appended s j c)
  append_later s j c = same_epoch s (appended s j c) refl ∙ more_tuples s.tuples (record { site = j; count = c }) []

  -- a higher own count
  pub count_later : (s : Stamp) (j c d : ℕ) → c < d → IsEarlier place (appended s j c) (appended s j d)
  count_later s j c d h = same_epoch (appended s j c) (appended s j d) refl ∙ higher_count s.tuples j c d h

  raised_later : (xs : List Pair) → 0 < length xs → tuples_order place xs (raised_last xs) ≡ Earlier
  unfolding tuples_order pair_order
  raised_later [] h = absurd (omega arith)
  raised_later (x ∷ []) h = rw ((place_laws place).self x.site, number_earlier x.count (x.count + 1) (omega arith))
  raised_later (x ∷ (y ∷ ys)) h = rw (self_pair x) (raised_later (y ∷ ys) (omega arith))

  -- the own count raised
  pub raise_later : (s : Stamp) → 0 < length s.tuples → IsEarlier place s (raised s)
  raise_later s h = same_epoch s (raised s) refl ∙ raised_later s.tuples h

  -- an epoch with no tuples is not later than anything of that epoch or a higher one
  bare_first : (ys : List Pair) → not_later (tuples_order place [] ys) ≡ true
  unfolding tuples_order
  bare_first [] = refl
  bare_first (y ∷ ys) = refl

  pub bare_not_later : (e : ℕ) (t : Stamp) → e ≤ t.epoch → NotLater place (record { epoch = e; tuples = [] }) t
  bare_not_later e t h = go (ltb e t.epoch) refl
    where
      go : (b : Bool) → ltb e t.epoch ≡ b → NotLater place (record { epoch = e; tuples = [] }) t
      go true f = ap not_later (epoch_later (record { epoch = e; tuples = [] }) t (ltb-true e t.epoch f))
      go false f = ap not_later (same_epoch (record { epoch = e; tuples = [] }) t (omega (arith, ltb-false e t.epoch f))) ∙ bare_first t.tuples

-- ---- the cut: a timestamp whose sites all stand before j compares with one that ends in j's tuple as with that one without it
-- what is equal without the tuple is earlier with it
abbrev pub cut : Order → Order
cut Earlier = Earlier
cut Equal = Earlier
cut Later = Later

then_cut : (p q : Order) → then_by p (cut q) ≡ cut (then_by p q)
then_cut Earlier q = refl
then_cut Equal q = refl
then_cut Later q = refl

not_later_cut : (r : Order) → not_later (cut r) ≡ not_later r
not_later_cut Earlier = refl
not_later_cut Equal = refl
not_later_cut Later = refl

earlier_cut : (r : Order) → turned (cut r) ≡ Earlier → turned r ≡ Earlier
earlier_cut Earlier e = e
earlier_cut Equal e = absurd (later≢earlier e)
earlier_cut Later e = e

cut_earlier : (r : Order) → turned r ≡ Earlier → turned (cut r) ≡ Earlier
cut_earlier Earlier e = e
cut_earlier Equal e = absurd (equal≢earlier e)
cut_earlier Later e = e

module _ (place : ℕ → ℕ) (j c : ℕ) where
  cut_tuples : (xs ys : List Pair) → Below place j xs → tuples_order place xs (ys ++ (record { site = j; count = c } ∷ [])) ≡ cut (tuples_order place xs ys)
  unfolding tuples_order pair_order place_order
  cut_tuples [] [] b = refl
  cut_tuples [] (y ∷ ys) b = refl
  cut_tuples (x ∷ xs) [] b = rw (number_later (place j) (place x.site) b.0)
  cut_tuples (x ∷ xs) (y ∷ ys) b =
      ap (then_by (pair_order place x y)) (cut_tuples xs ys b.1) ∙ then_cut (pair_order place x y) (tuples_order place xs ys)

  module _ (u s : Stamp) (below : Below place j u.tuples) where
    pub cut_order : order_by place u (appended s j c) ≡ cut (order_by place u s)
    unfolding order_by
    cut_order =
        ap (then_by (number_order u.epoch s.epoch)) (cut_tuples u.tuples s.tuples below)
        ∙ then_cut (number_order u.epoch s.epoch) (tuples_order place u.tuples s.tuples)

    -- u is not later than the longer one exactly where it is not later than the shorter
    pub cut_not_later : not_later (order_by place u (appended s j c)) ≡ not_later (order_by place u s)
    cut_not_later = ap not_later cut_order ∙ not_later_cut (order_by place u s)

    -- and never equal to the longer one
    pub cut_not_same : order_by place u (appended s j c) ≡ Equal → ⊥
    cut_not_same e = go (order_by place u s) (sym cut_order ∙ e)
      where
        go : (r : Order) → cut r ≡ Equal → ⊥
        go Earlier f = equal≢earlier (sym f)
        go Equal f = equal≢earlier (sym f)
        go Later f = later≢equal f

    -- seen from the other side: the longer one is earlier than u exactly where the shorter is
    pub cut_earlier_than : IsEarlier place s u → IsEarlier place (appended s j c) u
    cut_earlier_than e =
        let turn = (order_laws place).turn in
        turn u (appended s j c) ∙ ap turned cut_order ∙ cut_earlier (order_by place u s) (sym (turn u s) ∙ e)

    pub cut_shorter_earlier : IsEarlier place (appended s j c) u → IsEarlier place s u
    cut_shorter_earlier e =
        let turn = (order_laws place).turn in
        turn u s ∙ earlier_cut (order_by place u s) (ap turned (sym cut_order) ∙ sym (turn u (appended s j c)) ∙ e)

-- ---- the own tuple last
module _ (s : Stamp) (j c : ℕ) where
  pub own_appended : last_pair (appended s j c).tuples ≡ record { site = j; count = c }
  own_appended = last_snoc s.tuples (record { site = j; count = c })

  pub raised_appended : raised (appended s j c) ≡ appended s j (c + 1)
  raised_appended = ap (λ (ps : List Pair). record { epoch = s.epoch; tuples = ps }) (raised_snoc s.tuples (record { site = j; count = c }))
