-- Timestamps that a site makes: the walk that tests for rising places, and what raising, appending and the last site do to them.
use mathlib.Core.Path.{◌≡◌, refl, sym, ap, ◌∙◌}
use mathlib.Core.Bool.{Bool, true, false, ◌&&◌}
use mathlib.Core.List.{List, [], ◌∷◌, ◌++◌}
use Prim.Native.Nat.{ℕ, suc, ◌+◌, ◌≤◌, ◌<◌}
use native.Mathlib.Omega.{arith}
use lib.ListN.{length, get_or, drop, drop_of_length-le, length-append}
use lib.Seq.{drop-cons}
use lib.Dec.{ltb, leb, eqb}
use borrow.Author.Tests.{lt-ltb, le-ltb, ltb-true, leb-true, leb-false, eqb-true, eq-eqb}
use Rattle.lists.specs.Lists.{every}
use Rattle.lists.proofs.Every.{and_true}
use Rattle.timestamp_order.specs.Timestamp.{Pair, Stamp, no_pair, appended, raised_last, raised, last_pair, own_site}
use Rattle.timestamp_order.specs.Order.{Below}
use Rattle.timestamp_order.specs.Made.{rising, made_by}
use Rattle.timestamp_order.proofs.Timestamp.{last_snoc}

-- ---- the sites of a list, one after another
module _ (place : ℕ → ℕ) (ps : List Pair) (k : ℕ) where
  rise_step : suc k < length ps → rising place (drop k ps) ≡ (ltb (place (get_or ps k no_pair).site) (place (get_or ps (suc k) no_pair).site) && rising place (drop (suc k) ps))
  unfolding rising
  rise_step h =
      let next = drop-cons ps (suc k) no_pair h in
      ap (rising place) (drop-cons ps k no_pair (omega arith) ∙ ap {B = List Pair} (λ r. get_or ps k no_pair ∷ r) next)
      ∙ ap (λ (r : List Pair). ltb (place (get_or ps k no_pair).site) (place (get_or ps (suc k) no_pair).site) && rising place r) (sym next)

  module _ (same : rising place ps ≡ rising place (drop k ps)) where
    pub rise_stops : suc k < length ps → place (get_or ps (suc k) no_pair).site ≤ place (get_or ps k no_pair).site → rising place ps ≡ false
    rise_stops h b =
        same ∙ rise_step h ∙ ap (λ (t : Bool). t && rising place (drop (suc k) ps)) (le-ltb (place (get_or ps k no_pair).site) (place (get_or ps (suc k) no_pair).site) b)

    pub rise_goes_on : suc k < length ps → place (get_or ps k no_pair).site < place (get_or ps (suc k) no_pair).site → rising place ps ≡ rising place (drop (suc k) ps)
    rise_goes_on h b =
        same ∙ rise_step h ∙ ap (λ (t : Bool). t && rising place (drop (suc k) ps)) (lt-ltb (place (get_or ps k no_pair).site) (place (get_or ps (suc k) no_pair).site) b)

    pub rise_ends : length ps ≤ suc k → rising place ps ≡ true
    unfolding rising
    rise_ends h = go (leb (length ps) k) refl
      where
        go : (b : Bool) → leb (length ps) k ≡ b → rising place ps ≡ true
        go true e = same ∙ ap (rising place) (drop_of_length-le ps {i = k} (leb-true (length ps) k e))
        go false e =
            same
            ∙ ap (rising place) (drop-cons ps k no_pair (omega (arith, leb-false (length ps) k e)) ∙ ap {B = List Pair} (λ r. get_or ps k no_pair ∷ r) (drop_of_length-le ps {i = suc k} h))

-- ---- what a timestamp made by a site is like
pub record Made (place : ℕ → ℕ) (j : ℕ) (ps : List Pair) : Type 0 where
  pub some : 0 < length ps
  pub rises : rising place ps ≡ true
  pub last : (last_pair ps).site ≡ j

module _ (place : ℕ → ℕ) (j : ℕ) (s : Stamp) where
  pub made_parts : made_by place j s ≡ true → Made place j s.tuples
  unfolding made_by
  made_parts e =
      let p = and_true (ltb 0 (length s.tuples)) (rising place s.tuples && eqb (own_site s) j) e in
      let q = and_true (rising place s.tuples) (eqb (own_site s) j) p.1 in
      record { some = ltb-true 0 (length s.tuples) p.0; rises = q.0; last = eqb-true (own_site s) j q.1 }

  pub made_whole : Made place j s.tuples → made_by place j s ≡ true
  unfolding made_by
  made_whole m = rw (lt-ltb 0 (length s.tuples) m.some, m.rises) (eq-eqb (own_site s) j m.last)

-- ---- where only sites of a group stand before one of them, a timestamp that one of them made has tuples of these alone
module _ (place : ℕ → ℕ) (sites : ℕ) (before : (k j : ℕ) → j < sites → place k < place j → k < sites) where
  abbrev of_group : Pair → Bool
  of_group p = ltb p.site sites

  tuples_inside : (ps : List Pair) → rising place ps ≡ true → (last_pair ps).site < sites → every of_group ps ≡ true
  unfolding rising
  tuples_inside [] r last = refl
  tuples_inside (x ∷ []) r last = rw (lt-ltb x.site sites last)
  tuples_inside (x ∷ (y ∷ ys)) r last =
      let p = and_true (ltb (place x.site) (place y.site)) (rising place (y ∷ ys)) r in
      let rest = tuples_inside (y ∷ ys) p.1 last in
      let next = ltb-true y.site sites (and_true (of_group y) (every of_group ys) rest).0 in
      rw (lt-ltb x.site sites (before x.site y.site next (ltb-true (place x.site) (place y.site) p.0))) rest

  pub made_inside : (j : ℕ) (s : Stamp) → made_by place j s ≡ true → j < sites → every (λ p. ltb p.site sites) s.tuples ≡ true
  made_inside j s made near = let m = made_parts place j s made in tuples_inside s.tuples m.rises (omega (arith, m.last))

-- the first timestamp of a site
pub made_start : (place : ℕ → ℕ) (j e c : ℕ) → made_by place j (record { epoch = e; tuples = record { site = j; count = c } ∷ [] }) ≡ true
unfolding rising
made_start place j e c =
    made_whole place j (record { epoch = e; tuples = record { site = j; count = c } ∷ [] }) (record { some = omega arith; rises = refl; last = refl })

-- a raised count changes no site
module _ (place : ℕ → ℕ) where
  raised_rising : (ps : List Pair) → rising place (raised_last ps) ≡ rising place ps
  unfolding rising
  raised_rising [] = refl
  raised_rising (x ∷ []) = refl
  raised_rising (x ∷ (y ∷ [])) = refl
  raised_rising (x ∷ (y ∷ (z ∷ zs))) = ap (λ (b : Bool). ltb (place x.site) (place y.site) && b) (raised_rising (y ∷ (z ∷ zs)))

  raised_length : (ps : List Pair) → length (raised_last ps) ≡ length ps
  raised_length [] = refl
  raised_length (x ∷ []) = refl
  raised_length (x ∷ (y ∷ ys)) = ap suc (raised_length (y ∷ ys))

  raised_site : (ps : List Pair) → (last_pair (raised_last ps)).site ≡ (last_pair ps).site
  raised_site [] = refl
  raised_site (x ∷ []) = refl
  raised_site (x ∷ (y ∷ [])) = refl
  raised_site (x ∷ (y ∷ (z ∷ zs))) = raised_site (y ∷ (z ∷ zs))

  pub made_raised : (j : ℕ) (s : Stamp) → made_by place j s ≡ true → made_by place j (raised s) ≡ true
  made_raised j s e =
      let m = made_parts place j s e in
      made_whole place j (raised s)
      (record {
        some = omega (arith, raised_length s.tuples, m.some);
        rises = raised_rising s.tuples ∙ m.rises;
        last = raised_site s.tuples ∙ m.last;
      })

  -- a tuple of a later site added
  rising_snoc : (ps : List Pair) (x : Pair) → 0 < length ps → rising place ps ≡ true → place (last_pair ps).site < place x.site → rising place (ps ++ (x ∷ [])) ≡ true
  unfolding rising
  rising_snoc [] x h r b = absurd (omega arith)
  rising_snoc (y ∷ []) x h r b = rw (lt-ltb (place y.site) (place x.site) b)
  rising_snoc (y ∷ (z ∷ zs)) x h r b =
      let p = and_true (ltb (place y.site) (place z.site)) (rising place (z ∷ zs)) r in
      rw p.0 (rising_snoc (z ∷ zs) x (omega arith) p.1 b)

  pub made_appended : (p j c : ℕ) (s : Stamp) → made_by place p s ≡ true → place p < place j → made_by place j (appended s j c) ≡ true
  made_appended p j c s e b =
      let m = made_parts place p s e in
      let x : Pair = record { site = j; count = c } in
      let f : place (last_pair s.tuples).site < place j = rw m.last b in
      made_whole place j (appended s j c)
      (record {
        some = omega (arith, length-append s.tuples (x ∷ []));
        rises = rising_snoc s.tuples x m.some m.rises f;
        last = ap (λ (y : Pair). y.site) (last_snoc s.tuples x);
      })

  -- all but the last site stand before it
  rising_first : (x y : Pair) (ys : List Pair) → rising place (x ∷ (y ∷ ys)) ≡ true → (place x.site < place y.site) × (rising place (y ∷ ys) ≡ true)
  unfolding rising
  rising_first x y ys r =
      let p = and_true (ltb (place x.site) (place y.site)) (rising place (y ∷ ys)) r in
      (ltb-true (place x.site) (place y.site) p.0, p.1)

  before_last : (x : Pair) (ps : List Pair) (z : Pair) → rising place (x ∷ (ps ++ (z ∷ []))) ≡ true → (place x.site < place z.site) × Below place z.site ps
  before_last x [] z r = ((rising_first x z [] r).0, tt)
  before_last x (y ∷ ys) z r =
      let p = rising_first x y (ys ++ (z ∷ [])) r in
      let q = before_last y ys z p.1 in
      (omega (arith, p.0, q.0), q)

  rising_below : (ps : List Pair) (z : Pair) → rising place (ps ++ (z ∷ [])) ≡ true → Below place z.site ps
  rising_below [] z r = tt
  rising_below (x ∷ ps) z r = before_last x ps z r

  pub made_below : (j c : ℕ) (s : Stamp) → made_by place j (appended s j c) ≡ true → Below place j s.tuples
  made_below j c s e = rising_below s.tuples (record { site = j; count = c }) (made_parts place j (appended s j c) e).rises

-- ---- a timestamp is what it was before its last tuple, and that tuple
abbrev pub without_last : List Pair → List Pair
without_last [] = []
without_last (x ∷ []) = []
without_last (x ∷ (y ∷ ys)) = x ∷ without_last (y ∷ ys)

last_split : (ps : List Pair) → 0 < length ps → ps ≡ without_last ps ++ (last_pair ps ∷ [])
last_split [] h = absurd (omega arith)
last_split (x ∷ []) h = refl
last_split (x ∷ (y ∷ ys)) h = ap {B = List Pair} (λ r. x ∷ r) (last_split (y ∷ ys) (omega arith))

abbrev pub without : Stamp → Stamp
without s = record { epoch = s.epoch; tuples = without_last s.tuples }

pub made_split : (place : ℕ → ℕ) (j : ℕ) (s : Stamp) → made_by place j s ≡ true → s ≡ appended (without s) j (last_pair s.tuples).count
made_split place j s e =
    let m = made_parts place j s e in
    ap (λ (ps : List Pair). record { epoch = s.epoch; tuples = ps }) (last_split s.tuples m.some)
    ∙ ap (λ (i : ℕ). appended (without s) i (last_pair s.tuples).count) m.last

-- ---- no more tuples than places up to the last
module _ (place : ℕ → ℕ) where
  rising_from : (x : Pair) (ps : List Pair) → rising place (x ∷ ps) ≡ true → place x.site + length ps ≤ place (last_pair (x ∷ ps)).site
  rising_from x [] r = omega arith
  rising_from x (y ∷ ys) r =
      let p = rising_first place x y ys r in
      omega (arith, p.0, rising_from y ys p.1)

  pub made_length : (j : ℕ) (s : Stamp) → made_by place j s ≡ true → length s.tuples ≤ suc (place j)
  made_length j s e = go s.tuples (made_parts place j s e)
    where
      go : (ps : List Pair) → Made place j ps → length ps ≤ suc (place j)
      go [] m = omega arith
      go (x ∷ ps) m = omega (arith, rising_from x ps m.rises, ap place m.last)
