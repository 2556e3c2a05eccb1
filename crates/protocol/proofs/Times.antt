-- Timestamps compared, whatever the places of the sites: the order's laws in the two relations that the
-- invariant speaks of, and the cut at a site's own tuple. A block of laws opens those that it needs.
use mathlib.Core.Path.{◌≡◌, refl, ap, sym, ◌∙◌}
use mathlib.Core.Bool.{Bool, true, false, not, false≢true}
use mathlib.Core.List.{List, [], ◌∷◌, ◌++◌}
use mathlib.Core.Logic.{◌⊎◌, inl, inr}
use Prim.Native.Nat.{ℕ, ◌+◌, ◌<◌}
use Rattle.timestamp_order.specs.declared.Order.{Order}
use Rattle.timestamp_order.specs.declared.Order.TheVariants.{Earlier, Equal, Later}
use Rattle.timestamp_order.specs.Timestamp.{Pair, Stamp, appended, raised, last_pair}
use Rattle.timestamp_order.specs.Order.{order_by, not_later, is_earlier, IsEarlier, NotLater, Below}
use Rattle.timestamp_order.specs.Made.{made_by}
use Rattle.timestamp_order.proofs.Comparisons.{Laws, irreflexive, same_not_later, earlier_not_later, not_later_cases, not_later_not_turned, not_later_turned, later_turned, earlier_then_not_later, not_later_then_earlier, not_later_trans}
use Rattle.timestamp_order.proofs.OrderLaws.{order_laws, cut, cut_order, cut_not_later, cut_earlier_than, raise_later, raised_appended}
use Rattle.timestamp_order.proofs.Made.{without_last, without, made_split, made_below, made_appended, made_parts}

pub record Times (place : ℕ → ℕ) : Type 0 where
  pub upto_self : (s : Stamp) → NotLater place s s
  pub upto_before : (s t : Stamp) → IsEarlier place s t → NotLater place s t
  pub upto_trans : (s t u : Stamp) → NotLater place s t → NotLater place t u → NotLater place s u
  pub before_trans : (s t u : Stamp) → IsEarlier place s t → IsEarlier place t u → IsEarlier place s u
  pub before_upto : (s t u : Stamp) → IsEarlier place s t → NotLater place t u → IsEarlier place s u
  pub upto_then : (s t u : Stamp) → NotLater place s t → IsEarlier place t u → IsEarlier place s u
  pub never_before : (s : Stamp) → IsEarlier place s s → ⊥
  -- up to t, and not t: before it
  pub upto_other : (s t : Stamp) → NotLater place s t → (s ≡ t → ⊥) → IsEarlier place s t
  -- the tests
  pub later_fails : (s t : Stamp) → IsEarlier place t s → not_later (order_by place s t) ≡ false
  pub fails_later : (s t : Stamp) → not_later (order_by place s t) ≡ false → IsEarlier place t s
  pub before_test : (s t : Stamp) → IsEarlier place s t → is_earlier (order_by place s t) ≡ true
  pub test_fails : (s t : Stamp) → NotLater place t s → is_earlier (order_by place s t) ≡ false
  pub test_before : (s t : Stamp) → is_earlier (order_by place s t) ≡ true → IsEarlier place s t
  pub test_upto : (s t : Stamp) → is_earlier (order_by place s t) ≡ false → NotLater place t s
  pub upto_turned : (s t : Stamp) → not (is_earlier (order_by place t s)) ≡ not_later (order_by place s t)
  -- a timestamp that p made, below a site that comes after p
  pub made_under : (p j : ℕ) (u : Stamp) → made_by place p u ≡ true → place p < place j → Below place j u.tuples
  -- with the own count raised: the same without the own tuple, and later
  pub without_raised : (j : ℕ) (t : Stamp) → made_by place j t ≡ true → without (raised t) ≡ without t
  pub raised_before : (j : ℕ) (t : Stamp) → made_by place j t ≡ true → IsEarlier place t (raised t)
  -- the last sites of two timestamps tell them apart
  pub made_apart : (p q : ℕ) (s t : Stamp) → made_by place p s ≡ true → made_by place q t ≡ true → (p ≡ q → ⊥) → s ≡ t → ⊥
  -- the cut at j's own tuple
  pub cut_upto : (j : ℕ) (t u : Stamp) → made_by place j t ≡ true → Below place j u.tuples → not_later (order_by place u t) ≡ not_later (order_by place u (without t))
  pub cut_before : (j : ℕ) (t u : Stamp) → made_by place j t ≡ true → Below place j u.tuples → IsEarlier place (without t) u → IsEarlier place t u
  pub cut_test : (j : ℕ) (t u : Stamp) → made_by place j t ≡ true → Below place j u.tuples → is_earlier (order_by place u t) ≡ not_later (order_by place u (without t))

-- ---- what is left of a timestamp without its last tuple
without_last_lem : (ps : List Pair) (x : Pair) → without_last (ps ++ (x ∷ [])) ≡ ps
without_last_lem [] x = refl
without_last_lem (p ∷ []) x = refl
without_last_lem (p ∷ (q ∷ ps)) x = ap (λ (rs : List Pair). p ∷ rs) (without_last_lem (q ∷ ps) x)

pub without_appended : (s : Stamp) (j c : ℕ) → without (appended s j c) ≡ s
without_appended s j c = ap (λ (ps : List Pair). record { epoch = s.epoch; tuples = ps }) (without_last_lem s.tuples (record { site = j; count = c }))

module _ (place : ℕ → ℕ) where
  abbrev cmp : Stamp → Stamp → Order
  cmp = order_by place

  laws : Laws Stamp cmp
  laws = order_laws place

  -- ---- the tests
  not_both : (s t : Stamp) → NotLater place s t → IsEarlier place t s → ⊥
  not_both s t = not_later_not_turned cmp laws s t

  other : (s t : Stamp) → NotLater place s t → (s ≡ t → ⊥) → IsEarlier place s t
  other s t e f = go (not_later_cases cmp laws s t e)
    where
      go : (cmp s t ≡ Earlier) ⊎ (s ≡ t) → IsEarlier place s t
      go (inl b) = b
      go (inr same) = absurd (f same)

  later_is_not : (s t : Stamp) → IsEarlier place t s → not_later (cmp s t) ≡ false
  later_is_not s t e = go (not_later (cmp s t)) refl
    where
      go : (b : Bool) → not_later (cmp s t) ≡ b → not_later (cmp s t) ≡ false
      go true f = absurd (not_both s t f e)
      go false f = f

  upto_is_not : (s t : Stamp) → NotLater place t s → is_earlier (cmp s t) ≡ false
  upto_is_not s t e = go (cmp s t) refl
    where
      go : (r : Order) → cmp s t ≡ r → is_earlier (cmp s t) ≡ false
      go Earlier f = absurd (not_both t s e f)
      go Equal f = ap is_earlier f
      go Later f = ap is_earlier f

  not_turned : (s t : Stamp) → not (is_earlier (cmp t s)) ≡ not_later (cmp s t)
  not_turned s t = go (not_later (cmp s t)) refl
    where
      go : (b : Bool) → not_later (cmp s t) ≡ b → not (is_earlier (cmp t s)) ≡ b
      go true e = ap not (upto_is_not t s e)
      go false e = ap not (ap is_earlier (later_turned cmp laws s t e))

  tested : (s t : Stamp) → is_earlier (cmp s t) ≡ true → IsEarlier place s t
  tested s t e = go (cmp s t) refl
    where
      go : (r : Order) → cmp s t ≡ r → cmp s t ≡ Earlier
      go Earlier f = f
      go Equal f = absurd (false≢true (sym (ap is_earlier f) ∙ e))
      go Later f = absurd (false≢true (sym (ap is_earlier f) ∙ e))

  -- ---- a timestamp made by a site
  raised_without : (j : ℕ) (t : Stamp) → made_by place j t ≡ true → without (raised t) ≡ without t
  raised_without j t m =
      let c = (last_pair t.tuples).count in
      ap (λ (s : Stamp). without (raised s)) (made_split place j t m) ∙ ap without (raised_appended (without t) j c) ∙ without_appended (without t) j (c + 1)

  ends_apart : (p q : ℕ) (s t : Stamp) → made_by place p s ≡ true → made_by place q t ≡ true → (p ≡ q → ⊥) → s ≡ t → ⊥
  ends_apart p q s t m w f e =
      f (sym (made_parts place p s m).last ∙ ap (λ (u : Stamp). (last_pair u.tuples).site) e ∙ (made_parts place q t w).last)

  -- ---- the cut at j's own tuple
  module _ (j : ℕ) (t u : Stamp) (made : made_by place j t ≡ true) (below : Below place j u.tuples) where
    whole : t ≡ appended (without t) j (last_pair t.tuples).count
    whole = made_split place j t made

    upto_cut : not_later (cmp u t) ≡ not_later (cmp u (without t))
    upto_cut = ap (λ (s : Stamp). not_later (cmp u s)) whole ∙ cut_not_later place j (last_pair t.tuples).count u (without t) below

    before_cut : IsEarlier place (without t) u → IsEarlier place t u
    before_cut e = ap (λ (s : Stamp). cmp s u) whole ∙ cut_earlier_than place j (last_pair t.tuples).count u (without t) below e

    test_cut : is_earlier (cmp u t) ≡ not_later (cmp u (without t))
    test_cut =
        ap (λ (s : Stamp). is_earlier (cmp u s)) whole
        ∙ ap is_earlier (cut_order place j (last_pair t.tuples).count u (without t) below)
        ∙ cut_is (cmp u (without t))
      where
        cut_is : (r : Order) → is_earlier (cut r) ≡ not_later r
        cut_is Earlier = refl
        cut_is Equal = refl
        cut_is Later = refl

  pub times : Times place
  times =
      record {
        upto_self = λ s. same_not_later cmp laws s s refl;
        upto_before = earlier_not_later cmp laws;
        upto_trans = not_later_trans cmp laws;
        before_trans = laws.trans;
        before_upto = earlier_then_not_later cmp laws;
        upto_then = not_later_then_earlier cmp laws;
        never_before = irreflexive cmp laws;
        upto_other = other;
        later_fails = later_is_not;
        fails_later = later_turned cmp laws;
        before_test = λ s t e. ap is_earlier e;
        test_fails = upto_is_not;
        test_before = tested;
        test_upto = λ s t e. not_later_turned cmp laws t s (λ b. false≢true (sym e ∙ ap is_earlier b));
        upto_turned = not_turned;
        made_under = λ p j u m l. made_below place j 0 u (made_appended place p j 0 u m l);
        without_raised = raised_without;
        raised_before = λ j t m. raise_later place t (made_parts place j t m).some;
        made_apart = ends_apart;
        cut_upto = upto_cut;
        cut_before = before_cut;
        cut_test = test_cut;
      }
