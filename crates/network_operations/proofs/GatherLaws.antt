-- Gathered operations: one more of them, and a commit of nine for one of more.
use mathlib.Core.Path.{◌≡◌, refl, sym, ap, subst, subst₂, ◌∙◌}
use mathlib.Core.Bool.{Bool, true, false, cond}
use mathlib.Core.List.{List, [], ◌∷◌, ◌++◌, map, map-append}
use mathlib.Core.Option.{Option, none, some}
use Prim.Native.Nat.{ℕ, ◌+◌, ◌≤◌, ◌<◌, min}
use native.Mathlib.Numerals.{add-one}
use native.Mathlib.Omega.{arith}
use lib.IntN.{ℤ}
use lib.Dec.{ltb}
use lib.ListN.{length, take, set, length-append, length-map, length-take}
use lib.Seq.{take_all, take-suc-set, take-append-le}
use borrow.Author.Tests.{ltb-true, ltb-false, ne_eqb}
use Rattle.std.specs.declared.result.Result.{Result}
use Rattle.causes.specs.declared.Refusal.{Refusal}
use Rattle.causes.specs.Refusals.{number_of}
use Rattle.network_layout.specs.declared.Committed.{Committed}
use Rattle.network_layout.specs.declared.Operation.{Operation}
use Rattle.network_operations.specs.declared.Gathered.{Gathered}
use Rattle.protocol.specs.Network.{Network}
use Rattle.lists.specs.Numbers.{number_if}
use Rattle.protocol.specs.Steps.{no_such_site, wrong_lists, commit_causes, commit_number, ops_of}
use Rattle.protocol.specs.Calls.{Call, Outcome, commit, refused, perform}
use Rattle.network_layout.specs.InWords.{meaning}
use Rattle.network_operations.specs.Gathered.{operations_call, gathered_most, Gathers}
use Rattle.network_layout.specs.Promises.{Performed, CommitAnswered, committed_stamp, committed_values}
use Rattle.lists.proofs.Numbers.{first_holds}
use Rattle.network_commit.proofs.CommitLaws.{lists_many, commit_lists}

-- ---- one more operation
-- a field's list grows by that field of one operation more
field_more : {A : Type 0} (field : Operation → A) (l : List A) (os : List Operation) (o : Operation) (n : ℕ) → n < length l → take n l ≡ map field os → take (n + 1) (set l n (field o)) ≡ map field (os ++ (o ∷ []))
field_more field l os o n h e = ap (λ (k : ℕ). take k (set l n (field o))) (add-one n) ∙ take-suc-set l n (field o) h ∙ ap (λ (r : List _). r ++ (field o ∷ [])) e ∙ sym (map-append field os (o ∷ []))

module _ (os : List Operation) (g : Gathered) (e : Gathers (take gathered_most os) g) where
  counted : g.count ≡ min gathered_most (length os)
  counted = e.count_is ∙ length-take gathered_most os

  pub gathered_few : g.count ≤ gathered_most
  gathered_few = omega (arith, counted)

  -- there is no room for it
  pub gathers_full : (o : Operation) → gathered_most ≤ g.count → Gathers (take gathered_most (os ++ (o ∷ []))) g
  gathers_full o h = subst (λ (xs : List Operation). Gathers xs g) (sym (take-append-le gathered_most os (o ∷ []) (omega (arith, counted, h)))) e

  -- there is
  abbrev after : Operation → ℤ → Gathered
  after o v = record { count = g.count + 1; kinds = set g.kinds g.count o.kind; items = set g.items g.count o.item; values = set g.values g.count v }

  pub gathers_more : (o : Operation) → g.count < gathered_most → length g.kinds ≡ gathered_most → length g.items ≡ gathered_most → length g.values ≡ gathered_most → (v : ℤ) → v ≡ o.value → Gathers (take gathered_most (os ++ (o ∷ []))) (after o v)
  gathers_more o h hk hi hv v is =
      let few : length os < gathered_most = omega (arith, counted, h) in
      let all : take gathered_most os ≡ os = take_all gathered_most os (omega (arith, few)) in
      let more : take gathered_most (os ++ (o ∷ [])) ≡ os ++ (o ∷ []) = take_all gathered_most (os ++ (o ∷ [])) (omega (arith, few, length-append os (o ∷ []))) in
      let f : Gathers os g = subst (λ (xs : List Operation). Gathers xs g) all e in
      subst₂ (λ (xs : List Operation) (z : ℤ). Gathers xs (after o z)) (sym more) (sym is) (record {
        count_is = ap (λ (k : ℕ). k + 1) f.count_is ∙ sym (length-append os (o ∷ []));
        kinds_are = field_more (λ (p : Operation). p.kind) g.kinds os o g.count (omega (arith, h, hk)) f.kinds_are;
        items_are = field_more (λ (p : Operation). p.item) g.items os o g.count (omega (arith, h, hi)) f.items_are;
        values_are = field_more (λ (p : Operation). p.value) g.values os o g.count (omega (arith, h, hv)) f.values_are;
      })

-- ---- nine operations for more
-- with more than eight a commit is refused by its site or its lists
abbrev long_number : Network → ℕ → ℕ
long_number n i = cond (no_such_site n i) 7 8

long_refused : (n : Network) (i : ℕ) (ks is : List ℕ) (vs : List ℤ) → 8 < length ks → commit_number n i ks is vs ≡ long_number n i
unfolding commit_number
long_refused n i ks is vs h = go (no_such_site n i) refl
  where
    go : (b : Bool) → no_such_site n i ≡ b → commit_number n i ks is vs ≡ long_number n i
    go true e = first_holds (no_such_site n i) 6 (number_if (wrong_lists (length ks) (length is) (length vs)) 8 ∷ commit_causes n i (ops_of ks is vs)) e ∙ sym (ap (λ (b : Bool). cond b 7 8) e)
    go false e = commit_lists n i ks is vs e (sym (lists_many (length ks) (length is) (length vs) (omega (arith, h)) h)) ∙ sym (ap (λ (b : Bool). cond b 7 8) e)

long_outcome : (s : Option Network) → ℕ → Outcome
long_outcome none i = refused 6 none
long_outcome (some n) i = refused (long_number n i) (some n)

-- of elements of any type, by their three fields
module _ {A : Type 0} (kind item : A → ℕ) (value : A → ℤ) where
  abbrev call_of : ℕ → List A → Call
  call_of i os = commit i (map kind os) (map item os) (map value os)

  performs_long : (s : Option Network) (i : ℕ) (os : List A) → 8 < length os → perform s (call_of i os) ≡ long_outcome s i
  unfolding perform long_outcome
  performs_long none i os h = refl
  performs_long (some n) i os h =
      let e = long_refused n i (map kind os) (map item os) (map value os) (omega (arith, h, length-map os kind)) in
      rw (e, ne_eqb (long_number n i) 0 (not_none (no_such_site n i)))
    where
      not_none : (b : Bool) → ◌≡◌ {A = ℕ} (cond b 7 8) 0 → ⊥
      not_none true z = omega (arith, z)
      not_none false z = omega (arith, z)

  pub nine_for_all : (s : Option Network) (i : ℕ) (os : List A) → perform s (call_of i (take gathered_most os)) ≡ perform s (call_of i os)
  nine_for_all s i os = go (ltb 8 (length os)) refl
    where
      go : (b : Bool) → ltb 8 (length os) ≡ b → perform s (call_of i (take gathered_most os)) ≡ perform s (call_of i os)
      go true e =
          let h : 8 < length os = ltb-true 8 (length os) e in
          performs_long s i (take gathered_most os) (omega (arith, h, length-take gathered_most os)) ∙ sym (performs_long s i os h)
      go false e = let h : length os ≤ 8 = ltb-false 8 (length os) e in ap (λ (xs : List A). perform s (call_of i xs)) (take_all gathered_most os (omega (arith, h)))

module _ (site : ℕ) (os : List Operation) (g : Gathered) (e : Gathers (take gathered_most os) g) where
  -- the commit of what is gathered is that of all operations
  pub performs_all : (w v : List ℕ) (r : Result Committed Refusal) → CommitAnswered (commit site (take g.count g.kinds) (take g.count g.items) (take g.count g.values)) w v r → CommitAnswered (operations_call site os) w v r
  performs_all w v r a = record { performed = performed; plain = a.plain; filled = a.filled }
    where
      same : perform (meaning w) (commit site (take g.count g.kinds) (take g.count g.items) (take g.count g.values)) ≡ perform (meaning w) (operations_call site os)
      same = (λ i. perform (meaning w) (commit site (e.kinds_are i) (e.items_are i) (e.values_are i))) ∙ nine_for_all (λ (o : Operation). o.kind) (λ (o : Operation). o.item) (λ (o : Operation). o.value) (meaning w) site os

      performed : Performed (operations_call site os) w v (number_of r) 0 (committed_stamp r) (committed_values r)
      performed =
          let p = a.performed in
          record {
            number_is = p.number_is ∙ ap (λ (o : Outcome). o.number) same;
            parent_is = p.parent_is ∙ ap (λ (o : Outcome). o.parent) same;
            stamp_is = p.stamp_is ∙ ap (λ (o : Outcome). o.stamp) same;
            values_are = p.values_are ∙ ap (λ (o : Outcome). o.values) same;
            after_is = p.after_is ∙ ap (λ (o : Outcome). o.after) same;
            kept = p.kept;
          }
