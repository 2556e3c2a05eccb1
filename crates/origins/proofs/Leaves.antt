-- What commits worked on values in turn leave of one: the last write of the last that writes the item.
use mathlib.Core.Path.{◌≡◌, refl, ap, sym, ◌∙◌}
use mathlib.Core.Bool.{Bool, true, false, cond, ◌&&◌}
use mathlib.Core.List.{List, [], ◌∷◌}
use mathlib.Core.Option
use mathlib.Core.Option.{Option, none, some, map, some-injective}
use Prim.Native.Nat.{ℕ}
use lib.IntN.{ℤ, pos}
use lib.ListN.{length, get_or}
use Rattle.lists.specs.Lists.{keep, or_else, last_of}
use Rattle.lists.proofs.Every.{and_true}
use Rattle.lists.proofs.Chains.{each_all, chain_all}
use Rattle.lists.proofs.Last.{OfSome, last_each, Last, last_is}
use Rattle.site_operations.specs.Operations.{Op, touches}
use Rattle.site_operations.proofs.Works.{wrote, untouched, wrote_last}
use Rattle.records.specs.Records.{Record}
use Rattle.protocol.specs.Run.{Turn, in_turn}
use Rattle.protocol.proofs.Values.{last_from}
use Rattle.protocol.proofs.Turns.{has_turn}
use Rattle.protocol.proofs.Runs.{commits, after_value}
use Rattle.origins.specs.Statements.{turn_at, FoundBelow, left_by, LastLeaves}
use Rattle.origins.proofs.Found.{found_alone}
use Rattle.origins.proofs.Turns.{Of, turns_of, turns_chain}
use Rattle.origins.proofs.Last.{turn_found}

module _ (x : ℕ) (passes : Turn → Bool) where
  abbrev writes : Turn → Bool
  writes c = passes c && touches x c.commit.ops

  abbrev left_of : Option Turn → ℤ → ℤ
  left_of none v = v
  left_of (some c) v = wrote x v c.commit.ops

  -- what operations that write the item leave does not hang on what was there
  same_left : (u v : ℤ) (os : List Op) → touches x os ≡ true → wrote x u os ≡ wrote x v os
  same_left u v os t = some-injective (wrote x u os) (wrote x v os) (sym (wrote_last x u os t) ∙ wrote_last x v os t)

  last_left : (v : ℤ) (cs : List Turn) → last_from x v (commits (keep passes cs)) ≡ left_of (last_of writes cs) v
  last_left v [] = refl
  last_left v (c ∷ cs) =
      go (last_of writes cs) (last_is writes _ cs (chain_all (λ d e. Unit {0}) (λ d e. tt) cs)) (passes c) (touches x c.commit.ops) refl (λ u. last_left u cs)
    where
      go : (o : Option Turn) → Last writes (λ d e. Unit {0}) cs o → (b t : Bool) → touches x c.commit.ops ≡ t → ((u : ℤ) → last_from x u (commits (keep passes cs)) ≡ left_of o u)
          → last_from x v (commits (cond b (c ∷ keep passes cs) (keep passes cs))) ≡ left_of (or_else o (cond (b && t) (some c) none)) v
      go (some d) last true t e rest = rest (wrote x v c.commit.ops) ∙ same_left _ v d.commit.ops (and_true (passes d) (touches x d.commit.ops) last.0).1
      go (some d) last false t e rest = rest v
      go none last true true e rest = rest (wrote x v c.commit.ops)
      go none last true false e rest = rest (wrote x v c.commit.ops) ∙ untouched x v c.commit.ops e
      go none last false t e rest = rest v

  module _ (place : ℕ → ℕ) (h : List Record) where
    abbrev Found : Option ℕ → Type 0
    Found = FoundBelow place h (λ i. writes (turn_at h i)) (length h)

    abbrev last_number : Option ℕ
    last_number = map (λ (c : Turn). c.number) (last_of writes (in_turn place h))

    last_found : Found last_number
    last_found =
        turn_found place h writes writes (in_turn place h) (turns_of place h) (turns_chain place h) (each_all _ (λ c e. e) (in_turn place h)) (λ i low e. (has_turn place h i low, e))

    by_number_lem : (v : ℤ) (o : Option Turn) → OfSome (Of h) o → Found (map (λ (c : Turn). c.number) o) → left_of o v ≡ left_by h x (map (λ (c : Turn). c.number) o) v
    by_number_lem v none of f = refl
    by_number_lem v (some c) of f =
        let at = turn_at h c.number in
        ap (λ (d : Turn). wrote x v d.commit.ops) of.is
        ∙ sym (ap (λ (w : Option ℤ). Option.get_or w v) (wrote_last x v at.commit.ops (and_true (passes at) (touches x at.commit.ops) f.is_one).1))

pub last_leaves : LastLeaves
unfolding LastLeaves
last_leaves place h passes values x low o f =
    let v = get_or values x (pos 0) in
    let found = last_found x passes place h in
    after_value values (keep passes (in_turn place h)) x low
    ∙ last_left x passes v (in_turn place h)
    ∙ by_number_lem x passes place h v (last_of (writes x passes) (in_turn place h)) (last_each (writes x passes) (Of h) (in_turn place h) (turns_of place h)) found
    ∙ ap (λ (m : Option ℕ). left_by h x m v) (found_alone place h (λ i. writes x passes (turn_at h i)) (length h) (last_number x passes place h) o found f)
