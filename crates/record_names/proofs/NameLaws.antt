-- What a table of names says of a record: whether it stays, and then its new number.
use mathlib.Core.Path.{◌≡◌, refl, ap, ◌∙◌}
use mathlib.Core.Bool.{Bool, true, false, not, cond}
use mathlib.Core.List.{List}
use Prim.Native.Nat.{ℕ, ◌<◌}
use native.Mathlib.Omega.{arith}
use lib.ListN.{get_or}
use lib.Dec.{ltb}
use borrow.Author.Tests.{lt-ltb}
use Rattle.limits.specs.Limits.{records_most}
use Rattle.lists.specs.Lists.{count_below}
use Rattle.lists.proofs.Renumber.{count_most}
use Rattle.record_names.specs.Names.{stays, Names}

module _ (goes : ℕ → Bool) (made : ℕ) (names : List ℕ) (n : Names goes made names) (k : ℕ) (there : k < made) where
  pub name_stays : stays names k ≡ not (goes k)
  name_stays = ap (λ (x : ℕ). ltb x records_most) (n.each k there) ∙ go (goes k)
    where
      go : (b : Bool) → ltb (cond b records_most (count_below (λ i. not (goes i)) k)) records_most ≡ not b
      go true = refl
      go false = lt-ltb (count_below (λ i. not (goes i)) k) records_most (omega (arith, count_most (λ i. not (goes i)) k, n.few))

  pub new_name : goes k ≡ false → get_or names k 0 ≡ count_below (λ i. not (goes i)) k
  new_name e = n.each k there ∙ ap (λ (b : Bool). cond b records_most (count_below (λ i. not (goes i)) k)) e
