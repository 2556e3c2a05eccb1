-- A table of names: entry k is the number that record k has among the records that stay, or one that no record has where it goes.
use Rattle.std.specs.Prelude.{◌≡◌, Bool, not, cond, List, ℕ, ◌≤◌, ◌<◌, get_or, ltb}
use Rattle.limits.specs.Limits.{records_most}
use Rattle.lists.specs.Lists.{count_below}

-- record k stays
abbrev pub stays : List ℕ → ℕ → Bool
stays names k = ltb (get_or names k 0) records_most

-- the table of so many records, of which some go
pub record Names (goes : ℕ → Bool) (made : ℕ) (names : List ℕ) : Type 0 where
  pub few : made ≤ records_most
  pub each : (k : ℕ) → k < made → get_or names k 0 ≡ cond (goes k) records_most (count_below (λ i. not (goes i)) k)
