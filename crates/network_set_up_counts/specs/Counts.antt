-- The number that a set-up's counts give.
use Rattle.std.specs.Prelude.{[], ◌∷◌, ℕ}
use Rattle.lists.specs.Numbers.{number_if, first_number, outside}
use Rattle.limits.specs.Limits.{sites_most}
use Rattle.protocol.specs.Steps.{wrong_items}

-- the number of the first cause that the counts give
abbrev pub counts_number : ℕ → ℕ → ℕ → ℕ → ℕ
counts_number sites items primaries masks = first_number (number_if (outside 1 sites_most sites) 1 ∷ (number_if (wrong_items items primaries masks) 2 ∷ []))
