-- What a set-up's items ask.
use Rattle.std.specs.Prelude.{◌≡◌, List, ℕ, ◌≤◌, length}
use Rattle.limits.specs.Limits.{items_most}

-- a mask for each of at most 64 primaries
pub record Paired (ps ms : List ℕ) : Type 0 where
  pub few : length ps ≤ items_most
  pub same : length ps ≡ length ms
