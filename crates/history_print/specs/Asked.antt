-- What the functions that collect lines ask of the lines and of how many of their bytes are filled.
use Rattle.std.specs.Prelude.{◌≡◌, List, ℕ, ◌+◌, ◌≤◌, ◌<◌, length}

-- as many bytes filled as there are, at most
pub record Filled (lines : List ℕ) (filled : ℕ) : Type 0 where
  pub within : filled ≤ 65536
  pub sized : length lines ≡ 65536

-- room for a text and a newline behind them
pub record Room (text lines : List ℕ) (filled : ℕ) : Type 0 where
  pub fits : filled + length text < 65536
  pub sized : length lines ≡ 65536
