-- What is asked of a state's words where two of its records are compared.
use Rattle.std.specs.Prelude.{List, ℕ}
use Rattle.network_layout.specs.At.{HasRecord}

pub record HasRecords (w : List ℕ) (j k : ℕ) : Type 0 where
  pub first : HasRecord w j
  pub second : HasRecord w k
