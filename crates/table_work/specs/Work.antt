-- What working n operations leaves: the table in its words, and the operations as the history keeps them.
use Rattle.std.specs.Prelude.{◌≡◌, List, ℕ}
use Rattle.site_operations.specs.Operations.{Op, worked}
use Rattle.site_operations.specs.InWords.{table_in, OpsLaid}

pub record TableWorked (entry exit : List ℕ) (n : ℕ) (os : List Op) (answered : List ℕ) : Type 0 where
  pub table_is : table_in exit ≡ (worked (table_in entry) os).table
  pub kept : OpsLaid n (worked (table_in entry) os).ops answered
