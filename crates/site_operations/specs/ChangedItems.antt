-- A table with a number for each item, changed at the items that operations write.
use Rattle.std.specs.Prelude.{List, ℕ, set, get_or}
use Rattle.lists.specs.Lists.{fold}
use Rattle.site_operations.specs.Operations.{Op, written_item}

-- the number of item x
abbrev pub change_item : (ℕ → ℕ) → List ℕ → ℕ → List ℕ
change_item f table x = set table x (f (get_or table x 0))

-- of each item that operations write: of a read, `written_item` is no item's place
abbrev pub change_written : (ℕ → ℕ) → List ℕ → List Op → List ℕ
change_written f table os = fold (λ t o. change_item f t (written_item o)) table os
