-- The tests of an operation's bytes in the order in which the code makes them.
use mathlib.Core.Path.{◌≡◌, sym, ◌∙◌}
use mathlib.Core.Bool.{Bool, true, false}
use mathlib.Core.List.{List}
use Prim.Native.Nat.{ℕ, ◌≤◌, ◌<◌}
use lib.ListN.{get_or}
use lib.Dec.{ltb}
use borrow.Author.Tests.{le-leb, lt-leb}
use Rattle.history_file.specs.Bytes.{padded}
use Rattle.history_operation_validity.specs.Fits.{op_fit}

module _ (items : ℕ) (u : List ℕ) where
  module _ (r : Bool) (is : r ≡ padded 2 u) where
    pub op_unpadded : r ≡ false → false ≡ op_fit items u
    op_unpadded f = sym (rw (sym is ∙ f))

    module _ (t : r ≡ true) where
      pub kind_unknown : 1 < get_or u 0 0 → false ≡ op_fit items u
      kind_unknown h = sym (rw (sym is ∙ t, lt-leb (get_or u 0 0) 1 h))

      pub item_asked : get_or u 0 0 ≤ 1 → (item : ℕ) → item ≡ get_or u 1 0 → ltb item items ≡ op_fit items u
      item_asked h item e = sym (rw (sym is ∙ t, le-leb (get_or u 0 0) 1 h, ← e))
