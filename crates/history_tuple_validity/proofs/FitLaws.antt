-- The tests of tuples in the order in which the code makes them.
use mathlib.Core.Path.{◌≡◌, sym, ◌∙◌}
use mathlib.Core.Bool.{Bool, true, false}
use mathlib.Core.List.{List}
use Prim.Native.Nat.{ℕ}
use Rattle.words.specs.Words.{chunks}
use Rattle.lists.specs.Lists.{every}
use Rattle.timestamp_order.specs.Made.{made_by}
use Rattle.history_file.specs.Bytes.{unit_size, padded}
use Rattle.history_file.proofs.Units.{pairs_of}
use Rattle.history_tuple_validity.specs.Fits.{tuples_fit}

module _ (place : ℕ → ℕ) (site n : ℕ) (b : List ℕ) (r : Bool) (is : r ≡ every (padded 1) (chunks unit_size n b)) where
  pub tuples_unpadded : r ≡ false → false ≡ tuples_fit place site n b
  tuples_unpadded f = sym (rw (sym is ∙ f))

  pub tuples_made : r ≡ true → (m : Bool) → m ≡ made_by place site (record { epoch = 0; tuples = pairs_of b n }) → m ≡ tuples_fit place site n b
  tuples_made t m e = e ∙ sym (rw (sym is ∙ t))
