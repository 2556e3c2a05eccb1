-- The words of one site, line or record, lent as a part of the state.
use Rattle.std.specs.Prelude.{◌≡◌, List, ℕ, length}

-- words of a thing's size that mean what the network has there
pub record Lent {A : Type 0} (size : ℕ) (meaning : List ℕ → A) (x : A) (ys : List ℕ) : Type 0 where
  pub sized : length ys ≡ size
  pub meant : meaning ys ≡ x
