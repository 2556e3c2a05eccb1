-- The three comparisons printed under Definition 3.3, in each of which the first timestamp is the earlier one and the two share a tuple; and where other timestamps part.
use Rattle.std.specs.Prelude.{List, [], ◌∷◌, ℕ}
use Rattle.std.proofs.Math.Option.{Option, none, some}
use Rattle.timestamp_order.specs.Timestamp.{Pair, Stamp}

pub record Comparison : Type 0 where
  pub first : Stamp
  pub second : Stamp

-- the paper's (s_j, c)
abbrev pub tuple : ℕ → ℕ → Pair
tuple j c = record { site = j; count = c }

-- tuples without an epoch, as the definition has them: all of one epoch
abbrev pub of : List Pair → Stamp
of ps = record { epoch = 0; tuples = ps }

abbrev pub comparisons : List Comparison
comparisons =
    record { first = of (tuple 1 1 ∷ []); second = of (tuple 1 1 ∷ tuple 2 1 ∷ []) }
    ∷ record { first = of (tuple 1 1 ∷ tuple 3 1 ∷ []); second = of (tuple 1 1 ∷ tuple 2 1 ∷ []) }
    ∷ record { first = of (tuple 1 1 ∷ tuple 2 1 ∷ []); second = of (tuple 1 1 ∷ tuple 2 2 ∷ []) }
    ∷ []

-- ---- two timestamps and where they part
pub record Parted : Type 0 where
  pub sides : Comparison
  pub spot : Option ℕ

-- all tuples shared; none; the same ones behind the first that differ; the same ones in another epoch
abbrev pub parted : List Parted
parted =
    record { sides = record { first = of (tuple 1 1 ∷ tuple 2 1 ∷ []); second = of (tuple 1 1 ∷ tuple 2 1 ∷ []) }; spot = some 2 }
    ∷ record { sides = record { first = of (tuple 1 1 ∷ []); second = of (tuple 1 2 ∷ []) }; spot = some 0 }
    ∷ record { sides = record { first = of (tuple 1 1 ∷ tuple 2 1 ∷ tuple 3 1 ∷ []); second = of (tuple 1 1 ∷ tuple 2 2 ∷ tuple 3 1 ∷ []) }; spot = some 1 }
    ∷ record { sides = record { first = of (tuple 1 1 ∷ []); second = record { epoch = 1; tuples = tuple 1 1 ∷ [] } }; spot = none }
    ∷ []
