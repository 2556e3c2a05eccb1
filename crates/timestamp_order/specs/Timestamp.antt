-- What a timestamp is, an epoch and a list of tuples of site and count, and the three ways to make a new one of it.
use Rattle.std.specs.Prelude.{cond, List, [], ◌∷◌, ◌++◌, ℕ, ◌+◌, length, ltb}
use Rattle.limits.specs.Limits.{sites_most}

-- a tuple of a timestamp
pub record Pair : Type 0 where
  pub site : ℕ
  pub count : ℕ

-- a timestamp
pub record Stamp : Type 0 where
  pub epoch : ℕ
  pub tuples : List Pair

-- ---- the most tuples that a value holds, one for each site that there can be; and the largest count
abbrev pub room : ℕ
room = sites_most

abbrev pub greatest : ℕ
greatest = 4294967295

-- what stands where there is no tuple, and where there is no timestamp
abbrev pub no_pair : Pair
no_pair = record { site = 0; count = 0 }

abbrev pub no_stamp : Stamp
no_stamp = record { epoch = 0; tuples = [] }

-- ---- another epoch
abbrev pub with_epoch : Stamp → ℕ → Stamp
with_epoch s e = record { epoch = e; tuples = s.tuples }

-- ---- a tuple added at the end
abbrev pub appended : Stamp → ℕ → ℕ → Stamp
appended s j c = record { epoch = s.epoch; tuples = s.tuples ++ (record { site = j; count = c } ∷ []) }

-- at the edge: a value that has eight tuples stays as it is
unfoldable pub appended_or_same : Stamp → ℕ → ℕ → Stamp
appended_or_same s j c = cond (ltb (length s.tuples) room) (appended s j c) s

-- ---- the own tuple, which is the last one, and its count one higher
abbrev pub last_pair : List Pair → Pair
last_pair [] = no_pair
last_pair (x ∷ []) = x
last_pair (x ∷ (y ∷ ys)) = last_pair (y ∷ ys)

-- the site whose timestamp it is, and its count
abbrev pub own_site : Stamp → ℕ
own_site s = (last_pair s.tuples).site

abbrev pub own_count : Stamp → ℕ
own_count s = (last_pair s.tuples).count

abbrev pub raised_last : List Pair → List Pair
raised_last [] = []
raised_last (x ∷ []) = record { site = x.site; count = x.count + 1 } ∷ []
raised_last (x ∷ (y ∷ ys)) = x ∷ raised_last (y ∷ ys)

abbrev pub raised : Stamp → Stamp
raised s = record { epoch = s.epoch; tuples = raised_last s.tuples }

-- at the edge: the largest count stays as it is (and a timestamp without tuples has none to raise)
unfoldable pub raised_or_same : Stamp → Stamp
raised_or_same s = cond (ltb (own_count s) greatest) (raised s) s
