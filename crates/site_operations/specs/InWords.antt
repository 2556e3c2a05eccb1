-- Operations in words, three each: kind, item, value; and a table in words, a signed value each.
use Rattle.std.specs.Prelude.{◌≡◌, List, [], ◌∷◌, ◌++◌, map, ℕ, ◌+◌, ◌*◌, ◌≤◌, ◌<◌, ℤ, get_or, length, drop}
use Rattle.std.proofs.Common.{to_z}
use Rattle.std.specs.Int.{w32}
use Rattle.limits.specs.Limits.{ops_most}
use Rattle.lists.specs.Lists.{Filled}
use Rattle.words.specs.Words.{part, chunks}
use Rattle.site_operations.specs.Operations.{Op}

abbrev pub op_size : ℕ
op_size = 3

abbrev pub ops_size : ℕ
ops_size = ops_most * op_size

-- the operation of a kind, an item and the word of a value
abbrev pub op_of : ℕ → ℕ → ℕ → Op
op_of kind item v = record { kind = kind; item = item; value = to_z w32 v }

abbrev pub op_in : List ℕ → Op
op_in w = op_of (get_or w 0 0) (get_or w 1 0) (get_or w 2 0)

-- operation i of the words
abbrev pub op_words : List ℕ → ℕ → List ℕ
op_words w i = part w (i * op_size) op_size

abbrev pub op_at : List ℕ → ℕ → Op
op_at w i = op_in (op_words w i)

-- the first n operations of the words
abbrev pub ops_in : ℕ → List ℕ → List Op
ops_in n w = map op_in (chunks op_size n w)

-- of eight places the first n hold the operations `os`, and the words past them are 0
pub record OpsLaid (n : ℕ) (os : List Op) (w : List ℕ) : Type 0 where
  pub ops_are : ops_in n w ≡ os
  pub filled : Filled 0 ops_size (n * op_size) w

-- what laying operation i leaves: the i before it, then it, and the words behind it as they were; past the last place all words as they were
pub record Put (entry exit : List ℕ) (i : ℕ) (o : Op) : Type 0 where
  pub laid : i < ops_most → ops_in (i + 1) exit ≡ ops_in i entry ++ (o ∷ [])
  pub behind : i < ops_most → drop ((i + 1) * op_size) exit ≡ drop ((i + 1) * op_size) entry
  pub kept : ops_most ≤ i → exit ≡ entry
  pub size : length exit ≡ length entry

-- ---- the table
abbrev pub table_in : List ℕ → List ℤ
table_in w = map (to_z w32) w
