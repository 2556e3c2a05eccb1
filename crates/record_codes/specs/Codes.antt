-- The operations of a record in words: eight codes as the bytes of two words, and eight values.
use Rattle.std.specs.Prelude.{◌≡◌, List, [], ◌∷◌, ℕ, ◌+◌, ◌*◌, ◌/◌, ◌%◌, ◌≤◌, ◌<◌, length, get_or, drop}
use Rattle.std.proofs.Common.{to_z}
use Rattle.std.specs.Int.{w32}
use Rattle.lanes.specs.Lanes.{bytes}
use Rattle.words.specs.Words.{part}
use Rattle.timestamp_words.specs.InWords.{stamp_size}
use Rattle.site_operations.specs.Operations.{Op}
use Rattle.site_operations.specs.InWords.{op_of, op_at}
use Rattle.limits.specs.Limits.{items_most, ops_most}

-- where a record's timestamp starts, where the codes of its operations do, and where their values
abbrev pub stamp_at : ℕ
stamp_at = 2

abbrev pub codes_at : ℕ
codes_at = stamp_at + stamp_size

abbrev pub values_at : ℕ
values_at = codes_at + 2

-- the words of codes and values
abbrev pub packed_size : ℕ
packed_size = 2 + ops_most

-- a code is twice an item and a kind, so those of 64 items are below 128
abbrev pub codes_most : ℕ
codes_most = 2 * items_most

abbrev pub op_of_code : ℕ → ℕ → Op
op_of_code c v = op_of (c % 2) (c / 2) v

-- the operations of codes and the words of their values
abbrev pub ops_of : List ℕ → List ℕ → List Op
ops_of [] vs = []
ops_of (c ∷ cs) vs = op_of_code c (get_or vs 0 0) ∷ ops_of cs (drop 1 vs)

-- the two words of codes as one number, the eight codes, and the eight operations
abbrev pub joined : ℕ → ℕ → ℕ
joined low high = low + high * 4294967296

abbrev pub code_number : List ℕ → ℕ
code_number w = joined (get_or w codes_at 0) (get_or w (codes_at + 1) 0)

abbrev pub codes_in : List ℕ → List ℕ
codes_in w = bytes ops_most (code_number w)

abbrev pub places_in : List ℕ → List Op
places_in w = ops_of (codes_in w) (part w values_at ops_most)

-- an operation as a code holds it, which has room for two kinds and 64 items; and that code
abbrev pub coded : Op → Op
coded o = record { kind = o.kind % 2; item = o.item % items_most; value = o.value }

abbrev pub code_of : Op → ℕ
code_of o = 2 * (coded o).item + (coded o).kind

-- ---- what the functions ask
-- one of the eight operations
pub record AtPlace (i : ℕ) : Type 0 where
  pub there : i < ops_most

-- as many operations as a record can have
pub record SomeOps (n : ℕ) : Type 0 where
  pub some : 1 ≤ n
  pub few : n ≤ ops_most

-- the words that codes and values take
pub record PackedWords (w : List ℕ) : Type 0 where
  pub sized : length w ≡ packed_size

-- ---- what packing operations leaves in the words of codes and values
pub record Packed (ops exit : List ℕ) : Type 0 where
  pub codes_are : (i : ℕ) → i < ops_most → get_or (bytes ops_most (joined (get_or exit 0 0) (get_or exit 1 0))) i 0 ≡ code_of (op_at ops i)
  pub values_are : (i : ℕ) → i < ops_most → to_z w32 (get_or exit (2 + i) 0) ≡ (op_at ops i).value
