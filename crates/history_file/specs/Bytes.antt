-- Numbers and values in bytes, little-endian, and the eight bytes of which records are made: three fields of a byte each, 00, and a number in four bytes.
use Rattle.std.specs.Prelude.{Bool, true, false, ◌&&◌, List, [], ◌∷◌, ◌++◌, ℕ, ◌+◌, ◌*◌, ◌/◌, ◌%◌, ◌-◌, ℤ, get_or, eqb, ltb}
use Rattle.std.proofs.Common.{to_z, of_z}
use Rattle.std.specs.Int.{w32}
use Rattle.words.specs.Words.{part}
use Rattle.lists.specs.Lists.{every}

abbrev pub is_byte : ℕ → Bool
is_byte x = ltb x 256

-- two lists are the same
abbrev pub same : List ℕ → List ℕ → Bool
same [] [] = true
same [] (y ∷ ys) = false
same (x ∷ xs) [] = false
same (x ∷ xs) (y ∷ ys) = eqb x y && same xs ys

-- ---- written
-- a number in one byte
abbrev pub byte : ℕ → ℕ
byte n = n % 256

-- a number in four bytes
abbrev pub little : ℕ → List ℕ
little n = byte n ∷ (byte (n / 256) ∷ (byte (n / 256 / 256) ∷ (byte (n / 256 / 256 / 256) ∷ [])))

-- a value in four bytes, two's complement
abbrev pub value_size : ℕ
value_size = 4

unfoldable pub value_bytes : ℤ → List ℕ
value_bytes v = little (of_z w32 v)

abbrev pub unit_size : ℕ
unit_size = 8

unfoldable pub unit : ℕ → ℕ → ℕ → ℕ → List ℕ
unit a b c n = byte a ∷ (byte b ∷ (byte c ∷ (0 ∷ little n)))

-- the bytes of each, one after another
abbrev pub joined : {A : Type 0} → (A → List ℕ) → List A → List ℕ
joined f [] = []
joined f (x ∷ xs) = f x ++ joined f xs

-- ---- read
-- the number in the four bytes from a place on
unfoldable pub number_at : List ℕ → ℕ → ℕ
number_at b at = get_or b at 0 + 256 * (get_or b (at + 1) 0 + 256 * (get_or b (at + 2) 0 + 256 * get_or b (at + 3) 0))

-- the value in the first four bytes
abbrev pub value_read : List ℕ → ℤ
value_read u = to_z w32 (number_at u 0)

-- every byte is 00
abbrev pub all_zero : List ℕ → Bool
all_zero b = every (λ x. eqb x 0) b

-- of eight bytes, those from number k up to the number in four bytes are 00
abbrev pub padded : ℕ → List ℕ → Bool
padded k u = all_zero (part u k (4 - k))
