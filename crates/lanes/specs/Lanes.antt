-- The bytes of a number, the lowest first, and numbers all of whose bytes are one.
use Rattle.std.specs.Prelude.{List, [], ◌∷◌, ℕ, zero, suc, ◌+◌, ◌*◌, ◌/◌, ◌%◌}

-- the n lowest bytes of a number
unfoldable pub bytes : ℕ → ℕ → List ℕ
bytes zero x = []
bytes (suc n) x = x % 256 ∷ bytes n (x / 256)

-- the number of n bytes that are each b
abbrev pub each : ℕ → ℕ → ℕ
each b zero = 0
each b (suc n) = b + 256 * each b n
