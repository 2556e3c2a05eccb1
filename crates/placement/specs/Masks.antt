-- Masks of sites: bit k, of weight 2 to the power k, names site k.
use Rattle.std.specs.Prelude.{◌≡◌, Bool, cond, ℕ, zero, suc, ◌+◌, ◌/◌, ◌%◌, ◌^◌, ◌<◌, eqb}

abbrev pub bit : ℕ → ℕ → Bool
bit m k = eqb (m / 2 ^ k % 2) 1

-- the mask of those of the sites below n that the test names
unfoldable pub mask_of : (ℕ → Bool) → ℕ → ℕ
mask_of f zero = 0
mask_of f (suc k) = mask_of f k + cond (f k) (2 ^ k) 0

-- of the numbers below n, the mask names those that the test does
abbrev pub Names : ℕ → ℕ → (ℕ → Bool) → Type 0
Names n m f = (k : ℕ) → k < n → bit m k ≡ f k
