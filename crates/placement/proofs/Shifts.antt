-- Masks of 32 bits by shifts.
use mathlib.Core.Path.{◌≡◌, sym, ◌∙◌}
use Prim.Native.Nat.{ℕ, ◌*◌, ◌/◌, ◌%◌, ◌^◌, ◌≤◌, ◌<◌}
use native.Mathlib.Omega.{arith}
use native.Mathlib.Nat.{div-eq_of_lt, mod-eq_of_lt, one-mul}
use lib.Pow.{pow_mono, shl_exact}

-- no bit of a word has weight 2 to the power 32 or more
module _ (m k : ℕ) (word : m < 2 ^ 32) (far : 31 < k) where
  low : m < 2 ^ k
  low = let h : 2 ^ 32 ≤ 2 ^ k = pow_mono {i = 32} {j = k} far in omega arith

  pub none_above : 0 ≡ m / 2 ^ k
  none_above = sym (div-eq_of_lt low)

  pub all_below : m ≡ m % 2 ^ k
  all_below = sym (mod-eq_of_lt low)

-- one bit, shifted to its place
pub one_bit : (k : ℕ) → k ≤ 31 → 1 * 2 ^ k % 2 ^ 32 ≡ 2 ^ k
one_bit k h = shl_exact {a = 1} 1 k 32 (omega arith) (omega arith) ∙ one-mul (2 ^ k)
