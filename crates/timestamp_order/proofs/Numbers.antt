-- The order of two numbers, by what is known of them.
use mathlib.Core.Path.{◌≡◌}
use Prim.Native.Nat.{ℕ, ◌≤◌, ◌<◌}
use native.Mathlib.Omega.{arith}
use borrow.Author.Tests.{lt-ltb, le-ltb}
use Rattle.timestamp_order.specs.declared.Order.TheVariants.{Earlier, Equal, Later}
use Rattle.timestamp_order.specs.Order.{number_order}

module _ (a b : ℕ) where
  pub number_earlier : a < b → number_order a b ≡ Earlier
  unfolding number_order
  number_earlier h = simp (lt-ltb a b h)

  pub number_later : b < a → number_order a b ≡ Later
  unfolding number_order
  number_later h = let g : b ≤ a = omega arith in simp (le-ltb a b g, lt-ltb b a h)

  pub number_equal : b ≤ a → a ≤ b → number_order a b ≡ Equal
  unfolding number_order
  number_equal h g = simp (le-ltb a b h, le-ltb b a g)
