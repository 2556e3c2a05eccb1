-- The bytes that are held, and what is asked of more.
use Rattle.std.specs.Prelude.{◌≡◌, List, ℕ, ◌≤◌, length, take}
use Rattle.console_notation.specs.declared.Held.{Held}

-- the bytes that are held: the first `count` of 513, all of them where `count` is more
abbrev pub held_of : Held → List ℕ
held_of h = take h.count h.bytes

-- what is held is held whole
pub record Holding (line : List ℕ) (h : Held) : Type 0 where
  pub held_is : held_of h ≡ line
  pub count_is : h.count ≡ length line

-- a part of a block
pub record Within (block : List ℕ) (from end : ℕ) : Type 0 where
  pub ordered : from ≤ end
  pub there : end ≤ length block
