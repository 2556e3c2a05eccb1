-- Numbers in decimal: the bytes that a number is printed as, and the number that bytes stand for, if they do.
use Rattle.std.specs.Prelude.{◌≡◌, Bool, cond, not, ◌&&◌, List, [], ◌∷◌, ◌++◌, ℕ, zero, suc, ◌+◌, ◌-◌, ◌*◌, ◌/◌, ◌%◌, ◌≤◌, ℤ, pos, negsuc, length, get_or, eqb, ltb, leb}
use Rattle.std.proofs.Math.Option.{Option, none, some}
use Rattle.words.specs.Words.{put}
use Rattle.lists.specs.Lists.{every}

-- ---- printed
-- the digits of n, the highest first, of which only the last k where there are more
unfoldable pub last_digits : ℕ → ℕ → List ℕ
last_digits zero n = []
last_digits (suc k) n = cond (ltb n 10) ((48 + n) ∷ []) (last_digits k (n / 10) ++ ((48 + n % 10) ∷ []))

-- a number has fewer digits than it counts, or one
unfoldable pub digits : ℕ → List ℕ
digits n = last_digits (suc n) n

-- a minus sign, 45, before the digits of what is below zero
abbrev pub signed_digits : ℤ → List ℕ
signed_digits (pos n) = digits n
signed_digits (negsuc n) = 45 ∷ digits (suc n)

-- what printing leaves: the bytes from a place on, all else as it was, and the place behind them
pub record Printed (entry exit : List ℕ) (at end : ℕ) (bytes : List ℕ) : Type 0 where
  pub end_is : end ≡ at + length bytes
  pub exit_is : exit ≡ put entry at (length bytes) bytes

-- the same where there is room for the longest; else nothing is printed
pub record PrintedIn (room : ℕ) (entry exit : List ℕ) (at end : ℕ) (bytes : List ℕ) : Type 0 where
  pub printed : at + room ≤ length entry → Printed entry exit at end bytes
  pub kept : (at + room ≤ length entry → ⊥) → (exit ≡ entry) × (end ≡ at)

-- ---- parsed
abbrev pub is_digit : ℕ → Bool
is_digit d = leb 48 d && leb d 57

-- a zero in front of other bytes
abbrev pub extra_zero : List ℕ → Bool
extra_zero l = ltb 1 (length l) && eqb (get_or l 0 0) 48

-- digits, one at least, and no extra zero in front
abbrev pub is_decimal : List ℕ → Bool
is_decimal l = ltb 0 (length l) && (not (extra_zero l) && every is_digit l)

-- the value of some digits behind those of v
unfoldable pub value_from : ℕ → List ℕ → ℕ
value_from v [] = v
value_from v (d ∷ ds) = value_from (v * 10 + (d - 48)) ds

abbrev pub greatest : ℕ
greatest = 4294967295

-- a number of 32 bits
unfoldable pub natural : List ℕ → Option ℕ
natural l = cond (is_decimal l && leb (value_from 0 l) greatest) (some (value_from 0 l)) none

abbrev pub not_negative : Option ℕ → Option ℤ
not_negative none = none
not_negative (some n) = cond (leb n 2147483647) (some (pos n)) none

abbrev pub negative : Option ℕ → Option ℤ
negative none = none
negative (some zero) = none
negative (some (suc n)) = cond (leb n 2147483647) (some (negsuc n)) none

-- a signed number of 32 bits; a minus sign stands before no zero
unfoldable pub signed : List ℕ → Option ℤ
signed [] = none
signed (d ∷ ds) = cond (eqb d 45) (negative (natural ds)) (not_negative (natural (d ∷ ds)))
