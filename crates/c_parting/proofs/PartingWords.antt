-- The two words of a parting tell it apart.
use mathlib.Core.Path.{◌≡◌, refl, ap}
use mathlib.Core.List.{List}
use mathlib.Core.Option.{none, some}
use Prim.Native.Nat.{ℕ}
use native.Mathlib.Omega.{arith}
use lib.ListN.{get_or}
use Rattle.c_parting.specs.Fields.{WordsTell}

pub words_tell : WordsTell
words_tell none none e = refl
words_tell none (some n) e = absurd (let z : 1 ≡ 0 = ap (λ (l : List ℕ). get_or l 0 0) e in omega arith)
words_tell (some n) none e = absurd (let z : 0 ≡ 1 = ap (λ (l : List ℕ). get_or l 0 0) e in omega arith)
words_tell (some n) (some k) e = ap some (ap (λ (l : List ℕ). get_or l 1 0) e)
