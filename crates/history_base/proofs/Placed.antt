-- The values of some bytes, four each, placed one after another.
use mathlib.Core.Path.{◌≡◌, refl, sym, ap, ap₂, ◌∙◌}
use mathlib.Core.List.{List, [], ◌∷◌, ◌++◌, map}
use Prim.Native.Nat.{ℕ, ◌+◌, ◌*◌, ◌<◌}
use native.Mathlib.Omega.{arith}
use native.Mathlib.Numerals.{add-one}
use lib.IntN.{ℤ, pos}
use lib.ListN.{length, get_or, set, take}
use lib.Seq.{take-suc, take-suc-set}
use Rattle.words.specs.Words.{part, chunks}
use Rattle.history_file.specs.Bytes.{number_at, value_size, value_read}
use Rattle.history_file.proofs.Units.{read_length, read_at}

no_value : pos 0 ≡ value_read []
unfolding number_at
no_value = refl

module _ (b : List ℕ) (n : ℕ) where
  abbrev pub values_of : List ℤ
  values_of = map value_read (chunks value_size n b)

  pub values_count : length values_of ≡ n
  values_count = read_length value_read value_size n b

  value_there : (x : ℕ) → x < n → get_or values_of x (pos 0) ≡ value_read (part b (x * value_size) value_size)
  value_there = read_at value_read value_size n b (pos 0) no_value

  -- one more placed
  pub placed_next : (found : List ℤ) (x : ℕ) (v : ℤ) → x < n → x < length found → take x found ≡ take x values_of → v ≡ value_read (part b (x * value_size) value_size)
      → take (x + 1) (set found x v) ≡ take (x + 1) values_of
  placed_next found x v h there e is =
      ap (λ (k : ℕ). take k (set found x v)) (add-one x)
      ∙ take-suc-set found x v there
      ∙ ap₂ (λ (l : List ℤ) (u : ℤ). l ++ (u ∷ [])) e (is ∙ sym (value_there x h))
      ∙ sym (take-suc values_of x (pos 0) (omega (arith, values_count)))
      ∙ ap (λ (k : ℕ). take k values_of) (sym (add-one x))
