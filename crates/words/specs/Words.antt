-- Lists of words: parts of them, chunks of one size, and what copying and moving words leaves.
use Rattle.std.specs.Prelude.{◌≡◌, Bool, true, cond, List, [], ◌∷◌, ◌++◌, ℕ, zero, suc, ◌+◌, ◌-◌, take, drop, length, leb}

-- n words from a place on
abbrev pub part : List ℕ → ℕ → ℕ → List ℕ
part w at n = take n (drop at w)

-- the words with the n from a place on replaced by ys
abbrev pub put : List ℕ → ℕ → ℕ → List ℕ → List ℕ
put w at n ys = take at w ++ (ys ++ drop n (drop at w))

-- the first k chunks of m words each
unfoldable pub chunks : ℕ → ℕ → List ℕ → List (List ℕ)
chunks m zero w = []
chunks m (suc k) w = take m w ∷ chunks m k (drop m w)

-- the words with ys over the front of them, as far as both reach
abbrev pub overlaid : List ℕ → List ℕ → List ℕ
overlaid w ys = take (length w) ys ++ drop (length ys) w

-- the words with ys from a place on, where they fit; else as they are
abbrev pub laid : List ℕ → ℕ → List ℕ → List ℕ
laid w at ys = cond (leb (at + length ys) (length w)) (put w at (length ys) ys) w

-- every word k places further to the front; the last k stay as they are
abbrev pub shifted : List ℕ → ℕ → List ℕ
shifted w k = drop k w ++ drop (length w - k) w

-- what a call leaves of the words of one thing: its meaning as the step says and what is in range still so, words of another size as they were
pub record Stepped {A : Type 0} (size : ℕ) (meaning : List ℕ → A) (range : List ℕ → Bool) (step : A → A) (entry exit : List ℕ) : Type 0 where
  pub meant : length entry ≡ size → meaning exit ≡ step (meaning entry)
  pub ranged : length entry ≡ size → range entry ≡ true → range exit ≡ true
  pub kept : (length entry ≡ size → ⊥) → exit ≡ entry
