-- Words lent to a call, and put back as it left them.
use mathlib.Core.Path.{◌≡◌}
use mathlib.Core.List.{List}
use Prim.Native.Nat.{ℕ, ◌+◌, ◌-◌, ◌≤◌}
use lib.ListN.{length}
use Rattle.words.specs.Words.{part, put}
use Rattle.words.proofs.Parts.{lent_put, lent_size}
use Rattle.network_new_lines.specs.Cleared.{Replaced}

pub replaced : (Are : List ℕ → Type 0) (w : List ℕ) (at n : ℕ) → at + n ≤ length w → (ys : List ℕ) → length ys ≡ length (part w at (at + n - at)) → Are ys → Replaced at n Are w (put w at (at + n - at) ys)
replaced Are w at n h ys long such = record { words = ys; sized = lent_size w at n ys h long; is = lent_put w at n ys; are = such }
