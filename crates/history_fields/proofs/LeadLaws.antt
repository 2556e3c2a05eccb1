-- So many bytes where a flag is set, and none where it is not.
use mathlib.Core.Path.{◌≡◌, sym, ◌∙◌}
use mathlib.Core.Bool.{Bool, true, false, cond}
use Prim.Native.Nat.{ℕ}

module _ (flag t : Bool) (is : t ≡ flag) (size : ℕ) where
  pub size_some : t ≡ true → (n : ℕ) → n ≡ size → n ≡ cond flag size 0
  size_some e n ns = ns ∙ sym (rw (sym is ∙ e))

  pub size_none : t ≡ false → 0 ≡ cond flag size 0
  size_none e = sym (rw (sym is ∙ e))
