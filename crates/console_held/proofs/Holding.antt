-- Bytes laid at a place, and bytes held.
use mathlib.Core.Path.{◌≡◌, sym, ap, ◌∙◌}
use mathlib.Core.List.{List, ◌++◌, append_assoc}
use Prim.Native.Nat.{ℕ, ◌+◌, ◌-◌, ◌≤◌, min}
use native.Mathlib.Omega.{arith}
use lib.ListN.{length, take, drop, length-append}
use lib.Seq.{take_at, take-append-add, length-take-le}
use Rattle.words.specs.Words.{put}
use Rattle.words.proofs.Parts.{lent_put}
use Rattle.lists.proofs.Lists.{take_min}
use Rattle.decimal.specs.Decimal.{Printed}
use Rattle.console_notation.specs.Lines.{clip_most, clipped}
use Rattle.console_held.specs.Held.{Holding}

-- ---- bytes laid at a place
-- a part lent for n bytes, which are copied over all of it
pub laid_there : (w from y : List ℕ) (at n : ℕ) → n ≤ length from → at + n ≤ length w → y ≡ take n from → Printed w (put w at (at + n - at) y) at (at + n) (take n from)
laid_there w from y at n hf hw all =
    let size : length (take n from) ≡ n = length-take-le n from hf in
    record {
      end_is = omega arith;
      exit_is = lent_put w at n y ∙ ap (put w at n) all ∙ ap (λ (k : ℕ). put w at k (take n from)) (sym size);
    }

-- ---- bytes held
-- as many as are still held, behind those that are
pub held_there : (bytes from x : List ℕ) (count at n end : ℕ) → length bytes ≡ clip_most → at ≡ min count clip_most → n ≡ min (clip_most - at) (length from) → Printed bytes x at end (take n from)
    → Holding (clipped (take count bytes ++ from)) (record { bytes = x; count = end })
held_there bytes from x count at n end size a b p =
    let front = take at bytes in
    let front_size : length front ≡ at = length-take-le at bytes (omega arith) in
    let part_size : length (take n from) ≡ n = length-take-le n from (omega arith) in
    let both-size : length (front ++ take n from) ≡ at + n = omega (arith, length-append front (take n from)) in
    let rest = drop (length (take n from)) (drop at bytes) in
    let taken : take end x ≡ front ++ take n from
    = ap (take end) (p.exit_is ∙ sym (append_assoc front (take n from) rest)) ∙ take_at (front ++ take n from) rest end (omega (arith, p.end_is)) in
    let fronts : front ≡ take count bytes = ap (λ (k : ℕ). take k bytes) (a ∙ ap (min count) (sym size)) ∙ take_min count bytes in
    let froms : take n from ≡ take (clip_most - at) from = ap (λ (k : ℕ). take k from) b ∙ take_min (clip_most - at) from in
    let whole : clip_most ≡ length front + (clip_most - at) = omega arith in
    let line : front ++ take n from ≡ clipped (take count bytes ++ from)
    = ap (λ (z : List ℕ). front ++ z) froms ∙ sym (take-append-add front from (clip_most - at)) ∙ ap (λ (k : ℕ). take k (front ++ from)) (sym whole) ∙ ap (λ (z : List ℕ). clipped (z ++ from)) fronts in
    record { held_is = taken ∙ line; count_is = omega (arith, p.end_is, ap length line) }
