-- `clear_one` fills the two counts of a line with 0.
use mathlib.Core.Path.{◌≡◌, ap, ap₂, ◌∙◌}
use mathlib.Core.List.{List, [], ◌∷◌}
use Prim.Native.Nat.{ℕ, ◌+◌, ◌-◌, ◌*◌}
use native.Mathlib.Omega.{arith}
use lib.ListN.{length, take, drop, replicate, length-take, length-drop}
use Rattle.words.specs.Words.{put}
use Rattle.lines.specs.InWords.{line_size}
use Rattle.network_new_lines.proofs.ClearWords.{inside, one_cleared}
use Rattle.network_new_lines.proofs.clear_one.Goals as goal

pub returns : goal.returns
returns c =
    let A = c.args in
    let at = A.k * line_size in
    let two : at + 2 - at ≡ 2 = omega arith in
    let lent = drop at A.w.now in
    let room = inside A.w.now A.k c.requires in
    let sized : length (take (at + 2 - at) lent) ≡ 2 = length-take (at + 2 - at) lent ∙ omega (arith, length-drop at A.w.now, room) in
    let zeros : c.fill.new.self ≡ 0 ∷ (0 ∷ []) = c.fill.ensures.after (λ y h. h) ∙ ap (λ (n : ℕ). replicate n 0) sized in
    one_cleared A.w.now _ A.k c.requires (ap₂ {C = List ℕ} (λ (n : ℕ) (ys : List ℕ). put A.w.now at n ys) two zeros)
