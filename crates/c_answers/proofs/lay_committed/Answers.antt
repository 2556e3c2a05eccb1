-- `lay_committed` lays the values, and before them the timestamp.
use Rattle.std.proofs.Common.{◌≡◌, ◌∙◌, refl, ap, ℕ, List, ◌∷◌, ◌++◌, ◌-◌, length, arith}
use mathlib.Core.Path.{ap₂}
use Rattle.words.specs.Words.{put, laid}
use Rattle.timestamp.specs.Value.{stamp_of}
use Rattle.timestamp_words.specs.InWords.{stamp_words}
use Rattle.c_answers.specs.Answers.{value_words}
use Rattle.limits.specs.Limits.{ops_most}
use Rattle.c_answers.proofs.Words.{front_behind, filled_words}
use lib.ListN.{length-map}
use mir.Val.{of_z}
use mir.Syntax.{w32}
use borrow.Author.Rules.{rules}
use Rattle.c_answers.proofs.lay_committed.Goals as goal

pub returns : goal.returns
unfolding stamp_words
returns c =
    let w = c.args.w.now in
    let g = c.args.given in
    let places : length g.values ≡ ops_most = search rules in
    let size = length-map g.values (of_z w32) in
    let ys = g.count ∷ value_words g.values in
    c.lay.ensures
    ∙ ap₂ {C = List ℕ} (λ (xs zs : List ℕ). laid (put w 18 (length w - 18) zs) 0 xs) c.to_words.ensures.0 c.put_list.ensures
    ∙ front_behind w (stamp_words (stamp_of g.stamp)) ys 18 (length w - 18) refl (omega (arith, c.requires.0, places, size)) (omega (arith, c.requires.0, places, size))
    ∙ ap (λ (l : List ℕ). stamp_words (stamp_of g.stamp) ++ l) (filled_words ops_most g.count g.values c.requires.1 places)
