-- `put_head` lays the words before the operations.
use mathlib.Core.Path.{ap, ◌∙◌}
use mathlib.Core.List.{List, ◌∷◌, ◌++◌}
use Prim.Native.Nat.{ℕ, ◌+◌, ◌-◌}
use native.Mathlib.Omega.{arith}
use lib.ListN.{set}
use Rattle.words.specs.Words.{laid}
use Rattle.timestamp.specs.Value.{stamp_of}
use Rattle.timestamp_words.specs.InWords.{stamp_words}
use lib.Seq.{drop-drop}
use Rattle.c_files.proofs.Records.{head_laid}
use Rattle.c_files.proofs.put_head.Goals as goal

pub returns : goal.returns
unfolding stamp_words
returns c =
    let w = c.args.w.now in
    let xs = stamp_words (stamp_of c.args.stamp) in
    c.store-2.ensures
    ∙ ap (λ (l : List ℕ). set l 1 c.args.count) (c.store.ensures ∙ ap (λ (l : List ℕ). set l 0 c.args.site) (c.lay.ensures ∙ ap (λ (l : List ℕ). laid w 2 l) c.to_words-t.ensures.0))
    ∙ head_laid w xs c.args.site c.args.count (omega (arith, c.requires))
    ∙ ap (λ (l : List ℕ). c.args.site ∷ (c.args.count ∷ (xs ++ l))) (drop-drop 18 2 w)
