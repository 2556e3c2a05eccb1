-- `to_words` lists the epoch, the number of tuples, and the site and count at each of the eight places.
use mathlib.Core.List.{[], ◌∷◌}
use native.Mathlib.Omega.{arith}
use Rattle.timestamp_words.specs.InWords.{stamp_words}
use Rattle.timestamp_words.proofs.to_words.Goals as goal

pub returns : goal.returns
unfolding stamp_words
returns c = (
  λ i. c.args.t.epoch.0 ∷ (c.size.ensures.0 i
      ∷ ((c.tuple-a.ensures i).site ∷ ((c.tuple-a.ensures i).count
      ∷ ((c.tuple-b.ensures i).site ∷ ((c.tuple-b.ensures i).count
      ∷ ((c.tuple-c.ensures i).site ∷ ((c.tuple-c.ensures i).count
      ∷ ((c.tuple-d.ensures i).site ∷ ((c.tuple-d.ensures i).count
      ∷ ((c.tuple-e.ensures i).site ∷ ((c.tuple-e.ensures i).count
      ∷ ((c.tuple-f.ensures i).site ∷ ((c.tuple-f.ensures i).count
      ∷ ((c.tuple-g.ensures i).site ∷ ((c.tuple-g.ensures i).count
      ∷ ((c.tuple-h.ensures i).site ∷ ((c.tuple-h.ensures i).count ∷ []))))))))))))))))),
  omega (arith, c.size.ensures.0, c.size.ensures.1),
)
