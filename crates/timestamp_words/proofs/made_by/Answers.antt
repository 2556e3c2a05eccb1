-- `made_by` tests the number of tuples, that the places rise, and the last site.
use mathlib.Core.Path.{◌≡◌, ◌∙◌}
use mathlib.Core.Bool.{false}
use mathlib.Core.Logic.{◌⊎◌, inl, inr}
use Prim.Native.Nat.{◌<◌}
use native.Mathlib.Omega.{arith}
use Rattle.timestamp_order.specs.Order.{rank}
use Rattle.timestamp_words.specs.InWords.{stamp_shaped}
use Rattle.timestamp_words.proofs.Shaped.{shaped_many, shaped_none, shaped_not_rising, shaped_by_site}
use Rattle.timestamp_words.proofs.made_by.Goals as goal

pub returns-then-n-eq0 : goal.returns-then-n-eq0
returns-then-n-eq0 c = go c.then-n-eq0.either
  where
    go : (c.word-n.result ≡ 0) ⊎ ((c.word-n.result ≡ 0 → ⊥) × (8 < c.word-n.result)) → false ≡ stamp_shaped (rank c.args.places) c.args.site c.args.w.now
    go (inl z) = shaped_none (rank c.args.places) c.args.site c.args.w.now c.word-n.result c.word-n.ensures (omega (arith, z)) z
    go (inr many) = shaped_many (rank c.args.places) c.args.site c.args.w.now (omega (arith, c.word-n.ensures, many.1))

pub returns-else-rising : goal.returns-else-rising
returns-else-rising c =
    let A = c.args in
    c.if-rising.false ∙ shaped_not_rising (rank A.places) A.site A.w.now c.word-n.result c.word-n.ensures c.if-n-gt-SITES_WIDE.false (omega (arith, c.if-n-eq0.false)) c.rising.result c.rising.ensures c.if-rising.false

pub returns-then-rising : goal.returns-then-rising
returns-then-rising c =
    let A = c.args in
    shaped_by_site (rank A.places) A.site A.w.now c.word-n.result c.word-n.ensures c.if-n-gt-SITES_WIDE.false (omega (arith, c.if-n-eq0.false)) c.rising.result c.rising.ensures c.if-rising.true c.site_in.result c.site_in.ensures
