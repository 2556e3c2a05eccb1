-- `compare_sites` compares the words of the two sites' timestamps.
use mathlib.Core.Path.{◌∙◌, ap}
use Rattle.site.specs.Site.{Site}
use Rattle.site.proofs.Laws.{stamp_law}
use Rattle.timestamp_order.proofs.PartingLaws.{compares_as}
use Rattle.network_point.proofs.compare_sites.Goals as goal

pub returns : goal.returns
returns c =
    let first = c.site_at in
    let second = c.site_at-2 in
    compares_as (stamp_law first.result.now ∙ ap (λ (s : Site). s.stamp) first.ensures.meant) (stamp_law second.result.now ∙ ap (λ (s : Site). s.stamp) second.ensures.meant) c.compare_words.ensures
