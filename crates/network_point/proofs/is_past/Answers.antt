-- `is_past` compares the record's timestamp with that of the site, which is the point.
use mathlib.Core.Path.{ap, ◌∙◌}
use Rattle.timestamp_order.specs.Order.{not_later}
use Rattle.timestamp_order.proofs.PartingLaws.{compares_as}
use Rattle.site.specs.Site.{Site}
use Rattle.site.proofs.Laws.{stamp_law}
use Rattle.network_layout.proofs.OnNetwork.{compared}
use Rattle.network_point.proofs.is_past.Goals as goal

pub returns : goal.returns
returns c =
    let point = c.site_at in
    let w = c.args.state.now in
    let site = stamp_law point.result.now ∙ ap (λ (s : Site). s.stamp) point.ensures.meant ∙ c.requires.point.is in
    c.not_later.ensures ∙ ap not_later (compared w c.args.places c.requires.places_are (compares_as c.stamp_at.ensures.meant site c.compare_words-found.ensures))
