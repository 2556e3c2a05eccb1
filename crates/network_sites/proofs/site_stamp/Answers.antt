-- `site_stamp` reads the timestamp of the site's own words.
use mathlib.Core.Path.{ap}
use Rattle.timestamp.proofs.Plain.{plain_as}
use Rattle.site.specs.Site.{Site}
use Rattle.network_sites.proofs.site_stamp.Goals as goal

pub returns : goal.returns
returns c = plain_as (ap (λ (x : Site). x.stamp) c.site_at.ensures.meant) c.stamp.ensures
