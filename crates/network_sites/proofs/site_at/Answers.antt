-- `site_at` lends the site's own words.
use Rattle.network_sites.proofs.SiteLaws.{lent_from}
use Rattle.network_sites.proofs.site_at.Goals as goal

pub returns : goal.returns
returns c = lent_from c.args.state.now c.args.i c.requires c.words_of-a.result c.words_of-a.ensures
