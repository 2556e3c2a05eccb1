-- `site_dummy` changes one site of the network, as `dummy` changes its words.
use Rattle.site.specs.Site.{dummied}
use Rattle.network_sites.proofs.SiteLaws.{stepped_at}
use Rattle.network_sites.proofs.site_dummy.Goals as goal

pub returns : goal.returns
returns c =
    let done = c.dummy in
    stepped_at c.args.state.now c.args.i c.requires c.words_of.result c.words_of.ensures dummied done.new.part done.auto.part done.ensures
