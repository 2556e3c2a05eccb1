-- `site_epoch` changes one site of the network, as `epoch` changes its words.
use Rattle.site.specs.Site.{at_epoch}
use Rattle.network_sites.proofs.SiteLaws.{stepped_at}
use Rattle.network_sites.proofs.site_epoch.Goals as goal

pub returns : goal.returns
returns c =
    let done = c.epoch in
    stepped_at c.args.state.now c.args.i c.requires c.words_of.result c.words_of.ensures (at_epoch c.args.number) done.new.part done.auto.part done.ensures
