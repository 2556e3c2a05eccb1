-- `site_receive` changes one site of the network, as `receive` changes its words.
use Prim.Native.Nat.{min}
use Rattle.timestamp.specs.Value.{stamp_of}
use Rattle.site.specs.Site.{received}
use Rattle.site_operations.specs.InWords.{ops_in}
use Rattle.limits.specs.Limits.{ops_most}
use Rattle.network_sites.proofs.SiteLaws.{stepped_at}
use Rattle.network_sites.proofs.site_receive.Goals as goal

pub returns : goal.returns
returns c =
    let done = c.receive in
    let os = ops_in (min c.args.n ops_most) c.args.ops.now in
    stepped_at c.args.state.now c.args.i c.requires c.words_of.result c.words_of.ensures
    (received os (stamp_of c.args.t)) done.new.part done.auto.part done.ensures
