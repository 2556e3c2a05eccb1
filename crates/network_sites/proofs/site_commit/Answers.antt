-- `site_commit` changes one site of the network, as `commit` changes its words, and hands on the operations as recorded.
use mathlib.Core.Path.{subst}
use Prim.Native.Nat.{min}
use Rattle.site_operations.specs.Operations.{worked}
use Rattle.site.specs.Site.{Site, committed}
use Rattle.site_operations.specs.InWords.{ops_in, OpsLaid}
use Rattle.limits.specs.Limits.{ops_most}
use Rattle.network_sites.proofs.SiteLaws.{lent_at, stepped_at}
use Rattle.network_sites.proofs.site_commit.Goals as goal

pub returns : goal.returns
returns c =
    let done = c.commit in
    let os = ops_in (min c.args.n ops_most) c.args.ops.now in
    let lent = lent_at c.args.state.now c.args.i c.requires c.words_of.result c.words_of.ensures in
    record {
      site_step = stepped_at c.args.state.now c.args.i c.requires c.words_of.result c.words_of.ensures
          (committed os) done.new.part done.auto.part done.ensures.changed;
      ops_laid = subst (λ (x : Site). OpsLaid (min c.args.n ops_most) (worked x.table os).ops done.result) lent.meant (done.ensures.sized lent.sized);
    }
