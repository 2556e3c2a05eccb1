-- `commit_gathered` commits what is gathered, and so all that it stands for.
use Rattle.network_operations.proofs.GatherLaws.{performs_all}
use Rattle.network_operations.proofs.commit_gathered.Goals as goal

pub returns : goal.returns
returns c =
    let A = c.args in
    λ os e. performs_all A.site os A.gathered e _ _ c.commit.result c.commit.ensures
