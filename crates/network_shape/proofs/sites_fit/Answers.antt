-- `sites_fit` tests the sites that there are.
use Rattle.network_shape.specs.Tested.{sites_shaped}
use Rattle.network_shape.proofs.sites_fit.Goals as goal

pub returns : goal.returns
unfolding sites_shaped
returns c = c.sites_shaped.ensures
