-- `earlier_of` takes the next site where it is earlier than the best so far.
use mathlib.Core.Path.{◌≡◌, sym, ap, ◌∙◌}
use mathlib.Core.Bool.{Bool, true, false, cond}
use Prim.Native.Nat.{◌+◌}
use native.Mathlib.Omega.{arith}
use Rattle.timestamp_order.specs.Order.{order_by, is_earlier}
use Rattle.protocol.specs.Network.{Network, site_at, place_of}
use Rattle.network_layout.specs.InWords.{network_in}
use Rattle.network_layout.proofs.OnNetwork.{compared}
use Rattle.network_layout.proofs.Performs.{sites_count}
use Rattle.network_point.specs.Point.{EarliestSoFar}
use Rattle.network_point.proofs.PointLaws.{next_site}
use Rattle.network_point.proofs.earlier_of.Goals as goal
use Rattle.network_point.proofs.earlier_of.Goals.{After-is_earlier}

-- what the comparison found, of the network's timestamps
module _ (c : After-is_earlier) where
  abbrev net : Network
  net = network_in c.args.state.now

  told : is_earlier (order_by (place_of net.items) (site_at net c.args.i).stamp (site_at net c.args.best).stamp) ≡ c.is_earlier.result
  told = sym (c.is_earlier.ensures ∙ ap is_earlier (compared c.args.state.now c.args.places c.requires.places_are c.compare_sites-found.ensures))

  taken : (b : Bool) → c.is_earlier.result ≡ b → EarliestSoFar net (c.args.i + 1) (cond b c.args.i c.args.best)
  taken b e = next_site net c.args.i c.args.best c.requires.so_far (omega (arith, c.requires.next.there, sites_count c.args.state.now)) b (told ∙ e)

pub returns-then-is_earlier : goal.returns-then-is_earlier
returns-then-is_earlier c = taken (goal.at.returns-then-is_earlier c).After-is_earlier true c.if-is_earlier.true

pub returns : goal.returns
returns c = taken (goal.at.returns c).After-is_earlier false c.if-is_earlier.false
