-- `places_in` tests the shape, and answers the places that the items give where it is that of a network.
use Rattle.std.proofs.Common.{◌∙◌, sym}
use borrow.Author.Tests.{not-true, not-false}
use Rattle.network_layout.specs.At.{AtState}
use Rattle.network_layout.proofs.OnNetwork.{at_state}
use Rattle.network_order.proofs.OrderLaws.{places_refused, places_found}
use borrow.Author.Rules.{rules}
use Rattle.network_order.proofs.places_in.Goals as goal

pub returns-then-not-shaped : goal.returns-then-not-shaped
returns-then-not-shaped c = places_refused c.args.state.now (sym c.shaped.ensures ∙ not-true _ c.if-not-shaped.true-raw)

pub places-requires : goal.places-requires
places-requires c =
    let at : AtState c.args.state.now = at_state c.args.state.now (record { sized = c.requires; formed = sym c.shaped.ensures ∙ not-false _ c.if-not-shaped.false-raw }) in
    search rules

pub returns : goal.returns
returns c = places_found c.args.state.now (sym c.shaped.ensures ∙ not-false _ c.if-not-shaped.false-raw) c.places.result c.places.ensures
