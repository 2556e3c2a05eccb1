-- `epoch_on` refuses with its number, or sets the site's epoch.
use mathlib.Core.Path.{sym}
use Rattle.network_layout.specs.InWords.{network_in}
use Rattle.network_layout.specs.At.{AtSite}
use Rattle.network_layout.proofs.OnNetwork.{at_site}
use Rattle.protocol.proofs.Allowed.{epoch_allowed}
use Rattle.network_epoch.proofs.EpochLaws.{epoch_refused, epoch_done}
use borrow.Author.Rules.{rules}
use Rattle.network_epoch.proofs.epoch_on.Goals as goal

pub returns-in_err-epoch_number : goal.returns-in_err-epoch_number
returns-in_err-epoch_number c =
    let A = c.args in
    epoch_refused A.state.now c.requires A.site A.to c.from_residual.result c.in_err-epoch_number.field-0.0 c.from_residual.ensures.1 c.in_err-epoch_number.ensures

pub site_epoch-requires : goal.site_epoch-requires
site_epoch-requires c =
    let A = c.args in
    let none = sym c.in_ok-epoch_number.ensures in
    let at : AtSite A.state.now c.wide.result = at_site A.state.now c.requires A.site c.wide.result c.wide.ensures (epoch_allowed (network_in A.state.now) A.site A.to none).there in
    search rules

pub returns : goal.returns
returns c =
    let A = c.args in
    epoch_done A.state.now c.requires A.site A.to (sym c.in_ok-epoch_number.ensures) c.site_epoch.new.state c.wide.result c.wide.ensures c.site_epoch.ensures
