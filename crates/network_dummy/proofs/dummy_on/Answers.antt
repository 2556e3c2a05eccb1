-- `dummy_on` is refused, or does the dummy.
use mathlib.Core.Path.{sym}
use Rattle.protocol.proofs.Allowed.{dummy_allowed}
use Rattle.network_layout.specs.InWords.{network_in}
use Rattle.network_dummy.proofs.DummyLaws.{dummy_refused, dummy_performed}
use Rattle.network_dummy.proofs.dummy_on.Goals as goal

pub returns-in_err-dummy_number : goal.returns-in_err-dummy_number
returns-in_err-dummy_number c =
    let A = c.args in
    dummy_refused A.state.now A.site c.requires c.from_residual.result c.in_err-dummy_number.field-0.0 c.from_residual.ensures.1 c.in_err-dummy_number.ensures

pub dummy_done-requires : goal.dummy_done-requires
dummy_done-requires c =
    let A = c.args in
    record { net = c.requires; allowed = dummy_allowed (network_in A.state.now) A.site (sym c.in_ok-dummy_number.ensures) }

pub returns : goal.returns
returns c =
    let A = c.args in
    dummy_performed A.state.now A.site c.requires (sym c.in_ok-dummy_number.ensures) c.dummy_done.new.state c.dummy_done.result c.dummy_done.ensures
