-- `own_write` asks the reader's own record.
use mathlib.Core.Path.{◌≡◌, ap₂, ◌∙◌}
use Prim.Native.Nat.{ℕ}
use Rattle.site_operations.specs.Operations.{touches}
use Rattle.origins.specs.Origin.{ops_before}
use Rattle.network_layout.specs.InWords.{network_in}
use Rattle.network_layout.proofs.OnNetwork.{at_record}
use Rattle.network_writers.proofs.own_write.Goals as goal

pub record_touches_before-requires : goal.record_touches_before-requires
record_touches_before-requires c =
    at_record c.args.state.now c.requires.net c.args.k _ c.wide.ensures c.requires.there

pub returns : goal.returns
returns c =
    let A = c.args in
    let n = network_in A.state.now in
    let told : c.record_touches_before.result ≡ touches A.item (ops_before n c.wide.result c.wide-2.result) = c.record_touches_before.ensures in
    told ∙ ap₂ (λ (k a : ℕ). touches A.item (ops_before n k a)) c.wide.ensures c.wide-2.ensures
