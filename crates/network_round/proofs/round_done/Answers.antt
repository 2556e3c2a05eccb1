-- `round_done` raises the epoch, and then has each site do its part.
use mathlib.Core.Path.{◌≡◌, ap, ◌∙◌}
use mathlib.Core.List.{List}
use Prim.Native.Nat.{ℕ, ◌+◌}
use native.Mathlib.Omega.{arith}
use native.Mathlib.Numerals.{add-one}
use Rattle.protocol.specs.Network.{site_stamps}
use Rattle.protocol.specs.Round.{greatest_epoch, next_epoch}
use Rattle.network_layout.specs.InWords.{network_in}
use Rattle.network_layout.proofs.OnNetwork.{at_state}
use Rattle.network_round_causes.proofs.CauseLaws.{epoch_room}
use Rattle.network_round.proofs.RoundLaws.{raises_first, hears_left}
use Rattle.network_round.proofs.round_done.Goals as goal

-- ---- the new epoch
new_epoch : (w : List ℕ) (e : ℕ) → e ≡ greatest_epoch (site_stamps (network_in w)) → e + 1 ≡ next_epoch (network_in w)
new_epoch w e is = ap (λ (k : ℕ). k + 1) is ∙ add-one (greatest_epoch (site_stamps (network_in w)))

pub overflow_add-to : goal.overflow_add-to
overflow_add-to c = omega (arith, c.greatest_epoch-to.ensures, epoch_room (network_in c.args.state.now) c.requires.free)

pub raise_all-requires : goal.raise_all-requires
raise_all-requires c =
    let w = c.args.state.now in
    let e = c.greatest_epoch-to in
    raises_first w c.requires (e.result + 1) (new_epoch w e.result e.ensures)

pub places-places-requires : goal.places-places-requires
places-places-requires c = at_state c.raise_all.new.state c.raise_all.ensures.net

-- what is left then
pub hear_all-requires : goal.hear_all-requires
hear_all-requires c =
    let w = c.args.state.now in
    let e = c.greatest_epoch-to in
    let then = hears_left w c.requires (e.result + 1) (new_epoch w e.result e.ensures) c.raise_all.new.state c.raise_all.ensures in
    record { walking = then.walking; places_are = c.places-places.ensures }

pub returns : goal.returns
returns c =
    let w = c.args.state.now in
    let e = c.greatest_epoch-to in
    let epoch = new_epoch w e.result e.ensures in
    let then = hears_left w c.requires (e.result + 1) epoch c.raise_all.new.state c.raise_all.ensures in
    let all = c.hear_all.ensures in
    record { walked = record { net = all.net; meant = all.meant ∙ then.leads }; epoch_is = epoch }
