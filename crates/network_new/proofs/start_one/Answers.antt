-- `start_one` lays the words of a site at its start after those before it.
use mathlib.Core.Path.{refl}
use Prim.Native.Nat.{◌*◌}
use Rattle.site.specs.InWords.{site_size}
use Rattle.network_new.proofs.StartWords.{one_started}
use Rattle.network_new.proofs.start_one.Goals as goal

pub returns : goal.returns
returns c =
    let A = c.args in
    one_started A.w.now c.lay.new.w A.i (A.i * site_size) c.requires refl c.lay.ensures
