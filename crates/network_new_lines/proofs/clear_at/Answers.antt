-- `clear_at` lends the lines' words.
use mathlib.Core.List.{List}
use Prim.Native.Nat.{ℕ}
use Rattle.protocol.specs.Network.{lines_most}
use Rattle.network_layout.specs.Layout.{lines_size}
use Rattle.network_new_lines.specs.Cleared.{Cleared}
use Rattle.network_new_lines.proofs.Replacing.{replaced}
use Rattle.network_new_lines.proofs.clear_at.Goals as goal

pub returns : goal.returns
returns c =
    let done = c.clear_lines in
    replaced (λ (w : List ℕ). Cleared w lines_most) c.args.state.now c.args.at lines_size c.requires done.new.w done.auto.w done.ensures
