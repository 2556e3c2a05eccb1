-- `start_at` lends the sites' words.
use mathlib.Core.List.{List}
use Prim.Native.Nat.{ℕ}
use Rattle.network_layout.specs.Layout.{sites_size}
use Rattle.network_new_lines.proofs.Replacing.{replaced}
use Rattle.network_new.specs.New.{Started}
use Rattle.network_new.proofs.start_at.Goals as goal

pub returns : goal.returns
returns c =
    let done = c.start_sites in
    let A = c.args in
    replaced (λ (w : List ℕ). Started w A.n) A.state.now A.at sites_size c.requires.inside done.new.w done.auto.w done.ensures
