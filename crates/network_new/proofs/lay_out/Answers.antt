-- `lay_out` lays the counts, the items, the sites, the counts of the lines and the base.
use mathlib.Core.Path.{◌≡◌, sym, ◌∙◌}
use native.Mathlib.Omega.{arith}
use lib.ListN.{length, length-set}
use Rattle.network_layout.specs.Layout.{state_size}
use Rattle.network_new.proofs.NewWords.{out_begun}
use Rattle.network_new.proofs.lay_out.Goals as goal

pub start_at-requires : goal.start_at-requires
start_at-requires c =
    let laid : length c.lay.new.w ≡ state_size = c.lay.auto.w ∙ simp length-set c.requires.sized in
    record { inside = omega (arith, laid); few = c.requires.few_sites }

pub clear_at-requires : goal.clear_at-requires
clear_at-requires c =
    let laid : length c.lay.new.w ≡ state_size = c.lay.auto.w ∙ simp length-set c.requires.sized in
    omega (arith, c.start_at.auto.state ∙ laid)

pub shape_of-state : goal.shape_of-state
shape_of-state c =
    let laid : length c.lay.new.w ≡ state_size = c.lay.auto.w ∙ simp length-set c.requires.sized in
    c.lay-2.auto.w ∙ c.clear_at.auto.state ∙ c.start_at.auto.state ∙ laid ∙ sym c.requires.sized

pub returns : goal.returns
returns c =
    let A = c.args in
    out_begun A.state.now A.placed.now A.sites A.items c.requires c.lay.new.w c.lay.ensures c.start_at.new.state c.start_at.ensures
    c.clear_at.new.state
    c.clear_at.ensures
    c.lay-2.new.w
    c.lay-2.ensures
