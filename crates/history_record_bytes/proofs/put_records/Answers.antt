-- `put_records` writes one record after another: up to i they are written.
use mathlib.Core.Path.{refl, ap, ◌∙◌}
use Prim.Native.Nat.{◌+◌, ◌≤◌, ◌<◌, ◌-◌}
use native.Mathlib.Omega.{arith}
use lib.ListN.{length}
use Rattle.words.proofs.Parts.{lent_part, part_length}
use Rattle.network_layout.specs.InWords.{network_in}
use Rattle.network_layout.proofs.Performs.{records_count}
use Rattle.history_file.specs.Bytes.{joined}
use Rattle.history_file.specs.File.{record_bytes}
use Rattle.history_file.proofs.Exports.{body_more, body_room, body_put, body_put_length, body_all}
use borrow.Author.Rules.{rules}
use Rattle.history_record_bytes.proofs.put_records.Goals as goal
use Rattle.history_record_bytes.proofs.put_records.Goals.{After-size}

-- the record of this turn is one of them, and there is room for it
here : (c : After-size) → c.loop-i.i < length (network_in c.args.state.now).history
here c =
    omega (arith, c.requires.counted.all, records_count c.args.state.now, c.loop-i-test.true)

room : (c : After-size) → c.loop-i.at + c.size.result ≤ length (joined record_bytes (network_in c.args.state.now).history)
room c =
    body_room (network_in c.args.state.now).history c.loop-i.i (here c) c.loop-i.at c.size.result c.loop-i.invariant.1 c.size.ensures.0

pub loop-i-init : goal.loop-i-init
loop-i-init c = (omega arith, refl, refl, refl)

pub overflow_add-e : goal.overflow_add-e
overflow_add-e c = omega (arith, room (goal.at.overflow_add-e c).After-size, c.requires.sized)

pub slice_bounds-put_record-end : goal.slice_bounds-put_record-end
slice_bounds-put_record-end c = omega (arith, room (goal.at.slice_bounds-put_record-end c).After-size, c.requires.sized, c.loop-i.invariant.2)

pub put_record-requires : goal.put_record-requires
put_record-requires c =
    record {
      there = search rules;
      sized = ap length (lent_part c.loop-i.b c.loop-i.at c.size.result) ∙ part_length c.loop-i.b c.loop-i.at c.size.result (omega (arith, room (goal.at.put_record-requires c).After-size, c.requires.sized, c.loop-i.invariant.2)) ∙ c.size.ensures.0;
    }

pub loop-i-preserved : goal.loop-i-preserved
loop-i-preserved c =
    let hs = (network_in c.args.state.now).history in
    let s = c.size in
    let p = c.put_record in
    (omega (arith, c.loop-i-test.true), body_more hs c.loop-i.i (here (goal.at.loop-i-preserved c).After-size) c.loop-i.at s.result c.loop-i.invariant.1 s.ensures.0, body_put_length hs c.loop-i.i (here (goal.at.loop-i-preserved c).After-size) c.loop-i.at s.result c.loop-i.invariant.1 s.ensures.0 c.args.b.now c.loop-i.b p.new.b c.requires.sized c.loop-i.invariant.2 p.ensures, body_put hs c.loop-i.i (here (goal.at.loop-i-preserved c).After-size) c.loop-i.at s.result c.loop-i.invariant.1 s.ensures.0 c.args.b.now c.loop-i.b p.new.b c.requires.sized c.loop-i.invariant.3 p.ensures)

pub shape_of-b : goal.shape_of-b
shape_of-b c = c.loop-i.invariant.2

pub returns : goal.returns
returns c =
    let w = c.args.state.now in
    body_all (network_in w).history c.loop-i.i c.loop-i.at (omega (arith, c.requires.counted.all, records_count w, c.loop-i-test.false)) c.loop-i.invariant.1 c.args.b.now c.loop-i.b c.requires.sized c.loop-i.invariant.3
