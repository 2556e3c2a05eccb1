-- `put_base` writes one value after another.
use mathlib.Core.Path.{◌≡◌, refl, sym, ap, ◌∙◌}
use Prim.Native.Nat.{◌+◌, ◌-◌, ◌*◌, ◌<◌}
use native.Mathlib.Omega.{arith}
use lib.IntN.{pos}
use lib.ListN.{length, get_or}
use lib.Seq.{length-take-le, get_or-take}
use Rattle.network_layout.specs.Layout.{base_at}
use Rattle.network_layout.specs.InWords.{network_in}
use Rattle.history_file.specs.Bytes.{value_size, value_bytes}
use Rattle.history_file.proofs.Written.{value_size_lem, units_next, units_length, units_all}
use Rattle.history_file.proofs.Bases.{values_count}
use Rattle.history_lead.proofs.LeadLaws.{few_items, value_bytes_lem}
use Rattle.history_lead.proofs.put_base.Invariants.{values}
use Rattle.history_lead.proofs.put_base.Goals as goal
use Rattle.history_lead.proofs.put_base.Goals.{Start}

-- as many as asked for
many : (S : Start) → length (values S.args.state.now S.args.n) ≡ S.args.n
many S =
    let w = S.args.state.now in
    length-take-le S.args.n (network_in w).base.values (omega (arith, S.requires.few, values_count w S.requires.there.sized S.requires.there.formed))

pub loop-x-init : goal.loop-x-init
loop-x-init c = (omega arith, refl, refl)

pub bounds-state-x : goal.bounds-state-x
bounds-state-x c =
    omega (arith, c.loop-x-test.true, c.requires.few, c.requires.there.sized, few_items c.args.state.now c.requires.there)

pub loop-x-preserved : goal.loop-x-preserved
loop-x-preserved c =
    let w = c.args.state.now in
    let b = c.args.b.now in
    let x = c.loop-x.x in
    let vs = values w c.args.n in
    let long : length b ≡ length vs * value_size = omega (arith, c.requires.sized, many (goal.at.loop-x-preserved c).Start) in
    let less : x < length vs = omega (arith, many (goal.at.loop-x-preserved c).Start, c.loop-x-test.true) in
    let is : c.put_number.new.b ≡ value_bytes (get_or vs x (pos 0)) = c.put_number.ensures ∙ value_bytes_lem w c.requires.there x (omega (arith, c.loop-x-test.true, c.requires.few)) _ refl (omega (arith, c.shared_slice_known-in-loop-x-1.given (base_at + 1 + x))) ∙ ap value_bytes (sym (get_or-take c.args.n (network_in w).base.values x (pos 0) c.loop-x-test.true)) in
    (omega (arith, c.loop-x-test.true), units_length value_bytes value_size value_size_lem (pos 0) vs b long x less c.loop-x.b c.put_number.new.b c.loop-x.invariant.1 is, units_next value_bytes value_size value_size_lem (pos 0) vs b long x less c.loop-x.b c.put_number.new.b c.loop-x.invariant.2 is)

pub shape_of-b : goal.shape_of-b
shape_of-b c = c.loop-x.invariant.1

pub returns : goal.returns
returns c =
    let vs = values c.args.state.now c.args.n in
    let long : length c.args.b.now ≡ length vs * value_size = omega (arith, c.requires.sized, many (goal.at.returns c).Start) in
    units_all value_bytes value_size value_size_lem (pos 0) vs c.args.b.now long c.loop-x.x (omega (arith, many (goal.at.returns c).Start, c.loop-x-test.false)) c.loop-x.b c.loop-x.invariant.2
