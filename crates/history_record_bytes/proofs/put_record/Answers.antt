-- `put_record` writes what stands before the operations, then the operations.
use mathlib.Core.Path.{◌≡◌, sym, ap, ◌∙◌}
use mathlib.Core.List.{List, ◌++◌}
use Prim.Native.Nat.{ℕ, ◌+◌, ◌*◌, ◌-◌}
use native.Mathlib.Omega.{arith}
use lib.ListN.{length, length-append}
use Rattle.records.specs.Records.{Record}
use Rattle.history_file.specs.Bytes.{unit_size, unit, joined}
use Rattle.history_file.specs.File.{pair_bytes, record_bytes}
use Rattle.history_file.proofs.Written.{front_length, both_written, unit_length, pairs_size, record_size_lem, record_parts}
use Rattle.history_record_bytes.specs.Asked.{front_bytes}
use Rattle.protocol.specs.Network.{nth_record}
use Rattle.network_layout.specs.InWords.{network_in}
use Rattle.history_record_bytes.proofs.put_record.Goals as goal

-- the bytes lent, and those of the front
all_size : (r : Record) (b n count : ℕ) → b ≡ length (record_bytes r) → n ≡ length r.stamp.tuples → count ≡ length r.ops
    → b ≡ unit_size + unit_size * n + unit_size * count
all_size r b n count sized tuples ops = omega (arith, sized, record_size_lem r, tuples, ops)

front_size : (r : Record) → length (front_bytes r) ≡ unit_size + unit_size * length r.stamp.tuples
front_size r =
    length-append (unit r.site (length r.stamp.tuples) (length r.ops) r.stamp.epoch) (joined pair_bytes r.stamp.tuples)
    ∙ (let e : length (unit r.site (length r.stamp.tuples) (length r.ops) r.stamp.epoch) + length (joined pair_bytes r.stamp.tuples) ≡ unit_size + unit_size * length r.stamp.tuples = omega (arith, unit_length r.site (length r.stamp.tuples) (length r.ops) r.stamp.epoch, pairs_size r.stamp.tuples) in e)

front_sized : (r : Record) (front : List ℕ) (n : ℕ) → front ≡ front_bytes r → n ≡ length r.stamp.tuples → length front ≡ unit_size + unit_size * n
front_sized r front n is tuples = ap length is ∙ front_size r ∙ ap (λ (k : ℕ). unit_size + unit_size * k) (sym tuples)

pub slice_bounds-put_front-end : goal.slice_bounds-put_front-end
slice_bounds-put_front-end c =
    let r = nth_record (network_in c.args.state.now) c.args.k in
    omega (arith, all_size r _ _ _ c.requires.sized c.tuples-n.ensures.0 c.operation_count-count.ensures.0)

pub slice_bounds-put_operations_of-end : goal.slice_bounds-put_operations_of-end
slice_bounds-put_operations_of-end c =
    let r = nth_record (network_in c.args.state.now) c.args.k in
    let front = unit_size + unit_size * c.tuples-n.result in
    let all = all_size r _ _ _ c.requires.sized c.tuples-n.ensures.0 c.operation_count-count.ensures.0 in
    let laid = front_sized r c.put_front.new.b c.tuples-n.result c.put_front.ensures c.tuples-n.ensures.0 in
    omega (arith, all, front_length c.args.b.now c.put_front.new.b front (unit_size * c.operation_count-count.result) (front - 0) all laid (omega arith))

pub returns : goal.returns
returns c =
    let r = nth_record (network_in c.args.state.now) c.args.k in
    let front = unit_size + unit_size * c.tuples-n.result in
    let all = all_size r _ _ _ c.requires.sized c.tuples-n.ensures.0 c.operation_count-count.ensures.0 in
    let laid = front_sized r c.put_front.new.b c.tuples-n.result c.put_front.ensures c.tuples-n.ensures.0 in
    both_written c.args.b.now c.put_front.new.b front (unit_size * c.operation_count-count.result) (front - 0) all laid (omega arith) c.put_operations_of.new.b
    ∙ (λ t. c.put_front.ensures t ++ c.put_operations_of.ensures t)
    ∙ record_parts r
