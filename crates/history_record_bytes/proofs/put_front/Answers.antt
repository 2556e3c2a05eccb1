-- `put_front` writes the head, then the tuples.
use mathlib.Core.Path.{refl, sym, ap, ◌∙◌}
use mathlib.Core.List.{◌++◌}
use Prim.Native.Nat.{◌*◌}
use lib.ListN.{length}
use Rattle.timestamp_order.specs.Timestamp.{Stamp}
use Rattle.timestamp_words.specs.InWords.{stamp_in}
use Rattle.history_file.specs.Bytes.{unit_size, unit, joined}
use Rattle.history_file.specs.File.{pair_bytes}
use Rattle.history_file.proofs.Written.{both_written, unit_length}
use borrow.Author.Rules.{rules}
use Rattle.protocol.specs.Network.{nth_record}
use Rattle.network_layout.specs.InWords.{network_in}
use Rattle.history_record_bytes.proofs.put_front.Goals as goal

pub put_tuples-requires : goal.put_tuples-requires
put_tuples-requires c =
    let lent = c.stamp_at-w.ensures in
    record { sized = search rules; whole = lent.sized; all = c.requires.tuples ∙ sym (ap (λ (s : Stamp). length s.tuples) lent.meant); few = c.requires.few_tuples }

pub returns : goal.returns
unfolding stamp_in
returns c =
    let lent = c.stamp_at-w.ensures in
    let A = c.args in
    let r = nth_record (network_in A.state.now) A.k in
    let u = c.put_unit.new.b in
    let tuples_are = c.short.ensures ∙ c.requires.tuples in
    let ops_are = c.short-2.ensures ∙ c.requires.ops in
    let epoch_is = ap (λ (s : Stamp). s.epoch) lent.meant in
    let head-is = c.put_unit.ensures ∙ (λ t. unit (c.record_site-site.ensures t) (tuples_are t) (ops_are t) (epoch_is t)) in
    let tuples-put = c.put_tuples.ensures ∙ ap (λ (s : Stamp). joined pair_bytes s.tuples) lent.meant in
    both_written A.b.now u unit_size (unit_size * A.n) unit_size c.requires.sized (ap length c.put_unit.ensures ∙ unit_length _ _ _ _) refl c.put_tuples.new.b ∙ (λ t. head-is t ++ tuples-put t)
