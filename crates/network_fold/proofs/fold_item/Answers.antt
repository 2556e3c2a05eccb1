-- `fold_item` stores the last write of the record named, where one is.
use mathlib.Core.Path.{◌≡◌, ap, ◌∙◌}
use Prim.Native.Nat.{ℕ, ◌+◌}
use lib.IntN.{pos}
use lib.ListN.{set}
use mir.Val.{to_z}
use mir.Syntax.{w32}
use Rattle.records.specs.Records.{Record}
use Rattle.protocol.specs.Network.{nth_record}
use Rattle.network_layout.specs.Layout.{base_at}
use Rattle.network_layout.specs.InWords.{network_in}
use Rattle.network_fold.proofs.FoldLaws.{last_or, item_kept, found_there, item_stored}
use Rattle.network_fold.proofs.fold_item.Goals as goal

pub record_at-requires : goal.record_at-requires
record_at-requires c =
    (found_there c.args.state.now c.requires.at c.args.item c.requires.item.there c.args.last c.requires.last c.if-last-lt-RECORDS.true)

pub returns-then-last-lt-RECORDS : goal.returns-then-last-lt-RECORDS
returns-then-last-lt-RECORDS c =
    let w = c.args.state.now in
    let x = c.args.item in
    let value_is : to_z w32 c.last_write-value.result ≡ last_or x (nth_record (network_in w) c.args.last).ops (pos 0)
    = c.last_write-value.ensures ∙ ap (λ (r : Record). last_or x r.ops (pos 0)) (c.record_at.ensures.meant) in
    item_stored w c.requires.at x c.requires.item.there c.args.last c.requires.last c.if-last-lt-RECORDS.true c.last_write-value.result value_is c.store.new.w
    c.store.ensures

pub returns-else-last-lt-RECORDS : goal.returns-else-last-lt-RECORDS
returns-else-last-lt-RECORDS c =
    item_kept c.args.state.now c.requires.at c.args.item c.requires.item.there c.args.last c.requires.last c.if-last-lt-RECORDS.false
