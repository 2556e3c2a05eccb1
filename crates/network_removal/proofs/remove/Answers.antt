-- `remove` moves the records that stay, counts them, and sets the flag where some go.
use mathlib.Core.Path.{◌≡◌, sym, subst, ◌∙◌}
use mathlib.Core.List.{List}
use Prim.Native.Nat.{ℕ}
use Rattle.words.specs.Words.{part}
use Rattle.record_removal.specs.Removal.{Removal}
use Rattle.network_layout.specs.Layout.{history_at, history_size}
use Rattle.network_removal.proofs.RemovedLaws.{bank, kept_few, counted_state, removed_by_lem}
use Rattle.network_removal.proofs.remove.Goals as goal

pub remove-kept-requires : goal.remove-kept-requires
remove-kept-requires c =
    bank c.args.state.now c.requires c.record_count-made.result c.record_count-made.ensures

pub fold_flag-requires : goal.fold_flag-requires
fold_flag-requires c =
    let w = c.args.state.now in
    let names = c.args.names.now in
    let made = c.record_count-made in
    let kept = c.remove-kept in
    let ys = kept.new.history in
    counted_state w c.requires made.result made.ensures names ys kept.result kept.ensures c.store.new.w c.store.ensures

pub overflow_sub-result : goal.overflow_sub-result
overflow_sub-result c =
    let w = c.args.state.now in
    let names = c.args.names.now in
    let made = c.record_count-made in
    let kept = c.remove-kept in
    let ys = kept.new.history in
    kept_few w c.requires made.result made.ensures names ys kept.result kept.ensures

pub shape_of-state : goal.shape_of-state
shape_of-state c =
    let w = c.args.state.now in
    let names = c.args.names.now in
    let made = c.record_count-made in
    let kept = c.remove-kept in
    let ys = kept.new.history in
    let state = counted_state w c.requires made.result made.ensures names ys kept.result kept.ensures c.store.new.w c.store.ensures in
    c.fold_flag.auto.state ∙ state.sized ∙ sym c.requires.sized

pub returns : goal.returns
returns c =
    let w = c.args.state.now in
    let names = c.args.names.now in
    let made = c.record_count-made in
    let kept = c.remove-kept in
    let ys = kept.new.history in
    removed_by_lem w c.requires made.result made.ensures names ys kept.result kept.ensures c.store.new.w c.store.ensures c.fold_flag.new.state c.fold_flag.ensures
