-- `answer` hands on the bytes that are held.
use mathlib.Core.Path.{◌≡◌, sym}
use native.Mathlib.Omega.{arith}
use lib.ListN.{length}
use lib.Seq.{length-take-le}
use borrow.Author.Rules.{rules}
use Rattle.console_notation.specs.Lines.{clip_most}
use Rattle.console_blocks.proofs.answer.Goals as goal

pub slice_bounds-bytes-end : goal.slice_bounds-bytes-end
slice_bounds-bytes-end c =
    let full : length c.args.held.bytes ≡ clip_most = search rules in
    omega (arith, c.requires)

pub slice_bounds-collect-end : goal.slice_bounds-collect-end
slice_bounds-collect-end c =
    let full : length c.args.held.bytes ≡ clip_most = search rules in
    sym (length-take-le c.args.held.count c.args.held.bytes (omega (arith, c.requires)))
