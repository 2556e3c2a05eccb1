-- `save` writes the file, which an accepted export has put in the buffer.
use mathlib.Core.Path.{◌≡◌, refl, sym, ap}
use mathlib.Core.Bool.{Bool, true, false}
use mathlib.Core.List.{List}
use mathlib.Core.Option.{Option, none, some}
use Prim.Native.Nat.{ℕ, ◌≤◌}
use native.Mathlib.Omega.{arith}
use lib.Dec.{ltb}
use lib.ListN.{length, replicate}
use lib.Seq.{length-take-le}
use borrow.Author.Tests.{ltb-false}
use Rattle.protocol.specs.Network.{Network}
use Rattle.network_layout.specs.InWords.{meaning}
use Rattle.history_file.specs.File.{history_of, file_of}
use Rattle.history_file.specs.Promises.{Export, exported, export_of}
use Rattle.history_write.proofs.save.Goals as goal

-- an export's length is within the buffer
export_fits : (o : Option Network) (b : List ℕ) → (export_of o b).size ≤ length b
unfolding export_of
export_fits none b = omega arith
export_fits (some n) b = go (ltb (length b) (length (file_of (history_of n)))) refl
  where
    go : (t : Bool) → ltb (length b) (length (file_of (history_of n))) ≡ t → (exported (file_of (history_of n)) b).size ≤ length b
    go true e = rw e (omega arith)
    go false e = rw e (ltb-false (length b) (length (file_of (history_of n))) e)

within : (o : Option Network) (b : List ℕ) {e : Export} → export_of o b ≡ e → e.size ≤ length b
within o b p = omega (arith, export_fits o b, ap (λ (x : Export). x.size) p)

pub slice_bounds-file-end : goal.slice_bounds-file-end
slice_bounds-file-end g c =
    let export = c.export-answer in
    omega (arith, within (meaning c.args.state.now) (replicate 35096 0) export.ensures, export.auto.b)

pub slice_bounds-write_all-end : goal.slice_bounds-write_all-end
slice_bounds-write_all-end g c =
    let export = c.export-answer in
    sym (length-take-le export.result.length export.new.b (omega (arith, within (meaning c.args.state.now) (replicate 35096 0) export.ensures, export.auto.b)))
