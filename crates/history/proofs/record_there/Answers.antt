-- `record_there` reads from where that record starts.
use mathlib.Core.Path.{sym, subst}
use mathlib.Core.List.{List}
use Prim.Native.Nat.{ℕ, ◌≤◌}
use lib.ListN.{length}
use Rattle.history_file.specs.Reading.{start_of}
use Rattle.history_file.specs.Promises.{Step, Gives}
use Rattle.history_file.proofs.Files.{start_inside, numbered_by}
use Rattle.history.proofs.LeadLaws.{accepted_led}
use Rattle.history.proofs.record_there.Goals as goal

pub part_of-part-requires : goal.part_of-part-requires
part_of-part-requires c =
    accepted_led c.args.b.now c.requires.accepted

pub start-requires : goal.start-requires
start-requires c =
    let A = c.args in
    subst (λ (p : List ℕ). start_of A.k p ≤ length p) (sym c.part_of-part.ensures) (start_inside A.b.now A.k c.requires.accepted c.requires.inside)

pub returns : goal.returns
returns c =
    let A = c.args in
    let g = c.requires in
    subst (λ (s : Step). Gives s c.record_from.result) (numbered_by A.b.now A.k g.accepted g.inside _ A.places c.start.result A.sites A.items c.part_of-part.ensures g.places_are c.start.ensures g.sites_are g.items_are) c.record_from.ensures
