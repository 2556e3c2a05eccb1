-- `keep` stores an operation while there is room.
use mathlib.Core.Path.{◌≡◌, ap, ◌∙◌}
use native.Mathlib.Omega.{arith}
use lib.IntN.{ℤ}
use lib.ListN.{set}
use mir.Syntax.{w32}
use mir.Val.{to_z, of_z}
use Rattle.std.proofs.Common.{rules, ◌+◌}
use Rattle.script_notation.specs.Parse.{first_operations}
use Rattle.script_notation.proofs.Parsing.{kept_more, kept_full}
use Rattle.script_lists.specs.Kept.{kept_most, op_of}
use Rattle.script_lists.proofs.keep.Goals as goal

pub returns-then-count-ge-KEPT-clause-kept : goal.returns-then-count-ge-KEPT-clause-kept
returns-then-count-ge-KEPT-clause-kept c =
    let A = c.args in
    kept_full kept_most A.kinds.now A.items.now A.values.now c.requires.kinds_sized c.requires.items_sized c.requires.values_sized A.count (op_of A.o) (omega (arith, c.requires))

pub returns-clause-kept : goal.returns-clause-kept
returns-clause-kept c =
    let A = c.args in
    let same : to_z w32 (of_z w32 A.o.value) ≡ A.o.value = search rules in
    ap (λ (z : ℤ). first_operations (A.count + 1) (set A.kinds.now A.count A.o.kind) (set A.items.now A.count A.o.item) (set A.values.now A.count z)) same
    ∙ kept_more kept_most A.kinds.now A.items.now A.values.now c.requires.kinds_sized c.requires.items_sized c.requires.values_sized A.count (op_of A.o) c.if-count-ge-KEPT.false
