-- `rename` goes over the messages: those before i have their new names.
use mathlib.Core.Path.{◌≡◌, sym, subst, ◌∙◌}
use mathlib.Core.List.{List}
use Prim.Native.Nat.{ℕ, ◌+◌, min}
use native.Mathlib.Omega.{arith}
use lib.ListN.{get_or}
use Rattle.limits.specs.Limits.{held_most}
use Rattle.words.proofs.Steps.{not_stepped}
use Rattle.lines.specs.InWords.{line_size, line_in, line_range}
use Rattle.lines.proofs.Boxes.{messages_length}
use Rattle.line_renaming.specs.Renaming.{line_renamed_by}
use Rattle.line_renaming.proofs.RenamingLaws.{RenamedBelow, renamed_none, renamed_next, renamed_all}
use Rattle.line_renaming.proofs.rename.Goals as goal

pub returns-then-l-ne-WORDS : goal.returns-then-l-ne-WORDS
returns-then-l-ne-WORDS c =
    let A = c.args in
    not_stepped line_size line_in line_range (line_renamed_by A.names.now) A.l.now c.if-l-ne-WORDS.true

pub loop-i-init : goal.loop-i-init
loop-i-init c =
    let A = c.args in
    renamed_none A.names.now A.l.now c.if-l-ne-WORDS.false

pub rename_message-requires : goal.rename_message-requires
rename_message-requires c =
    record { sized = c.loop-i.invariant.sized; few = omega (arith, c.loop-i-test.true, c.held-i-end.ensures.1) }

pub loop-i-preserved : goal.loop-i-preserved
loop-i-preserved c =
    let A = c.args in
    let next = renamed_next A.names.now A.l.now c.loop-i.l c.loop-i.i c.loop-i.invariant (omega (arith, c.loop-i-test.true, c.held-i-end.ensures.1)) in
    subst (λ (v : List ℕ). RenamedBelow A.names.now A.l.now v (c.loop-i.i + 1)) (sym c.rename_message.ensures) next

pub shape_of-l : goal.shape_of-l
shape_of-l c =
    c.loop-i.invariant.sized ∙ sym c.if-l-ne-WORDS.false

pub returns : goal.returns
returns c =
    let w = c.args.l.now in
    let all : c.loop-i.i ≡ min (get_or w 0 0) held_most = omega (arith, messages_length w, c.held-i-end.ensures.0) in
    renamed_all c.args.names.now w c.loop-i.l c.loop-i.i c.loop-i.invariant all c.requires.none c.if-l-ne-WORDS.false
