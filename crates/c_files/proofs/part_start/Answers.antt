-- `part_start` counts back from the end over the trailer and the part.
use mathlib.Core.Path.{refl}
use native.Mathlib.Omega.{arith}
use borrow.Author.Tests.{eq-eqb, ne_eqb}
use Rattle.c_files.proofs.part_start.Goals as goal

pub returns-then-number-ne0 : goal.returns-then-number-ne0
returns-then-number-ne0 c = rw (ne_eqb c.args.number 0 c.if-number-ne0.true) refl

pub overflow_sub-result : goal.overflow_sub-result
overflow_sub-result c = omega (arith, c.requires.within c.if-number-ne0.false)

pub overflow_sub-result-2 : goal.overflow_sub-result-2
overflow_sub-result-2 c = omega (arith, c.requires.within c.if-number-ne0.false)

pub returns : goal.returns
returns c = rw (eq-eqb c.args.number 0 c.if-number-ne0.false) refl
