-- What the code answers, in the words of the specs: an answer that may be missing.
use Rattle.std.specs.Prelude.{None, Some}
use Rattle.std.specs.declared.option.Option.{Option as Answer}
use Rattle.std.proofs.Math.Option.{Option, none, some}

abbrev pub given : {A : Type 0} → Answer A → Option A
given None = none
given (Some x) = some x

-- what it stands for
abbrev pub given_as : {A B : Type 0} → (A → B) → Answer A → Option B
given_as f None = none
given_as f (Some x) = some (f x)
