-- `gevrolen_compare` compares the words where they lie, and lays where the two part.
use mathlib.Core.Path.{◌≡◌, sym, ap, ◌∙◌}
use mathlib.Core.Option.{some}
use Prim.Native.Nat.{ℕ, ◌<◌}
use native.Mathlib.Omega.{arith}
use mir.Syntax.{w32}
use mir.ValLaws.{to_z-of_z}
use Rattle.timestamp_order.specs.Parting.{shared_of}
use Rattle.timestamp_order.proofs.PartingLaws.{shared_within}
use Rattle.timestamp_words.specs.InWords.{stamp_in}
use Rattle.timestamp_words.proofs.Shaped.{size_law}
use Rattle.c_parting.specs.Fields.{parting_words}
use Rattle.c_answers.specs.Answers.{order_number}
use borrow.Author.Rules.{rules}
use Rattle.gevrolen_c.proofs.gevrolen_compare.Goals as goal
use Rattle.gevrolen_c.proofs.gevrolen_compare.Goals.{After-compare_words-found}

-- a timestamp has eight tuples at most, so that how many are shared is a word
few : (c : After-compare_words-found) (n : ℕ) → shared_of c.compare_words-found.result.parting ≡ some n → n < 4294967296
few c n e =
    let A = c.args in
    let first = A.first.now in
    omega (arith, shared_within (stamp_in first) (stamp_in A.second.now) n (sym c.compare_words-found.ensures.parting_is ∙ e), size_law first)

pub put_parting-requires : goal.put_parting-requires
put_parting-requires c = record { sized = search rules; shared_few = few (goal.at.put_parting-requires c).After-compare_words-found }
