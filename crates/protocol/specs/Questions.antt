-- Questions: the calls that only look, and the number of each.
use Rattle.std.specs.Prelude.{Bool, not, cond, ◌||◌, [], ◌∷◌, ℕ, length, get_or, eqb, leb}
use Rattle.std.proofs.Math.Option.{Option, none, some}
use Rattle.lists.specs.Numbers.{first_number, number_if}
use Rattle.site_operations.specs.Operations.{Op, no_op, reads}
use Rattle.placement.specs.Placement.{is_line}
use Rattle.protocol.specs.Network.{Network, nth_record}
use Rattle.protocol.specs.Steps.{no_such_site}

pub data Question : Type 0 where
  waiting : (site : ℕ) → Question
  table : (site : ℕ) → Question
  stamp : (site : ℕ) → Question
  line : (parent child : ℕ) → Question
  origin : (commit operation : ℕ) → Question
  places : Question
  base : Question

-- of a site, of a line, and of a read in the history
abbrev pub asked_site : Network → ℕ → ℕ
asked_site n i = number_if (no_such_site n i) 7

abbrev pub asked_line : Network → ℕ → ℕ → ℕ
asked_line n p c = first_number (number_if (no_such_site n p || no_such_site n c) 7 ∷ number_if (not (is_line n.items p c)) 17 ∷ [])

-- operation a of the commit that is record k
abbrev pub nth_op : Network → ℕ → ℕ → Op
nth_op n k a = get_or (nth_record n k).ops a no_op

-- no such commit, no such operation in it, or no read
abbrev pub no_such_read : Network → ℕ → ℕ → Bool
no_such_read n k a = leb (length n.history) k || (leb (length (nth_record n k).ops) a || not (reads (nth_op n k a)))

abbrev pub asked_read : Network → ℕ → ℕ → ℕ
asked_read n k a = number_if (no_such_read n k a) 26

unfoldable pub question_number : Network → Question → ℕ
question_number n (waiting i) = asked_site n i
question_number n (table i) = asked_site n i
question_number n (stamp i) = asked_site n i
question_number n (line p c) = asked_line n p c
question_number n (origin k a) = asked_read n k a
question_number n places = 0
question_number n base = 0

-- what a question answers of a network; nothing where it is refused or there is none
unfoldable pub answer : {A : Type 0} → Question → A → (Network → A) → Option Network → A
answer q nothing of none = nothing
answer q nothing of (some n) = cond (eqb (question_number n q) 0) (of n) nothing
