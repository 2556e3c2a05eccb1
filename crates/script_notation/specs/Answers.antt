-- What a line answers and leaves, and what a list of lines answers, one after another on one state.
use Rattle.std.specs.Prelude.{◌≡◌, Bool, false, List, [], ◌∷◌, ℕ, ◌+◌, ◌≤◌, length, eqb}
use Rattle.std.proofs.Math.Option.{Option, none, some}
use Rattle.protocol.specs.Network.{Network}
use Rattle.protocol.specs.Calls.{Call, perform}
use Rattle.network_layout.specs.InWords.{shaped, meaning}
use Rattle.script_notation.specs.declared.Reply.{Reply}
use Rattle.script_notation.specs.Parse.{longest, parse}
use Rattle.script_notation.specs.Print.{print, answer_most, Put}

pub record Answer : Type 0 where
  pub bytes : List ℕ
  pub after : Option Network

-- a call is performed and printed; what is no call prints a question mark and changes nothing
abbrev pub replied : Option Network → Option Call → Answer
replied s none = record { bytes = 63 ∷ []; after = s }
replied s (some call) = record { bytes = print call (perform s call); after = (perform s call).after }

unfoldable pub answer : Option Network → List ℕ → Answer
answer s text = replied s (parse text)

unfoldable pub answers : Option Network → List (List ℕ) → List (List ℕ)
answers s [] = []
answers s (l ∷ ls) = (answer s l).bytes ∷ answers (answer s l).after ls

-- ---- what the contracts say
abbrev pub call_accepted : Option Network → Option Call → Bool
call_accepted s none = false
call_accepted s (some call) = eqb (perform s call).number 0

-- the answer's bytes are in the buffer from a place on, the rest of it as it was; the words mean the state after it, and are as they were where nothing was accepted
pub record RepliedAt (call : Option Call) (entry exit out₀ out : List ℕ) (at end : ℕ) : Type 0 where
  pub printed : Put answer_most out₀ out at end (replied (meaning entry) call).bytes
  pub after_is : meaning exit ≡ (replied (meaning entry) call).after
  pub kept : call_accepted (meaning entry) call ≡ false → exit ≡ entry

-- from the front on
abbrev pub Replied : Option Call → List ℕ → List ℕ → List ℕ → List ℕ → ℕ → Type 0
Replied call entry exit out₀ out size = RepliedAt call entry exit out₀ out 0 size

-- ---- what the functions that test nothing ask and say: whether the words are those of a network is known before and after
-- it is known, and there is room for an answer
pub record Informed (w : List ℕ) (formed : Bool) (out : List ℕ) (at : ℕ) : Type 0 where
  pub formed_is : formed ≡ shaped w
  pub room : at + answer_most ≤ length out

-- the same of a line that is not too long
pub record Calling (text w : List ℕ) (formed : Bool) (out : List ℕ) (at : ℕ) : Type 0 where
  pub short : length text ≤ longest
  pub formed_is : formed ≡ shaped w
  pub room : at + answer_most ≤ length out

pub record Answered (call : Option Call) (entry exit out₀ out : List ℕ) (at : ℕ) (r : Reply) : Type 0 where
  pub replied_at : RepliedAt call entry exit out₀ out at r.end
  pub formed_is : r.formed ≡ shaped exit

-- some bytes as an answer, on words of which that is known
pub record Said (bytes : List ℕ) (formed : Bool) (out₀ out : List ℕ) (at : ℕ) (r : Reply) : Type 0 where
  pub printed : Put answer_most out₀ out at r.end bytes
  pub formed_is : r.formed ≡ formed
