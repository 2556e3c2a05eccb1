-- What a run leaves of the state. No contract can say which bytes are read: it is the network after the lines of some bytes.
use Rattle.std.specs.Prelude.{◌≡◌, Bool, true, List, [], ℕ, ◌≤◌, length}
use Rattle.network_layout.specs.InWords.{shaped, meaning}
use Rattle.console_notation.specs.Lines.{cut, ending, after_lines, told, line_most}
use Rattle.console_held.specs.Held.{held_of}
use Rattle.console.specs.declared.Run.{Run}

-- the words mean the network after the lines of some bytes
pub record Ran (entry exit : List ℕ) : Type 0 where
  pub input : List ℕ
  pub after_is : meaning exit ≡ after_lines (meaning entry) (cut [] input).lines

-- ---- inner functions
-- it is known whether the words are those of a network, and there is room for an answer
pub record Replying (w : List ℕ) (formed : Bool) (answers : List ℕ) : Type 0 where
  pub formed_is : formed ≡ shaped w
  pub room : line_most ≤ length answers

-- nothing is held, and the words were tested
pub record Began (entry : List ℕ) (r : Run) : Type 0 where
  pub held_is : held_of r.held ≡ []
  pub formed_is : r.formed ≡ shaped entry

-- some bytes were answered behind what was held; where the run goes on, what is held then is theirs, and it is known whether the words are those of a network
pub record Went (line entry exit : List ℕ) (r : Run) : Type 0 where
  pub bytes : List ℕ
  pub after_is : meaning exit ≡ (told (meaning entry) line bytes).after
  pub held_is : r.more ≡ true → held_of r.held ≡ (told (meaning entry) line bytes).held
  pub formed_is : r.more ≡ true → r.formed ≡ shaped exit

-- where the run goes on, they are a whole block
pub record Passed (block line entry exit : List ℕ) (r : Run) : Type 0 where
  pub went : Went line entry exit r
  pub whole : r.more ≡ true → went.bytes ≡ block

-- they are what the end of a script adds
pub record Closed (line entry exit : List ℕ) (r : Run) : Type 0 where
  pub went : Went line entry exit r
  pub whole : went.bytes ≡ ending line
