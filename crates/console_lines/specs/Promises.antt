-- What the code promises of the lines that it answers.
use Rattle.std.specs.Prelude.{◌≡◌, List, [], ℕ, ◌+◌, ◌≤◌, length, take, drop}
use Rattle.decimal.specs.Decimal.{Printed}
use Rattle.network_layout.specs.InWords.{shaped, meaning}
use Rattle.script_notation.specs.declared.Reply.{Reply}
use Rattle.script_notation.specs.Fields.{position}
use Rattle.console_notation.specs.Lines.{newline, Told, told, used}
use Rattle.console_lines.specs.declared.Next.{Next}

-- the buffer has the answers from a place on, and all else as it was; the words mean the state after them
pub record Effect (t : Told) (exit out₀ out : List ℕ) (at end : ℕ) : Type 0 where
  pub printed : Printed out₀ out at end t.bytes
  pub after_is : meaning exit ≡ t.after

-- the same by a struct, which says too whether the words are then those of a network
pub record Collected (t : Told) (exit out₀ out : List ℕ) (at : ℕ) (r : Reply) : Type 0 where
  pub effect : Effect t exit out₀ out at r.end
  pub formed_is : r.formed ≡ shaped exit

-- a block of which nothing was held before, up to the start of a line that does not end in it or finds no room
pub record Walked (block entry exit out₀ out : List ℕ) (at from filled : ℕ) : Type 0 where
  pub effect : Effect (told (meaning entry) [] (take from block)) exit out₀ out at filled
  pub whole : (told (meaning entry) [] (take from block)).held ≡ []
  pub within : from ≤ length block
  pub goes : from + used (meaning exit) (length out₀) filled [] (drop from block) ≡ used (meaning entry) (length out₀) at [] block

pub record Ended (block entry exit out₀ out : List ℕ) (at : ℕ) (r : Next) : Type 0 where
  pub walked : Walked block entry exit out₀ out at r.from r.filled
  pub end_is : r.end ≡ r.from + position newline (drop r.from block)
  pub used_is : r.end ≡ used (meaning entry) (length out₀) at [] block
  pub formed_is : r.formed ≡ shaped exit
