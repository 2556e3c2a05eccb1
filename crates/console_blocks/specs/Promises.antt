-- What the code promises of the bytes that it is fed.
use Rattle.std.specs.Prelude.{◌≡◌, List, [], ℕ, ◌+◌, ◌≤◌, ◌<◌, length, take, drop}
use Rattle.network_layout.specs.InWords.{shaped, meaning}
use Rattle.console_notation.specs.Lines.{told, used}
use Rattle.console_lines.specs.Promises.{Effect}
use Rattle.console_held.specs.Held.{Holding}
use Rattle.console_notation.specs.declared.Progress.{Progress}
use Rattle.console_blocks.specs.declared.Advance.{Advance}

-- of a block the bytes that there is room to answer are used, and what is held is of the line that has not ended
pub record Fed (block line entry exit out₀ out : List ℕ) (at : ℕ) (r : Progress) : Type 0 where
  pub used_is : r.used ≡ used (meaning entry) (length out₀) at line block
  pub effect : Effect (told (meaning entry) line (take r.used block)) exit out₀ out at r.filled
  pub holding : Holding (told (meaning entry) line (take r.used block)).held r.held

-- ---- inner functions: whether the words are those of a network is known of those that came, and answered of those that are left
abbrev pub progress_of : Advance → Progress
progress_of r = record { used = r.used; held = r.held; filled = r.filled }

pub record Advanced (block line entry exit out₀ out : List ℕ) (at : ℕ) (r : Advance) : Type 0 where
  pub fed : Fed block line entry exit out₀ out at (progress_of r)
  pub formed_is : r.formed ≡ shaped exit

-- a block up to its first newline: where something is held afterwards, it ends there
pub record Begun (block line entry exit out₀ out : List ℕ) (at : ℕ) (r : Advance) : Type 0 where
  pub effect : Effect (told (meaning entry) line (take r.used block)) exit out₀ out at r.filled
  pub holding : Holding (told (meaning entry) line (take r.used block)).held r.held
  pub within : r.used ≤ length block
  pub stops : 0 < r.held.count → r.used ≡ used (meaning entry) (length out₀) at line block
  pub goes : r.used + used (meaning exit) (length out₀) r.filled [] (drop r.used block) ≡ used (meaning entry) (length out₀) at line block
  pub formed_is : r.formed ≡ shaped exit
