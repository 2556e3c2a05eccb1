-- What sending asks of a state's words: that the sender may be a site, and that no line which gets the message is full.
use Rattle.std.specs.Prelude.{◌≡◌, true, false, List, ℕ, ◌<◌, length}
use Rattle.limits.specs.Limits.{sites_most}
use Rattle.placement.specs.Masks.{bit}
use Rattle.protocol.specs.Steps.{some_line_full}
use Rattle.network_layout.specs.Layout.{state_size}
use Rattle.network_layout.specs.InWords.{network_in, in_range}

pub record Sender (w : List ℕ) (i : ℕ) : Type 0 where
  pub sized : length w ≡ state_size
  pub ranged : in_range w ≡ true
  pub from : i < sites_most

pub record Sends (w : List ℕ) (i mask : ℕ) : Type 0 where
  pub sized : length w ≡ state_size
  pub ranged : in_range w ≡ true
  pub from : i < sites_most
  pub room : some_line_full (network_in w) i (bit mask) ≡ false
