-- Calls one after another on the words of a network: what is asked of the words, and what is left of them.
use Rattle.std.specs.Prelude.{◌≡◌, List, ℕ, ◌<◌, length}
use Rattle.limits.specs.Limits.{sites_most}
use Rattle.protocol.specs.Network.{Network}
use Rattle.protocol.specs.Calls.{Call, AllPass}
use Rattle.protocol.specs.Round.{walked, line_calls, schedule_calls}
use Rattle.network_layout.specs.Layout.{state_size}
use Rattle.network_layout.specs.InWords.{network_in}
use Rattle.network_layout.specs.At.{AtNetwork}

-- ---- all of them
-- none of them is refused
pub record Walking (w : List ℕ) (cs : List Call) : Type 0 where
  pub net : AtNetwork w
  pub accepted : AllPass (network_in w) cs

pub record Walked (entry exit : List ℕ) (cs : List Call) : Type 0 where
  pub net : AtNetwork exit
  pub meant : network_in exit ≡ walked (network_in entry) cs

-- ---- on the way
-- these are left, and lead to that network
pub record Left (end : Network) (w : List ℕ) (cs : List Call) : Type 0 where
  pub walking : Walking w cs
  pub leads : walked (network_in w) cs ≡ end

-- ---- at one site
-- calls of which none is refused, and a number that a site can have
pub record Hearing (w : List ℕ) (j : ℕ) (cs : List Call) : Type 0 where
  pub walking : Walking w cs
  pub few : j < sites_most

-- the line into it from p delivered
pub record Delivering (w : List ℕ) (p j : ℕ) : Type 0 where
  pub hearing : Hearing w j (line_calls j (network_in w) p)
  pub from : p < sites_most

-- schedules until one is refused, at most so many and at least one
pub record Scheduling (w : List ℕ) (most j : ℕ) : Type 0 where
  pub walking : Walking w (schedule_calls most (network_in w) j)
  pub some : 0 < most

-- after one of them: so many are left at most
pub record ScheduledOnce (entry exit : List ℕ) (most left j : ℕ) : Type 0 where
  pub rest : Left (walked (network_in entry) (schedule_calls most (network_in entry) j)) exit (schedule_calls left (network_in exit) j)
  pub fewer : left < most

-- its lines, which are only read
pub record AtInto (w : List ℕ) (j : ℕ) : Type 0 where
  pub sized : length w ≡ state_size
  pub few : j < sites_most
