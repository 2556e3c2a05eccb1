-- The trailer of a network's file, and what writing it asks.
use Rattle.std.specs.Prelude.{◌≡◌, List, ℕ, ◌≤◌, length}
use Rattle.protocol.specs.Network.{Network}
use Rattle.network_layout.specs.Layout.{state_size}
use Rattle.history_file.specs.File.{trailer, trailer_size}
use Rattle.history_units.specs.Asked.{file_most}

-- the trailer of a network's file
abbrev pub trailer_of : Network → ℕ → ℕ → List ℕ
trailer_of n distance flag = trailer (length n.history) distance (length n.sites) (length n.items) flag

-- the bytes of a trailer
pub record ForTrailer (b w : List ℕ) (distance : ℕ) : Type 0 where
  pub whole : length w ≡ state_size
  pub sized : length b ≡ trailer_size
  pub few : distance ≤ file_most
