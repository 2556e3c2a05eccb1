-- What writing a network's file asks.
use Rattle.std.specs.Prelude.{◌≡◌, List, ℕ, ◌+◌, ◌*◌, ◌≤◌, length}
use Rattle.network_layout.specs.At.{AtNetwork}
use Rattle.history_file.specs.Bytes.{value_size}
use Rattle.history_file.specs.File.{trailer_size, body}
use Rattle.history_units.specs.Asked.{file_most}
use Rattle.history_lead.specs.declared.Lead.{Lead}
use Rattle.history_lead.specs.Leads.{own, Leads}

-- the bytes of its file, of which so many lead the records and so many stand before the trailer; and what leads it
pub record ForFile (b w : List ℕ) (given : Lead) (leading before : ℕ) : Type 0 where
  pub there : AtNetwork w
  pub leads : Leads w given
  pub led : leading ≡ given.table + given.values * value_size
  pub filled : before ≡ leading + length (body (own w))
  pub sized : length b ≡ before + trailer_size
  pub few : length b ≤ file_most
