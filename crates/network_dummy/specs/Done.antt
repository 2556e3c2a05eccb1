-- What the parts of a dummy's code ask and say.
use Rattle.std.specs.Prelude.{◌≡◌, true, List, ℕ}
use Rattle.timestamp.specs.declared.Timestamp.{Timestamp}
use Rattle.timestamp.specs.Value.{PlainValue}
use Rattle.site.specs.Site.{dummied}
use Rattle.protocol.specs.Network.{site_at}
use Rattle.protocol.specs.Steps.{dummy_network}
use Rattle.protocol.specs.Allowed.{DummyAllowed}
use Rattle.network_layout.specs.InWords.{network_in, in_range, SiteStep}
use Rattle.network_layout.specs.At.{AtNetwork}

-- the words of a network on which no cause refuses the dummy
pub record DummyReady (w : List ℕ) (i : ℕ) : Type 0 where
  pub net : AtNetwork w
  pub allowed : DummyAllowed (network_in w) i

-- the site's own count one higher, and its timestamp then
pub record Raised (entry exit : List ℕ) (i : ℕ) (stamp : Timestamp) : Type 0 where
  pub step : SiteStep entry exit i dummied
  pub stamp_is : PlainValue (site_at (network_in exit) i).stamp stamp

pub record DummyDone (entry exit : List ℕ) (i : ℕ) (stamp : Timestamp) : Type 0 where
  pub network_is : network_in exit ≡ dummy_network (network_in entry) i
  pub ranged : in_range exit ≡ true
  pub stamp_is : PlainValue (site_at (dummy_network (network_in entry) i) i).stamp stamp
