-- `raise` has the site raise its count, and reads its timestamp.
use mathlib.Core.Path.{ap, subst, ◌∙◌}
use Prim.Native.Nat.{ℕ}
use native.Mathlib.Omega.{arith}
use Rattle.timestamp.proofs.Plain.{plain_as}
use Rattle.site.specs.Site.{dummied}
use Rattle.protocol.specs.Network.{site_at}
use Rattle.network_layout.specs.InWords.{network_in, SiteStep}
use Rattle.network_layout.specs.At.{AtSite}
use Rattle.network_layout.proofs.Performs.{site_step_below}
use borrow.Author.Rules.{rules}
use Rattle.network_dummy.proofs.raise.Goals as goal
use Rattle.network_dummy.proofs.raise.Goals.{After-site_dummy}

-- the site's step, at the number that was asked for
stepped : (c : After-site_dummy) → SiteStep c.args.state.now c.site_dummy.new.state c.args.site dummied
stepped c =
    let w = c.args.state.now in
    subst (λ (k : ℕ). SiteStep w c.site_dummy.new.state k dummied) c.wide-i.ensures c.site_dummy.ensures

pub site_stamp-requires : goal.site_stamp-requires
site_stamp-requires c =
    let A = c.args in
    let i = c.wide-i.result in
    let below = site_step_below A.state.now c.site_dummy.new.state A.site dummied (stepped (goal.at.site_stamp-requires c).After-site_dummy) in
    let at : AtSite c.site_dummy.new.state i
    = record {
      sized = c.site_dummy.auto.state ∙ c.requires.sized;
      ranged = (stepped (goal.at.site_stamp-requires c).After-site_dummy).ranged;
      there = omega (arith, c.wide-i.ensures, c.requires.there, below);
      few = omega (arith, c.wide-i.ensures, c.requires.few);
    } in
    search rules

pub returns : goal.returns
returns c =
    let v = c.site_dummy.new.state in
    record { step = stepped (goal.at.returns c).After-site_dummy; stamp_is = plain_as (ap (λ (k : ℕ). (site_at (network_in v) k).stamp) c.wide-i.ensures) c.site_stamp.ensures }
