-- `work` has the site work the operations, reads its timestamp and adds the record.
use mathlib.Core.Path.{◌≡◌, ap, subst₂, ◌∙◌, refl}
use mathlib.Core.List.{List}
use Prim.Native.Nat.{ℕ, min, ◌≤◌, ◌<◌}
use native.Mathlib.Omega.{arith}
use lib.ListN.{length, get_or}
use mathlib.Core.Bool.{true}
use Rattle.limits.specs.Limits.{items_most, ops_most, records_most}
use Rattle.lists.specs.Lists.{every}
use Rattle.timestamp.specs.declared.Timestamp.{Timestamp}
use Rattle.timestamp.specs.Value.{stamp_of, PlainValue}
use Rattle.timestamp.proofs.Plain.{plain_as}
use Rattle.site_operations.specs.Operations.{Op, worked}
use Rattle.site.specs.Site.{committed}
use Rattle.site_operations.specs.InWords.{ops_in}
use Rattle.records.specs.Records.{Record, op_fits}
use Rattle.protocol.specs.Network.{Network, site_at, with_site, with_record}
use Rattle.protocol.specs.Steps.{record_of}
use Rattle.protocol.proofs.Keeps.{worked_fits}
use Rattle.network_layout.specs.InWords.{network_in, SiteStep}
use Rattle.network_layout.specs.At.{AtSite}
use Rattle.network_layout.proofs.Performs.{sites_count, records_count, site_step_below}
use Rattle.network_work.specs.Work.{WorkReady}
use Rattle.network_work.proofs.WorkLaws.{stamp_now, history_now}
use borrow.Author.Rules.{rules}
use Rattle.network_work.proofs.work.Goals as goal

all : (n : ℕ) → n ≤ ops_most → min n ops_most ≡ n
all n h = omega arith

-- the site's step and the operations as recorded, at the numbers that were asked for
module _ (w ops : List ℕ) (site n i : ℕ) (is : i ≡ site) (few : n ≤ ops_most) where
  stepped : (v : List ℕ) → SiteStep w v i (committed (ops_in (min n ops_most) ops)) → SiteStep w v site (committed (ops_in n ops))
  stepped v s = subst₂ (λ (k m : ℕ). SiteStep w v k (committed (ops_in m ops))) is (all n few) s

  recorded : (done : List ℕ) → ops_in (min n ops_most) done ≡ (worked (site_at (network_in w) i).table (ops_in (min n ops_most) ops)).ops → ops_in n done ≡ (record_of (network_in w) site (ops_in n ops)).ops
  recorded done e = subst₂ (λ (k m : ℕ). ops_in m done ≡ (worked (site_at (network_in w) k).table (ops_in m ops)).ops) is (all n few) e

there : (w : List ℕ) (site n : ℕ) (os : List Op) → WorkReady w site n os → site < length (network_in w).sites
there w site n os ready = omega (arith, ready.there, sites_count w)

-- the timestamp that is read is the commit's
stamped : (w v : List ℕ) (site n i : ℕ) (os : List Op) (t : Timestamp) → WorkReady w site n os → i ≡ site → SiteStep w v site (committed os) → PlainValue (site_at (network_in v) i).stamp t → PlainValue (record_of (network_in w) site os).stamp t
stamped w v site n i os t ready is s = plain_as (ap (λ (k : ℕ). (site_at (network_in v) k).stamp) is ∙ stamp_now w site os (there w site n os ready) v s)

pub site_stamp-t-requires : goal.site_stamp-t-requires
site_stamp-t-requires c =
    let A = c.args in
    let stepped_now = stepped A.state.now A.ops.now A.site A.n A.site refl c.requires.few_ops c.site_commit-done.new.state c.site_commit-done.ensures.site_step in
    let below = site_step_below A.state.now c.site_commit-done.new.state A.site (committed (ops_in A.n A.ops.now)) stepped_now in
    let at : AtSite c.site_commit-done.new.state A.site
    = record {
      sized = c.site_commit-done.auto.state ∙ c.requires.sized;
      ranged = stepped_now.ranged;
      there = omega (arith, c.requires.there, below);
      few = c.requires.few;
    } in
    search rules

pub add_record-requires : goal.add_record-requires
add_record-requires c =
    let A = c.args in
    let v = c.site_commit-done.new.state in
    let n = c.short in
    let table = (site_at (network_in A.state.now) A.site).table in
    let os = ops_in A.n A.ops.now in
    let stepped_now = stepped A.state.now A.ops.now A.site A.n A.site refl c.requires.few_ops c.site_commit-done.new.state c.site_commit-done.ensures.site_step in
    let recorded_now = recorded A.state.now A.ops.now A.site A.n A.site refl c.requires.few_ops c.site_commit-done.result c.site_commit-done.ensures.ops_laid.ops_are in
    let same = ap (λ (h : List Record). length h) (history_now A.state.now A.site os (there A.state.now A.site A.n os c.requires) v stepped_now) in
    let count : min n.result ops_most ≡ A.n = omega (arith, n.ensures, c.requires.few_ops) in
    record {
      sized = c.site_commit-done.auto.state ∙ c.requires.sized;
      ranged = stepped_now.ranged;
      room = omega (arith, records_count v, records_count A.state.now, same, c.requires.room);
      some = omega (arith, n.ensures, c.requires.some_ops);
      few = omega (arith, n.ensures, c.requires.few_ops);
      fitting = ap (every (op_fits items_most)) (ap (λ (m : ℕ). ops_in m c.site_commit-done.result) count ∙ recorded_now) ∙ worked_fits items_most table os ∙ c.requires.fitting;
    }

pub returns : goal.returns
returns c =
    let A = c.args in
    let os = ops_in A.n A.ops.now in
    let n = network_in A.state.now in
    let stepped_now = stepped A.state.now A.ops.now A.site A.n A.site refl c.requires.few_ops c.site_commit-done.new.state c.site_commit-done.ensures.site_step in
    let recorded_now = recorded A.state.now A.ops.now A.site A.n A.site refl c.requires.few_ops c.site_commit-done.result c.site_commit-done.ensures.ops_laid.ops_are in
    let stamped_now = stamped A.state.now c.site_commit-done.new.state A.site A.n A.site os c.site_stamp-t.result c.requires refl stepped_now c.site_stamp-t.ensures in
    let count : min c.short.result ops_most ≡ A.n = omega (arith, c.short.ensures, c.requires.few_ops) in
    let ops = ap (λ (m : ℕ). ops_in m c.site_commit-done.result) count ∙ recorded_now in
    let added-record : Record = record { site = A.site; stamp = stamp_of c.site_stamp-t.result; ops = ops_in (min c.short.result ops_most) c.site_commit-done.result } in
    let same : added-record ≡ record_of n A.site os = λ j. record { site = A.site; stamp = stamped_now.means j; ops = ops j } in
    let middle : Network = with_site n A.site (committed os (site_at n A.site)) in
    record {
      network_is = c.add_record.ensures.meant ∙ ap (λ (m : Network). with_record m added-record) stepped_now.meant ∙ ap (with_record middle) same;
      ranged = c.add_record.ensures.ranged;
      stamp_is = stamped_now;
      ops_are = recorded_now;
    }
