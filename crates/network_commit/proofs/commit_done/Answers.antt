-- `commit_done` works the commit, sends its message and gathers the values read.
use mathlib.Core.Path.{◌≡◌, refl, sym, ap, subst, ◌∙◌}
use mathlib.Core.Bool.{Bool, true, cond}
use native.Mathlib.Omega.{arith}
use lib.ListN.{length, get_or}
use lib.Dec.{ltb}
use borrow.Author.Tests.{lt-ltb}
use Rattle.limits.specs.Limits.{sites_most, items_most, records_most}
use Rattle.lists.specs.Lists.{every}
use Rattle.timestamp.specs.Value.{stamp_of}
use Rattle.site_operations.specs.Operations.{values_read}
use Rattle.site_operations.specs.InWords.{ops_in}
use Rattle.placement.specs.Masks.{bit}
use Rattle.records.specs.Records.{op_fits}
use Rattle.records.proofs.Laws.{fits_more}
use Rattle.protocol.proofs.Keeps.{ops_fit}
use Rattle.messages.specs.Messages.{Message, commit as commitMessage, dummy}
use Rattle.network_layout.specs.InWords.{network_in, SentStep}
use Rattle.network_layout.specs.At.{AtSite}
use Rattle.network_layout.proofs.Performs.{records_count}
use Rattle.network_layout.proofs.OnNetwork.{at_site, few_items_on}
use Rattle.network_commit.proofs.CommitLaws.{room_now, network_now}
use Rattle.network_commit.proofs.commit_done.Goals as goal

pub work-worked-requires : goal.work-worked-requires
work-worked-requires c =
    let site : AtSite c.args.state.now c.args.site = at_site c.args.state.now c.requires.masked.at.net c.args.site c.args.site refl c.requires.allowed.there in
    let os = ops_in c.args.n c.args.ops.now in
    let items = (network_in c.args.state.now).items in
    let asked = c.requires.masked.at in
    record {
      sized = site.sized;
      ranged = site.ranged;
      there = site.there;
      few = site.few;
      room = omega (arith, c.requires.allowed.room, records_count c.args.state.now);
      some_ops = asked.some_ops;
      few_ops = asked.few_ops;
      -- a record has room for them, since there are at most 64 items
      fitting = fits_more (length items) items_most (few_items_on c.args.state.now c.requires.masked.at.net) os (ops_fit items c.args.site os c.requires.allowed.each_op);
    }

pub send_all-requires : goal.send_all-requires
send_all-requires c =
    let at : AtSite c.args.state.now c.args.site = at_site c.args.state.now c.requires.masked.at.net c.args.site c.args.site refl c.requires.allowed.there in
    let A = c.args in
    let done = c.work-worked in
    record {
      sized = done.auto.state ∙ at.sized;
      ranged = done.ensures.ranged;
      from = at.few;
      room = room_now A.state.now A.site A.n A.mask (ops_in A.n A.ops.now) c.requires done.new.state done.result.stamp (ops_in A.n done.result.ops) done.ensures;
    }

pub returns : goal.returns
returns c =
    let A = c.args in
    let w = A.state.now in
    let os = ops_in A.n A.ops.now in
    let done = c.work-worked in
    let t = stamp_of done.result.stamp in
    let name = get_or w 2 0 in
    let named : cond (ltb name records_most) (commitMessage name) (dummy t) ≡ commitMessage name
    = ap (λ (b : Bool). cond b (commitMessage name) (dummy t)) (lt-ltb name records_most (omega (arith, records_count w, c.requires.allowed.room))) in
    record {
      stamp_is = done.ensures.stamp_is;
      values_are = c.values_read-given.ensures.values_value ∙ ap values_read done.ensures.ops_are;
      filled = c.values_read-given.ensures.filled;
      network_is = network_now w A.site A.n A.mask os c.requires done.new.state done.result.stamp (ops_in A.n done.result.ops) done.ensures name (sym (records_count w)) c.send_all.new.state
          (subst (λ (m : Message). SentStep done.new.state c.send_all.new.state (bit A.mask) A.site m sites_most) named c.send_all.ensures);
      ranged = c.send_all.ensures.ranged;
    }
