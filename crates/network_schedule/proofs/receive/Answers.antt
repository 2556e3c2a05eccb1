-- `receive` hands the writes that the site wants to it.
use Rattle.timestamp.specs.Value.{stamp_of}
use Rattle.protocol.specs.Steps.{head, writes_for}
use Rattle.network_layout.specs.InWords.{network_in}
use Rattle.network_layout.specs.At.{AtSite}
use Rattle.network_choice.proofs.ChoiceLaws.{child_site}
use Rattle.network_schedule.proofs.ScheduleLaws.{receives}
use borrow.Author.Rules.{rules}
use Rattle.network_schedule.proofs.receive.Goals as goal

pub site_receive-requires : goal.site_receive-requires
site_receive-requires c =
    let A = c.args in
    let at : AtSite A.state.now c.wide.result = child_site A.state.now A.j c.requires.free c.wide.result c.wide.ensures in
    search rules

pub returns : goal.returns
returns c =
    let A = c.args in
    let n = network_in A.state.now in
    let out = c.head_writes-wanted.result in
    receives A.state.now c.site_receive.new.state c.wide.result A.j c.wide.ensures out.count out.ops (writes_for n A.j (head n A.p A.j)) c.head_writes-wanted.ensures (stamp_of A.t) c.site_receive.ensures
