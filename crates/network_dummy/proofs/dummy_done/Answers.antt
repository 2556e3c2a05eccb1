-- `dummy_done` raises the site's count and sends the dummy to the children.
use mathlib.Core.Path.{refl, ◌∙◌}
use Rattle.network_layout.specs.At.{AtState}
use Rattle.network_layout.proofs.OnNetwork.{at_state, at_site}
use Rattle.network_dummy.proofs.DummyLaws.{room_after, done_by}
use borrow.Author.Rules.{rules}
use Rattle.network_dummy.proofs.dummy_done.Goals as goal

pub children-mask-requires : goal.children-mask-requires
children-mask-requires c =
    let at : AtState c.args.state.now = at_state c.args.state.now c.requires.net in
    search rules

pub raise-t-requires : goal.raise-t-requires
raise-t-requires c =
    at_site c.args.state.now c.requires.net c.args.site c.args.site refl c.requires.allowed.there

pub send_all-requires : goal.send_all-requires
send_all-requires c =
    let A = c.args in
    let at = at_site A.state.now c.requires.net A.site A.site refl c.requires.allowed.there in
    record {
      sized = c.raise-t.auto.state ∙ at.sized;
      ranged = c.raise-t.ensures.step.ranged;
      from = at.few;
      room = room_after A.state.now A.site c.requires c.children-mask.result c.children-mask.ensures c.raise-t.new.state c.raise-t.result c.raise-t.ensures;
    }

pub returns : goal.returns
returns c =
    let A = c.args in
    done_by A.state.now A.site c.requires c.children-mask.result c.children-mask.ensures c.raise-t.new.state c.raise-t.result c.raise-t.ensures c.send_all.new.state c.send_all.ensures
