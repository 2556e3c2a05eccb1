-- `commit_words` refuses with the first cause from 9 on, or does the commit.
use mathlib.Core.Path.{refl, sym}
use lib.ListN.{length}
use borrow.Author.Tests.{lt-leb}
use Rattle.site_operations.specs.InWords.{ops_in}
use Rattle.network_layout.specs.InWords.{network_in}
use Rattle.protocol.proofs.Allowed.{causes_allowed}
use Rattle.network_commit.proofs.CommitLaws.{not_tried}
use Rattle.network_commit.proofs.commit_words.Goals as goal

pub returns-in_err-commit_cause : goal.returns-in_err-commit_cause
returns-in_err-commit_cause c =
    let A = c.args in
    not_tried (network_in A.state.now) A.site (ops_in A.n A.ops.now) A.state.now refl c.from_residual.result c.in_err-commit_cause.field-0.0 c.from_residual.ensures.1 c.in_err-commit_cause.ensures

pub commit_done-requires : goal.commit_done-requires
commit_done-requires c =
    let A = c.args in
    let n = network_in A.state.now in
    record {
      masked = record { at = c.requires; mask_is = c.due_mask-mask.ensures };
      allowed = causes_allowed n A.site (ops_in A.n A.ops.now) (lt-leb (length n.sites) A.site c.requires.there) (sym c.in_ok-commit_cause.ensures);
    }

pub returns : goal.returns
returns c = record { number_is = c.in_ok-commit_cause.ensures; done = c.commit_done.ensures; kept = tt }
