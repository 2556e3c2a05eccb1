-- `gevrolen_commit_lists` lays the timestamp and the values that the commit answers.
use Rattle.gevrolen_c.proofs.AnswerLaws.{committed_call}
use Rattle.gevrolen_c.proofs.gevrolen_commit_lists.Goals as goal

pub returns : goal.returns
returns c =
    let e = c.commit-given.ensures in
    let said = c.put_committed.ensures in
    committed_call _ _ _ _ _ _ _ e.performed _ _ said.0 said.1
