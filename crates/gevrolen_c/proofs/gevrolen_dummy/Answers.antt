-- `gevrolen_dummy` lays the timestamp that the dummy answers.
use Rattle.gevrolen_c.proofs.AnswerLaws.{dummied_call}
use Rattle.gevrolen_c.proofs.gevrolen_dummy.Goals as goal

pub returns : goal.returns
returns c =
    let said = c.put_stamp.ensures in
    dummied_call _ _ _ _ _ _ _ c.dummy.ensures.performed _ _ said.0 said.1
