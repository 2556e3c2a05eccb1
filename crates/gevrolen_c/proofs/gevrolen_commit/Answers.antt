-- `gevrolen_commit` gathers the operations, and lays what their commit answers.
use mathlib.Core.List.{map}
use Rattle.network_operations.proofs.GatherLaws.{gathered_few}
use Rattle.c_operations.specs.Operations.{operation_of}
use Rattle.gevrolen_c.proofs.AnswerLaws.{committed_call}
use borrow.Author.Rules.{rules}
use Rattle.gevrolen_c.proofs.gevrolen_commit.Goals as goal

pub commit_gathered-given-requires : goal.commit_gathered-given-requires
commit_gathered-given-requires c =
    let g = c.gather-gathered in
    gathered_few (map operation_of c.args.operations.now) g.result g.ensures

pub put_committed-requires : goal.put_committed-requires
put_committed-requires c =
    record { sized = search rules; filled = (c.commit_gathered-given.ensures (map operation_of c.args.operations.now) c.gather-gathered.ensures).filled }

pub returns : goal.returns
returns c =
    let ws = c.args.operations.now in
    let e = c.commit_gathered-given.ensures in
    let said = c.put_committed.ensures in
    committed_call _ _ _ _ _ _ _ (e (map operation_of ws) c.gather-gathered.ensures).performed _ _ said.0 said.1
