-- `number` puts four bytes together.
use Rattle.history_file.specs.Bytes.{number_at}
use borrow.Author.Rules.{rules}
use Rattle.history_numbers.proofs.number.Goals as goal

pub returns : goal.returns
unfolding number_at
returns c = search rules
