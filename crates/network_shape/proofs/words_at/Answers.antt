-- `words_at` lends a part of the words.
use Rattle.words.proofs.Parts.{lent_part}
use Rattle.network_shape.proofs.words_at.Goals as goal

pub returns : goal.returns
returns c = let A = c.args in lent_part A.state.now A.at A.n
