-- `gevrolen_origin` lays what the call answers.
use mathlib.Core.Path.{ap, ◌∙◌}
use Rattle.c_fields.specs.Fields.{origin_words}
use Rattle.gevrolen_c.proofs.gevrolen_origin.Goals as goal

pub returns : goal.returns
returns c =
    let e = c.origin.ensures in
    let said = c.put_origin.ensures in
    (rw said.0 e.performed, said.1 ∙ ap origin_words e.origin_is)
