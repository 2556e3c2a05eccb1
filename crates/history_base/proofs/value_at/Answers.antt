-- `value_at` is the number in four bytes, as a value.
use mathlib.Core.Path.{◌≡◌, sym, ap, ◌∙◌}
use Prim.Native.Nat.{◌+◌, ◌*◌}
use native.Mathlib.Omega.{arith}
use mir.Val.{to_z}
use mir.Syntax.{w32}
use Rattle.history_file.specs.Bytes.{number_at, value_size}
use Rattle.history_file.proofs.Held.{passed_on}
use Rattle.history_file.proofs.OnlyFile.{number_part}
use Rattle.history_base.proofs.value_at.Goals as goal

pub returns : goal.returns
returns c =
    let A = c.args in
    let at = A.x * value_size in
    let is : c.number.result ≡ number_at A.b.now at = c.number.ensures in
    let first : at + 0 ≡ at = omega arith in
    passed_on c.value.result _ (record { sfits = c.value.type_inv })
    (c.value.ensures ∙ ap (to_z w32) (is ∙ sym (number_part A.b.now at value_size 0 (omega arith) ∙ ap (number_at A.b.now) first)))
