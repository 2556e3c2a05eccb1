-- `base_size` is four bytes for each item where base values are there.
use mathlib.Core.Path.{ap, ◌∙◌}
use Prim.Native.Nat.{ℕ, ◌+◌, ◌*◌}
use native.Mathlib.Omega.{arith}
use Rattle.history_file.specs.Bytes.{value_size}
use Rattle.history_file.specs.Reading.{trailer_at, items_read, has_base}
use Rattle.history_fields.proofs.LeadLaws.{size_some, size_none}
use Rattle.history_fields.proofs.base_size.Goals as goal

pub returns-then-has_base : goal.returns-then-has_base
returns-then-has_base c =
    let b = c.args.b.now in
    let items = c.wide.ensures ∙ c.items_said.ensures in (
      size_some (has_base b) c.has_base.result c.has_base.ensures (items_read b * value_size) c.if-has_base.true _ (ap (λ (k : ℕ). k * value_size) items),
      omega (arith, items, c.shared_slice_known-1.given (trailer_at b + 13)),
    )

pub returns : goal.returns
returns c =
    let b = c.args.b.now in
    (size_none (has_base b) c.has_base.result c.has_base.ensures (items_read b * value_size) c.if-has_base.false, omega arith)
