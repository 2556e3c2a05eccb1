-- `table_size` is the number of sites where there is a table.
use mathlib.Core.Path.{◌∙◌}
use native.Mathlib.Omega.{arith}
use Prim.Native.Nat.{◌+◌}
use Rattle.history_file.specs.Reading.{trailer_at, sites_read, has_table}
use Rattle.history_fields.proofs.LeadLaws.{size_some, size_none}
use Rattle.history_fields.proofs.table_size.Goals as goal

pub returns-then-has_table : goal.returns-then-has_table
returns-then-has_table c =
    let b = c.args.b.now in (
      size_some (has_table b) c.has_table.result c.has_table.ensures (sites_read b) c.if-has_table.true c.wide.result (c.wide.ensures ∙ c.sites_said.ensures),
      omega (arith, c.wide.ensures, c.sites_said.ensures, c.shared_slice_known-1.given (trailer_at b + 12)),
    )

pub returns : goal.returns
returns c =
    let b = c.args.b.now in
    (size_none (has_table b) c.has_table.result c.has_table.ensures (sites_read b) c.if-has_table.false, omega arith)
