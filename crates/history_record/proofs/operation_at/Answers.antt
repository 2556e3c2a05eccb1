-- `operation_at` reads the fields of an eight of bytes.
use mathlib.Core.Path.{◌∙◌}
use Rattle.history_file.proofs.Held.{op_kind, op_item, op_value, passed_on}
use Rattle.history_record.proofs.operation_at.Goals as goal

pub returns : goal.returns
returns c =
    let A = c.args in
    record {
      kind_is = op_kind A.b.now A.i;
      item_is = c.wide.ensures ∙ op_item A.b.now A.i;
      value_is = passed_on c.value.result _ (record { sfits = c.value.type_inv }) (c.value.ensures ∙ op_value A.b.now A.i c.number.result c.number.ensures);
    }
