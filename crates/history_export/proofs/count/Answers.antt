-- `count` is the number of the records.
use mathlib.Core.Path.{◌∙◌}
use native.Mathlib.Omega.{arith}
use Rattle.network_layout.proofs.Performs.{records_count}
use Rattle.history_file.proofs.Exports.{few_records}
use Rattle.history_export.proofs.count.Goals as goal

pub returns : goal.returns
returns c =
    let w = c.args.state.now in
    record {
      whole = c.requires.sized;
      all = c.wide.ensures ∙ c.record_count.ensures;
      few = omega (arith, c.wide.ensures, c.record_count.ensures, records_count w, few_records w c.requires.formed);
    }
