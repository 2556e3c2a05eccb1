-- `rename_line` changes one line of the network, as `rename` changes its words.
use mathlib.Core.Path.{ap, ◌∙◌}
use Rattle.line_renaming.specs.Renaming.{line_renamed_by}
use Rattle.network_layout.proofs.AccessLaws.{line_lent, line_stepped}
use Rattle.network_renaming.specs.Renamed.{line_gone}
use Rattle.network_renaming.proofs.rename_line.Goals as goal

pub rename-requires : goal.rename-requires
rename-requires c =
    let l = line_lent c.args.state.now c.args.k (record { sized = c.requires.at.sized; few = c.requires.at.few }) in
    record { none = ap (line_gone c.args.names.now) l.meant ∙ c.requires.none }

pub returns : goal.returns
returns c =
    let done = c.rename in
    line_stepped c.args.state.now c.args.k c.requires.at (line_renamed_by c.args.names.now) done.new.l done.auto.l done.ensures
