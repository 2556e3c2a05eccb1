-- `fold_away` folds, renames and removes, each by the same table.
use mathlib.Core.Path.{ap, ◌∙◌}
use mathlib.Core.List.{map}
use lib.ListN.{length}
use Rattle.lists.specs.Lists.{count_below}
use Rattle.protocol.specs.Network.{Network, with_lines}
use Rattle.protocol.proofs.WellShaped.{shape_parts}
use Rattle.network_layout.specs.InWords.{network_in}
use Rattle.network_layout.proofs.OnNetwork.{well_on, at_state}
use Rattle.line_renaming.specs.Renaming.{line_renamed_by}
use Rattle.network_renaming.specs.Renamed.{some_gone}
use Rattle.network_removal.specs.Removed.{goes_by, without_gone}
use Rattle.network_collect.proofs.CollectLaws.{count_is, network_is}
use Rattle.network_collect.proofs.fold_away.Goals as goal

pub fold-requires : goal.fold-requires
fold-requires c = record { at = at_state c.args.state.now c.requires.net; names_are = c.requires.names_are; places_are = c.requires.places_are }

pub rename-requires : goal.rename-requires
rename-requires c =
    record {
      at = record { sized = c.fold.auto.state ∙ c.requires.net.sized; ranged = c.fold.ensures.ranged };
      none = ap (some_gone c.args.names.now) c.fold.ensures.meant ∙ c.requires.none;
    }

pub returns : goal.returns
returns c =
    let S = c.requires in
    let w = c.args.state.now in
    let n = network_in w in
    let names = c.args.names.now in
    let shape = shape_parts n (well_on w S.net) in
    let before = c.rename.ensures.meant ∙ ap (λ (m : Network). with_lines m (map (line_renamed_by names) m.lines)) c.fold.ensures.meant in
    record {
      meant = c.remove.ensures.meant ∙ ap (without_gone names) before ∙ network_is n shape names S.names_are S.none;
      ranged = c.remove.ensures.ranged;
      count = c.remove.ensures.count ∙ ap (λ (m : Network). count_below (goes_by names) (length m.history)) before ∙ count_is n shape names S.names_are S.none;
    }
