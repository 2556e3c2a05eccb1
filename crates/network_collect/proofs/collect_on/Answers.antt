-- `collect_on` refuses where a message names a record that goes, and else folds it away with the others.
use mathlib.Core.Path.{◌≡◌, refl, sym, ap, ◌∙◌}
use mathlib.Core.Bool.{Bool, true, false}
use mathlib.Core.List.{List}
use Prim.Native.Nat.{ℕ}
use lib.ListN.{length}
use Rattle.lists.specs.Numbers.{number_if}
use Rattle.protocol.specs.Collect.{is_past, collect_number}
use Rattle.protocol.proofs.WellShaped.{shape_parts}
use Rattle.network_layout.specs.InWords.{network_in}
use Rattle.network_layout.specs.At.{AtNetwork}
use Rattle.record_names.specs.Names.{Names}
use Rattle.network_renaming.specs.Renamed.{some_gone}
use Rattle.network_layout.proofs.OnNetwork.{well_on, at_state}
use Rattle.network_collect.proofs.CollectLaws.{number_is, collect_refused, collect_done}
use borrow.Author.Rules.{rules}
use Rattle.network_collect.proofs.collect_on.Goals as goal

pub places-places-requires : goal.places-places-requires
places-places-requires c = let at = at_state c.args.state.now c.requires in search rules

pub some_gone-requires : goal.some_gone-requires
some_gone-requires c = at_state c.args.state.now c.requires

-- ---- whether a message names a record that goes
number : (w : List ℕ) → AtNetwork w → (names : List ℕ) → Names (is_past (network_in w)) (length (network_in w).history) names
    → (b t : Bool) → b ≡ some_gone names (network_in w) → b ≡ t → collect_number (network_in w) ≡ number_if t 6
number w net names named b t is told =
    sym (number_is (network_in w) (shape_parts (network_in w) (well_on w net)) names named) ∙ ap (λ (x : Bool). number_if x 6) (sym is ∙ told)

pub returns-then-some_gone : goal.returns-then-some_gone
returns-then-some_gone c =
    let w = c.args.state.now in
    let six = number w c.requires c.names-names.result c.names-names.ensures c.some_gone.result true c.some_gone.ensures c.if-some_gone.true in
    collect_refused w c.requires six

pub fold_away-requires : goal.fold_away-requires
fold_away-requires c =
    record { net = c.requires; names_are = c.names-names.ensures; none = sym c.some_gone.ensures ∙ c.if-some_gone.false; places_are = c.places-places.ensures }

pub returns : goal.returns
returns c =
    let w = c.args.state.now in
    let none = number w c.requires c.names-names.result c.names-names.ensures c.some_gone.result false c.some_gone.ensures c.if-some_gone.false in
    collect_done w c.requires none c.fold_away.new.state c.fold_away.result c.fold_away.ensures
