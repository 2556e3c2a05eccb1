-- `lead_of` asks for the places, and whether they and the base values are written.
use mathlib.Core.Path.{sym, ap, ap₂, ◌∙◌}
use mathlib.Core.Bool.{cond}
use mathlib.Core.List.{List}
use Prim.Native.Nat.{ℕ}
use native.Mathlib.Omega.{arith}
use lib.ListN.{take}
use Rattle.network_layout.proofs.Performs.{sites_count, items_count, shaped_range}
use Rattle.history_file.specs.File.{is_numbers}
use Rattle.history_file.proofs.Exports.{state_few}
use Rattle.history_lead.specs.Leads.{own}
use Rattle.history_lead.proofs.lead_of.Goals as goal

pub places-places-requires : goal.places-places-requires
places-places-requires c = record { sized = c.requires.sized; ranged = shaped_range c.args.state.now c.requires.formed }

pub table_size-table-requires : goal.table_size-table-requires
table_size-table-requires c =
    omega (arith, c.site_count.ensures, sites_count c.args.state.now, state_few c.args.state.now c.requires.formed)

pub returns : goal.returns
returns c =
    let w = c.args.state.now in
    record {
      places_are = c.places-places.ensures;
      table_is =
          c.table_size-table.ensures
          ∙ ap₂ (λ (k : ℕ) (l : List ℕ). cond (is_numbers (take k l)) 0 k) (c.site_count.ensures ∙ sym (sites_count w)) c.places-places.ensures;
      values_are = c.value_count-values.ensures ∙ ap (λ (k : ℕ). cond (own w).folded k 0) (sym (items_count w 0));
    }
