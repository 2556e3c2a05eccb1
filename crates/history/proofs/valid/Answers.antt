-- `valid` tests the trailer, the distance, the table, the number of records, and the records.
use mathlib.Core.Path.{◌≡◌, refl, sym, ◌∙◌}
use mathlib.Core.Bool.{Bool, true, false}
use mathlib.Core.List.{List}
use Prim.Native.Nat.{ℕ, ◌+◌, ◌≤◌}
use lib.Dec.{leb}
use borrow.Author.Tests.{not-true, not-false, leb-true, leb-false}
use Rattle.timestamp_order.specs.Order.{rank}
use Rattle.history_file.specs.File.{trailer_size}
use Rattle.history_file.specs.Reading.{distance_read, lead_size, places_read, part_read, trailer_fits, sites_read, items_read}
use Rattle.history_file.proofs.Files.{trailed, valid_untrailed, valid_near, valid_untabled, valid_many, valid_by_records}
use Rattle.history.proofs.valid.Goals as goal

-- that the distance reaches over the table
room : (b : List ℕ) (r : Bool) → r ≡ leb (lead_size b + trailer_size) (distance_read b) → r ≡ true → lead_size b + trailer_size ≤ distance_read b
room b r told is = leb-true (lead_size b + trailer_size) (distance_read b) (sym told ∙ is)

pub returns-then-not-trailer_fits : goal.returns-then-not-trailer_fits
returns-then-not-trailer_fits c =
    valid_untrailed c.args.b.now c.trailer_fits.result c.trailer_fits.ensures (not-true c.trailer_fits.result c.if-not-trailer_fits.true-raw)

pub returns-then-not-reaches : goal.returns-then-not-reaches
returns-then-not-reaches c =
    let b = c.args.b.now in
    let near : leb (lead_size b + trailer_size) (distance_read b) ≡ false = sym c.reaches.ensures ∙ not-true c.reaches.result c.if-not-reaches.true-raw in
    valid_near b c.trailer_fits.result c.trailer_fits.ensures (not-false c.trailer_fits.result c.if-not-trailer_fits.false-raw) (lead_size b) (distance_read b) refl refl (leb-false (lead_size b + trailer_size) (distance_read b) near)

pub table_fits-requires : goal.table_fits-requires
table_fits-requires c =
    record { long = c.requires.long; room = room c.args.b.now c.reaches.result c.reaches.ensures (not-false c.reaches.result c.if-not-reaches.false-raw); high = c.requires.high }

pub returns-then-not-table_fits : goal.returns-then-not-table_fits
returns-then-not-table_fits c =
    let b = c.args.b.now in
    valid_untabled b c.trailer_fits.result c.trailer_fits.ensures (not-false c.trailer_fits.result c.if-not-trailer_fits.false-raw) (lead_size b) (distance_read b) refl refl (room c.args.b.now c.reaches.result c.reaches.ensures (not-false c.reaches.result c.if-not-reaches.false-raw)) c.table_fits.result c.table_fits.ensures (not-true c.table_fits.result c.if-not-table_fits.true-raw)

pub returns-then-n-gt256 : goal.returns-then-n-gt256
returns-then-n-gt256 c =
    let b = c.args.b.now in
    valid_many b c.trailer_fits.result c.trailer_fits.ensures (not-false c.trailer_fits.result c.if-not-trailer_fits.false-raw) (lead_size b) (distance_read b) refl refl (room c.args.b.now c.reaches.result c.reaches.ensures (not-false c.reaches.result c.if-not-reaches.false-raw)) c.table_fits.result c.table_fits.ensures (not-false c.table_fits.result c.if-not-table_fits.false-raw) c.records_said-n.result c.records_said-n.ensures c.if-n-gt256.true

pub filled-requires : goal.filled-requires
filled-requires c =
    let b = c.args.b.now in
    let fits : trailer_fits b ≡ true = sym c.trailer_fits.ensures ∙ not-false c.trailer_fits.result c.if-not-trailer_fits.false-raw in
    record { led = record { long = c.requires.long; room = room c.args.b.now c.reaches.result c.reaches.ensures (not-false c.reaches.result c.if-not-reaches.false-raw); high = c.requires.high }; few = (trailed b fits).few_sites }

pub returns : goal.returns
returns c =
    let b = c.args.b.now in
    valid_by_records b c.trailer_fits.result c.trailer_fits.ensures (not-false c.trailer_fits.result c.if-not-trailer_fits.false-raw) (lead_size b) (distance_read b) refl refl (room c.args.b.now c.reaches.result c.reaches.ensures (not-false c.reaches.result c.if-not-reaches.false-raw)) c.table_fits.result c.table_fits.ensures (not-false c.table_fits.result c.if-not-table_fits.false-raw) c.records_said-n.result c.records_said-n.ensures c.if-n-gt256.false (part_read b) refl (rank (places_read b)) refl (sites_read b) (items_read b) refl refl c.filled.result c.filled.ensures
