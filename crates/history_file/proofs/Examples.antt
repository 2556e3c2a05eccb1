-- The worked examples of the file, as facts of the definitions.
use mathlib.Core.Path.{◌≡◌, refl}
use Rattle.words.specs.Words.{chunks}
use Rattle.timestamp_order.specs.Order.{number_order, place_order, pair_order, tuples_order, order_by}
use Rattle.timestamp_order.specs.Made.{rising, made_by}
use Rattle.records.specs.Records.{record_fits}
use Rattle.site_operations.specs.Operations.{worked}
use Rattle.timestamp_order.specs.Timestamp.{appended_or_same, raised_or_same}
use Rattle.placement.specs.Placement.{item_number, is_line, has_parents}
use Rattle.placement.specs.Places.{order_from, places_of, place_of, cyclic, placement_number}
use Rattle.protocol.specs.Steps.{set_up_number, set_up_network, commit_number, commit_network, dummy_number, dummy_network, deliver_number, deliver_network, schedule_number, earliest, schedule_network}
use Rattle.protocol.specs.Earliest.{earliest_stamp}
use Rattle.protocol.specs.Collect.{collect_number, collect_network}
use Rattle.protocol.specs.Calls.{perform}
use Rattle.history_file.specs.Bytes.{value_bytes, unit, number_at}
use Rattle.history_file.specs.File.{record_bytes, lead, flag, trailer, file_of}
use Rattle.history_file.specs.Reading.{size_read, record_read, record_valid, records_fill, places_read, part_read, holds_each, table_fits, valid, file_number}
use Rattle.history_file.specs.Example.{example_state, file_after, example_bytes, table_state, table_bytes, folded_state, folded_bytes, both_state, both_bytes, LeadsRefused}

pub example_bytes_lem : file_after example_state ≡ example_bytes
unfolding worked raised_or_same item_number is_line order_from places_of cyclic placement_number set_up_number set_up_network commit_number commit_network perform unit record_bytes lead flag trailer file_of
example_bytes_lem = refl

pub example_accepted : file_number example_bytes ≡ 0
unfolding chunks rising made_by record_fits number_at size_read record_read record_valid records_fill places_read part_read table_fits valid file_number
example_accepted = refl

pub table_bytes_lem : file_after table_state ≡ table_bytes
unfolding item_number is_line order_from places_of cyclic placement_number set_up_number set_up_network perform lead flag trailer file_of
table_bytes_lem = refl

pub table_accepted : file_number table_bytes ≡ 0
unfolding number_at records_fill places_read part_read holds_each table_fits valid file_number
table_accepted = refl

pub folded_bytes_lem : (file_after folded_state ≡ folded_bytes) × (file_after both_state ≡ both_bytes)
unfolding number_order place_order pair_order tuples_order order_by appended_or_same raised_or_same worked item_number is_line has_parents order_from places_of place_of cyclic placement_number set_up_number set_up_network commit_number commit_network dummy_number dummy_network deliver_number deliver_network schedule_number earliest schedule_network earliest_stamp collect_number collect_network perform value_bytes unit record_bytes lead flag trailer file_of
folded_bytes_lem = (refl, refl)

pub folded_accepted : (file_number folded_bytes ≡ 0) × (file_number both_bytes ≡ 0)
unfolding chunks rising made_by record_fits number_at size_read record_read record_valid records_fill places_read part_read holds_each table_fits valid file_number
folded_accepted = (refl, refl)

pub leads_refused : LeadsRefused
unfolding number_at records_fill places_read part_read holds_each table_fits valid file_number
leads_refused =
    record {
      place_twice = refl;
      place_missing = refl;
      numbers = refl;
      flag_of_4 = refl;
      too_near = refl;
      no_values = refl;
      values_too_near = refl;
      values_unsaid = refl;
    }
