-- The worked examples of a network whose places are not its numbers, by computation.
use mathlib.Core.Path.{refl}
use Rattle.timestamp_order.specs.Timestamp.{appended_or_same, raised_or_same}
use Rattle.timestamp_order.specs.Order.{number_order, place_order, pair_order, tuples_order, order_by}
use Rattle.timestamp_order.specs.Made.{rising, made_by}
use Rattle.site_operations.specs.Operations.{worked}
use Rattle.placement.specs.Placement.{item_number, is_line}
use Rattle.placement.specs.Places.{order_from, places_of, cyclic, placement_number}
use Rattle.records.specs.Records.{record_fits}
use Rattle.protocol.specs.Network.{place_of, line_fits, well_shaped}
use Rattle.protocol.specs.Steps.{set_up_number, set_up_network, commit_number, commit_network, deliver_network, schedule_network, earliest}
use Rattle.protocol.specs.Earliest.{earliest_stamp}
use Rattle.protocol.specs.Waiting.{is_waiting, earliest_write, waiting_items}
use Rattle.protocol.specs.Calls.{perform}
use Rattle.protocol.specs.Book.{noted}
use Rattle.protocol.specs.PlaceExamples.{PlaceHolds}

pub place_holds : PlaceHolds
unfolding appended_or_same raised_or_same worked is_line order_from places_of place_of order_by tuples_order pair_order place_order number_order set_up_number set_up_network commit_number commit_network deliver_network schedule_network earliest earliest_stamp is_waiting earliest_write waiting_items perform noted item_number placement_number cyclic line_fits well_shaped made_by rising record_fits
place_holds =
    record {
      schedule_by_place = refl;
      report_by_place = refl;
      run_by_place = refl;
      book_by_place = refl;
      point_by_place = refl;
      tuples_by_place = refl;
      still_shaped = refl;
    }
