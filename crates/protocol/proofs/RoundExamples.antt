-- The worked examples of a round, by computation.
use mathlib.Core.Path.{refl}
use Rattle.timestamp_order.specs.Timestamp.{appended_or_same, raised_or_same}
use Rattle.timestamp_order.specs.Order.{number_order, place_order, pair_order, tuples_order, order_by}
use Rattle.site_operations.specs.Operations.{worked}
use Rattle.placement.specs.Placement.{item_number, is_line, has_parents}
use Rattle.placement.specs.Places.{order_from, places_of, cyclic, placement_number}
use Rattle.protocol.specs.Network.{place_of}
use Rattle.protocol.specs.Steps.{set_up_number, set_up_network, commit_number, commit_network, dummy_number, dummy_network, epoch_number, epoch_network, deliver_number, deliver_network, schedule_number, schedule_network, earliest}
use Rattle.protocol.specs.Round.{deliver_calls, schedule_calls, site_calls, round_calls, round_number, round_network, epoch_by}
use Rattle.protocol.specs.Calls.{perform}
use Rattle.protocol.specs.Book.{noted}
use Rattle.protocol.specs.RoundExamples.{RoundHolds}

pub round_holds : RoundHolds
unfolding appended_or_same raised_or_same worked is_line has_parents order_from places_of place_of order_by tuples_order pair_order place_order number_order cyclic item_number placement_number set_up_number set_up_network commit_number commit_network dummy_number dummy_network epoch_number epoch_network deliver_number deliver_network schedule_number schedule_network earliest deliver_calls schedule_calls site_calls round_calls round_number round_network epoch_by perform noted
round_holds =
    record {
      calls = refl;
      epoch_set = refl;
      stamps = refl;
      first_item = refl;
      second_item = refl;
      still_held = refl;
      book_stamps = refl;
      book_answers = refl;
      by_places = refl;
      above_all = refl;
      room_for_one = refl;
      line_full = refl;
      count_most = refl;
      epoch_most = refl;
      epoch_next = refl;
    }
