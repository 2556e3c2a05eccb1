-- The worked examples of tables, waiting report and collect, by computation.
use mathlib.Core.Path.{refl}
use Rattle.timestamp_order.specs.Timestamp.{appended_or_same, raised_or_same}
use Rattle.timestamp_order.specs.Order.{number_order, place_order, pair_order, tuples_order, order_by}
use Rattle.site_operations.specs.Operations.{worked}
use Rattle.placement.specs.Placement.{item_number, is_line, has_parents}
use Rattle.placement.specs.Places.{order_from, places_of, cyclic, placement_number}
use Rattle.protocol.specs.Network.{place_of}
use Rattle.protocol.specs.Steps.{set_up_number, set_up_network, commit_number, commit_network, dummy_number, dummy_network, deliver_number, deliver_network, schedule_number, schedule_network, earliest}
use Rattle.protocol.specs.Run.{shown}
use Rattle.protocol.specs.Earliest.{earliest_stamp}
use Rattle.protocol.specs.Collect.{collect_number, collect_network, removed_by}
use Rattle.protocol.specs.Calls.{perform}
use Rattle.protocol.specs.Book.{noted}
use Rattle.protocol.specs.Waiting.{is_waiting, earliest_write, waiting_items}
use Rattle.protocol.specs.Examples.{ExampleHolds}

pub example_holds : ExampleHolds
unfolding appended_or_same raised_or_same worked is_line set_up_network commit_network dummy_network deliver_network schedule_network earliest is_waiting earliest_stamp earliest_write waiting_items order_from places_of place_of order_by tuples_order pair_order place_order number_order shown collect_network collect_number removed_by perform noted set_up_number commit_number dummy_number deliver_number schedule_number placement_number item_number cyclic has_parents
example_holds =
    record {
      written = refl;
      sent = refl;
      none_else = refl;
      arrived = refl;
      copied = refl;
      left = refl;
      in_order = refl;
      still = refl;
      one_commit = refl;
      two_commits = refl;
      none_folded = refl;
      folded = refl;
      removed = refl;
      no_lines = refl;
      accepted = refl;
      renamed = refl;
      base_stays = refl;
      kept_run = refl;
      refused = refl;
      in_turn_lem = refl;
      marked = refl;
      booked = refl;
    }
