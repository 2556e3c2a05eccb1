-- The table of worked examples, by computation.
use mathlib.Core.Path.{◌≡◌, refl}
use mathlib.Core.List.{[], ◌∷◌}
use mathlib.Core.Option.{none}
use lib.IntN.{pos}
use Rattle.decimal.specs.Decimal.{last_digits, digits, value_from, natural, signed}
use Rattle.timestamp_order.specs.Timestamp.{appended_or_same, raised_or_same}
use Rattle.timestamp_order.specs.Order.{order_by, tuples_order, pair_order, place_order, number_order}
use Rattle.timestamp_order.proofs.Examples.{comparisons_hold, partings_hold}
use Rattle.site_operations.specs.Operations.{worked}
use Rattle.placement.specs.Placement.{item_number, is_line, has_parents}
use Rattle.placement.specs.Places.{order_from, places_of, place_of, cyclic, placement_number}
use Rattle.protocol.specs.Steps.{set_up_number, set_up_network, commit_number, commit_network, deliver_number, deliver_network, schedule_number, schedule_network, earliest}
use Rattle.protocol.specs.Calls.{perform}
use Rattle.script_notation.specs.Fields.{position, fields}
use Rattle.script_notation.specs.Parse.{all, operation, placed, called, parse}
use Rattle.script_notation.specs.Print.{tuples_text, spaced, values_text, print}
use Rattle.script_notation.specs.Answers.{answer, answers}
use Rattle.script_notation.specs.Examples.{Holds, table, longest_line, LongHold}

-- values read are printed in their order
in_order : values_text (pos 5 ∷ pos 7 ∷ []) ≡ 32 ∷ 53 ∷ 32 ∷ 55 ∷ []
unfolding last_digits digits spaced
in_order = refl

pub examples_hold : Holds table
unfolding last_digits digits value_from natural signed appended_or_same raised_or_same order_by tuples_order pair_order place_order number_order worked item_number is_line has_parents order_from places_of place_of cyclic placement_number set_up_number set_up_network commit_number commit_network deliver_number deliver_network schedule_number schedule_network earliest perform position fields all operation placed called parse tuples_text spaced print answer answers
examples_hold = record { lines_hold = refl; pairs_hold = comparisons_hold; pairs_part = partings_hold }

longest_answered : (answer none longest_line.input).bytes ≡ longest_line.output
unfolding value_from natural last_digits digits set_up_number perform position fields all placed called parse print answer
longest_answered = refl

pub long_hold : LongHold
unfolding value_from natural last_digits digits set_up_number perform position fields all placed called parse print answer answers
long_hold = record { long_lines_lem = refl }
