-- What the reads of the three bookings give, by computation.
use mathlib.Core.Path.{◌≡◌, refl}
use mathlib.Core.List.{List, map}
use Rattle.site_operations.specs.Operations.{Op, worked, values_read}
use Rattle.site_operations.specs.Examples.{table_before, bookings, readings}

pub readings_hold : map (λ (os : List Op). values_read (worked table_before os).ops) bookings ≡ readings
unfolding worked
readings_hold = refl
